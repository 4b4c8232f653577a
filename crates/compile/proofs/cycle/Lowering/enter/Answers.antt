-- `enter` meets its contract: by the statement's mark and the room for a binding.
-- Assumes nothing.
use mathlib.Core.Path.{sym, ◌∙◌}
use Rattle.book.proofs.Standing.{stands_begins, head_lies}
use Rattle.book.specs.Format.{SA}
use Rattle.compile.proofs.Facts.{head_named, enters_does, enters_full, enters_more}
use native.Mathlib.Omega.{arith}
use Rattle.compile.proofs.cycle.Lowering.enter.Goals as goal
use Rattle.compile.proofs.cycle.Lowering.enter.Goals.{then-mark_at-ne-SA-via-then-mark_at-ne-SA, then-mark_at-ne-SA-via-else-mark_at-ne-SA+then-scope-ge256}

pub mark_at-requires : goal.mark_at-requires
mark_at-requires c = stands_begins c.requires.stands

pub returns-then-mark_at-ne-SA : goal.returns-then-mark_at-ne-SA
returns-then-mark_at-ne-SA c =
    elim c.then-mark_at-ne-SA.branch [
      | then-mark_at-ne-SA-via-then-mark_at-ne-SA w ↦ enters_does c.requires.scope_stands (λ z. w.if-mark_at-ne-SA.true (c.mark_at.ensures ∙ z))
      | then-mark_at-ne-SA-via-else-mark_at-ne-SA+then-scope-ge256 w ↦ enters_full c.requires.scope_stands (sym c.mark_at.ensures ∙ w.if-mark_at-ne-SA.false) (omega (arith, w.if-scope-ge256.true))
    ]

pub field_at-pattern-requires : goal.field_at-pattern-requires
field_at-pattern-requires c = head_lies c.requires.stands SA (sym c.mark_at.ensures ∙ c.if-mark_at-ne-SA.false) 0 tt

pub returns : goal.returns
returns c =
    enters_more c.requires.scope_stands (sym c.mark_at.ensures ∙ c.if-mark_at-ne-SA.false) (omega (arith, c.if-scope-ge256.false)) c.field_at-pattern.ensures (head_named c.requires.stands (sym c.mark_at.ensures ∙ c.if-mark_at-ne-SA.false) c.field_at-pattern.ensures) c.insert.ensures
