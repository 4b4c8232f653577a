-- `enter_part` meets its contract.
-- Assumes nothing.
use mathlib.Core.Path.{sym, ◌∙◌}
use Rattle.machine.proofs.Turns.{turned_answers, turned_down}
use Rattle.machine.proofs.Ways.{six, kind_take, kind_drop, kind_part}
use Rattle.machine.proofs.enter_part.Goals as goal

pub returns-then-kind_at-ne-PAIR : goal.returns-then-kind_at-ne-PAIR
returns-then-kind_at-ne-PAIR c =
    λ b ws. turned_answers c.requires.step_is.0 c.requires.step_is.1 c.halt.ensures (λ kids. kind_part _ _ _ _ kids _ c.requires.kind_at_is.0 c.requires.kind_at_is.1.0 c.requires.kind_at_is.1.1 (λ z. c.if-kind_at-ne-PAIR.true (c.kind_at.ensures ∙ z)))

pub returns-then-kind-eq-TAKE : goal.returns-then-kind-eq-TAKE
returns-then-kind-eq-TAKE c =
    λ b ws. turned_down c.requires.step_is.0 c.requires.step_is.1 c.down.ensures (λ kids. kind_take _ _ _ _ kids _ _ (c.requires.kind_at_is.0 ∙ c.if-kind-eq-TAKE.true) (sym c.kind_at.ensures ∙ c.if-kind_at-ne-PAIR.false) c.left_at-m.ensures c.left_at.ensures)

pub returns : goal.returns
returns c =
    λ b ws. turned_down c.requires.step_is.0 c.requires.step_is.1 c.down-2.ensures (λ kids. kind_drop _ _ _ _ kids _ _ (c.requires.kind_at_is.0 ∙ six _ c.requires.kind_at_is.1.0 c.requires.kind_at_is.1.1 c.if-kind-eq-TAKE.false) (sym c.kind_at.ensures ∙ c.if-kind_at-ne-PAIR.false) c.left_at-m.ensures c.right_at.ensures)
