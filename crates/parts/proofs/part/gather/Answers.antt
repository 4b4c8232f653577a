-- `gather` meets its contract: by the mark, and a list by half its bound.
-- Assumes nothing.
use native.Mathlib.Omega.{arith}
use borrow.Author.Tests.{ne_eqb}
use Rattle.book.specs.Format.{EL}
use Rattle.parts.specs.Parts.{gather_run}
use Rattle.parts.proofs.Marks.{lies, at_mark}
use Rattle.parts.proofs.Numbers.{list_bound, list_count}
use Rattle.parts.proofs.Lists.{listed_half}
use Rattle.parts.proofs.part.gather.Goals as goal
use Rattle.parts.proofs.part.gather.Goals.{then-m-eq-EH, else-m-eq-EH}

pub field_at-bound-requires : goal.field_at-bound-requires
field_at-bound-requires c = lies (at_mark c.requires.marked EL c.if-m-eq-EL.true) 1 tt

pub list-requires : goal.list-requires
list-requires c =
    let g = at_mark c.requires.marked EL c.if-m-eq-EL.true in
    let h = list_bound g _ c.field_at-bound.ensures in
    (omega (arith, h.double, list_count g c.if-m-eq-EL.true _ c.requires.count_is, c.field_at-bound.ensures), h.power)

pub returns-then-m-eq-EL : goal.returns-then-m-eq-EL
unfolding gather_run
returns-then-m-eq-EL c =
    let h = list_bound (at_mark c.requires.marked EL c.if-m-eq-EL.true) _ c.field_at-bound.ensures in
    rw (c.if-m-eq-EL.true, ← c.field_at-bound.ensures, listed_half _ _ _ h) c.list.ensures

pub returns : goal.returns
unfolding gather_run
returns c =
    elim c.if-m-eq-EH.branch [
      | then-m-eq-EH w ↦ rw w.if-m-eq-EH.true (rw w.kind-is at c.join.ensures)
      | else-m-eq-EH w ↦ rw (ne_eqb _ _ c.if-m-eq-EL.false, ne_eqb _ _ w.if-m-eq-EH.false) (rw w.kind-is at c.join.ensures)
    ]
