-- `initial::number_values` meets its contract: the first r records are numbered.
-- Assumes nothing.
use native.Mathlib.Omega.{arith}
use mathlib.Core.Path.{sym, ◌∙◌}
use Rattle.book.specs.Text.{text}
use Rattle.run.proofs.Seeds.{few_values, number_none, number_value, number_other, number_all}
use Rattle.run.proofs.initial.number_values.Goals as goal
use Rattle.run.proofs.initial.number_values.Goals.{then-is_of, else-is_of}

pub loop-r-init : goal.loop-r-init
loop-r-init c = number_none (text _ _ _) _ c.requires.row_is

pub overflow_add-next : goal.overflow_add-next
overflow_add-next c =
    omega (arith, few_values c.args.book.now c.loop-r.r, c.loop-r.invariant.inside, c.loop-r.invariant.counts, c.requires.valid.rows.few)

pub loop-r-preserved : goal.loop-r-preserved
loop-r-preserved c =
    let h = c.loop-r.invariant in
    let l = rw c.records-r-end.ensures at c.loop-r-test.true in
    let e = sym c.is_of.ensures in
    elim c.if-is_of.branch [
      | then-is_of w ↦ rw (w.row-is, w.next-is) (number_value (text _ _ _) h l (omega (arith, c.requires.valid.rows.few)) (e ∙ w.if-is_of.true))
      | else-is_of w ↦ rw (w.row-is, w.next-is) (number_other (text _ _ _) h l (e ∙ w.if-is_of.false))
    ]

pub returns : goal.returns
returns c = number_all (text _ _ _) c.loop-r.invariant (rw c.records-r-end.ensures at c.loop-r-test.false)
