-- `halved` meets its contract: a pair of one type twice, as often as the number can be halved.
-- Assumes nothing.
use mathlib.Core.Path.{sym, ◌∙◌}
use borrow.Author.Tests.{not-true, not-false}
use Rattle.shapes.proofs.Halves.{halved_end, halved_none, halved_unlike, halved_next}
use Rattle.shapes.proofs.part.halved.Goals as goal

pub returns-in_err-part : goal.returns-in_err-part
returns-in_err-part c = rw c.from_residual.ensures (halved_none c.loop-count.invariant c.loop-count-test.true c.in_err-part.ensures)

pub returns-then-ne : goal.returns-then-ne
returns-then-ne c =
    halved_unlike c.loop-count.invariant c.loop-count-test.true c.in_ok-part.ensures c.side-in-loop-count.ensures (not-true _ (sym c.ne.ensures ∙ c.if-ne.true))

pub loop-count-preserved : goal.loop-count-preserved
loop-count-preserved c = halved_next c.loop-count.invariant c.loop-count-test.true c.in_ok-part.ensures c.side-in-loop-count.ensures (not-false _ (sym c.ne.ensures ∙ c.if-ne.false))

pub returns : goal.returns
returns c = halved_end c.loop-count.invariant c.loop-count-test.false
