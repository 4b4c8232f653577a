-- `element_of` meets its contract: the last block's right side, after as many blocks as the bound can be halved.
-- Assumes nothing.
use Rattle.shapes.proofs.Lists.{element_start, element_end, element_none, element_next}
use Rattle.shapes.proofs.part.element_of.Goals as goal

pub loop-half-init : goal.loop-half-init
loop-half-init c = element_start c.requires.stands c.args.bound c.requires.list_bound

pub returns-in_err-at : goal.returns-in_err-at
returns-in_err-at c = rw c.from_residual.ensures (element_none c.loop-half.invariant c.loop-half-test.true c.in_err-at.ensures)

pub loop-half-preserved : goal.loop-half-preserved
loop-half-preserved c = element_next c.loop-half.invariant c.loop-half-test.true c.in_ok-at.ensures

pub returns : goal.returns
returns c = element_end c.loop-half.invariant c.loop-half-test.false c.side-2.ensures
