-- `place` meets its contract: each turn leads to a side, until one place is left.
-- Assumes nothing.
use Rattle.std.proofs.lemmas.Bool.{le-leb, lt-leb}
use Rattle.shapes.proofs.Ways.{way_end, way_none, way_left, way_right}
use Rattle.shapes.proofs.part.place.Goals as goal

pub returns-in_err-at : goal.returns-in_err-at
returns-in_err-at c = rw c.from_residual.ensures (way_none c.loop-count.invariant c.loop-count-test.true c.split-half.ensures c.in_err-at.ensures)

pub loop-count-preserved-then-right : goal.loop-count-preserved-then-right
loop-count-preserved-then-right c =
    way_right c.loop-count.invariant c.loop-count-test.true c.split-half.ensures c.if-right.true (rw (le-leb _ _ c.if-right.true) at c.in_ok-at.ensures)

pub loop-count-preserved : goal.loop-count-preserved
loop-count-preserved c =
    way_left c.loop-count.invariant c.loop-count-test.true c.split-half.ensures c.if-right.false (rw (lt-leb _ _ c.if-right.false) at c.in_ok-at.ensures)

pub returns : goal.returns
returns c = way_end c.loop-count.invariant c.loop-count-test.false
