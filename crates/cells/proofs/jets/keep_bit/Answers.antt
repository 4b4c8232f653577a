-- `keep_bit` meets its contract: the unit, and then the side.
-- Assumes nothing.
use Rattle.cells.proofs.Keepings.{bit_true, bit_false}
use Rattle.cells.proofs.jets.keep_bit.Goals as goal

pub returns-then-set : goal.returns-then-set
returns-then-set c = bit_true c.if-set.true c.keep-unit.ensures c.keep.ensures

pub returns-else-set : goal.returns-else-set
returns-else-set c = bit_false c.if-set.false c.keep-unit.ensures c.keep-else-set.ensures
