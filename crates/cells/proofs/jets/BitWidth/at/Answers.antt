-- `at` of a bit meets its contract: the left, the right, or another cell.
-- Assumes nothing.
use Rattle.cells.proofs.Words.{bit_left, bit_right}
use Rattle.cells.proofs.jets.BitWidth.at.Goals as goal

pub returns-in-2 : goal.returns-in-2
returns-in-2 c = bit_left c.kind_at.ensures c.in-2.is c.bit_of.ensures

pub returns-in-3 : goal.returns-in-3
returns-in-3 c = bit_right c.kind_at.ensures c.in-3.is c.bit_of-in-3.ensures
