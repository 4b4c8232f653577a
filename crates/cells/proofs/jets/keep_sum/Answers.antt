-- `keep_sum` meets its contract: the carry, the sum, and then their pair.
-- Assumes nothing.
use Rattle.cells.proofs.Keepings.{keep_pair}
use Rattle.cells.proofs.jets.keep_sum.Goals as goal

pub returns : goal.returns
returns c = keep_pair _ _ c.keep_bit-high.ensures c.keep_word-low.ensures c.keep.ensures
