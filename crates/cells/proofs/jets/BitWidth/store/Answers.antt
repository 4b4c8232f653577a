-- `store` of a bit meets its contract: a bit.
-- Assumes nothing.
use Rattle.cells.proofs.Words.{keep_bits}
use Rattle.cells.proofs.jets.BitWidth.store.Goals as goal

pub returns : goal.returns
returns c = keep_bits _ c.keep_bit.ensures
