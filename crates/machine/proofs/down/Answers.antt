-- `down` meets its contract.
-- Assumes nothing.
use Rattle.machine.proofs.Turns.{downed}
use Rattle.machine.proofs.down.Goals as goal

pub returns : goal.returns
returns c = downed _ _ _ _ _ _ c.told-frames c.requires
