-- `run_machine` meets its contract.
-- Assumes nothing.
use Rattle.run.proofs.Ends.{machine_starts}
use Rattle.run.proofs.Call.run_machine.Goals as goal

pub returns : goal.returns
returns c = machine_starts _ _ _ _ _ c.drive.ensures
