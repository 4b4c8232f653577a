-- `State::halt` meets its contract.
-- Assumes nothing.
use Rattle.machine.proofs.Turns.{answers_end}
use Rattle.machine.proofs.State.halt.Goals as goal

pub returns : goal.returns
returns c = answers_end _ _
