-- `State::back` meets its contract.
-- Assumes nothing.
use Rattle.machine.proofs.Turns.{answers_back}
use Rattle.machine.proofs.State.back.Goals as goal

pub returns : goal.returns
returns c = answers_back _ _
