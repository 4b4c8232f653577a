-- `State::back_kept` meets its contract.
-- Assumes nothing.
use Rattle.machine.proofs.Turns.{backs_kept, backs_full}
use Rattle.machine.proofs.State.back_kept.Goals as goal

pub returns-then-p : goal.returns-then-p
returns-then-p c = backs_full _ _ _ c.if-p.true c.halt.ensures

pub returns : goal.returns
returns c = backs_kept _ _ c.if-p.false
