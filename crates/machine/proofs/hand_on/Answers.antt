-- `hand_on` meets its contract.
-- Assumes nothing.
use Rattle.machine.proofs.Turns.{entered_full, entered_kept}
use Rattle.machine.proofs.hand_on.Goals as goal

pub returns-then-p : goal.returns-then-p
returns-then-p c = entered_full _ _ _ c.from.ensures c.keep-p.ensures _ c.requires c.if-p.true c.halt.ensures

pub returns : goal.returns
returns c = entered_kept _ _ _ c.from.ensures c.keep-p.ensures _ c.if-p.false c.down.ensures
