-- `enter_jet` meets its contract.
-- Assumes nothing.
use mathlib.Core.Path.{refl}
use Rattle.machine.proofs.Backs.{jet_made, jet_ended}
use Rattle.machine.proofs.enter_jet.Goals as goal

pub returns-in-Ok : goal.returns-in-Ok
returns-in-Ok c = jet_made c.run_jet.ensures c.in-Ok.is c.back_kept.ensures

pub returns-in-Err : goal.returns-in-Err
returns-in-Err c = jet_ended c.run_jet.ensures c.in-Err.is (rw c.from.ensures at c.halt.ensures) refl
