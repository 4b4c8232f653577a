-- `verify_jet` meets its contract: true, false, or no bit.
-- Assumes nothing.
use Rattle.cells.proofs.Deliveries.{verify_made, verify_fails, verify_stuck, stuck_exit}
use Rattle.cells.proofs.jets.verify_jet.Goals as goal

pub returns-in_err-n : goal.returns-in_err-n
returns-in_err-n c =
    rw (stuck_exit c.in_err-n.ensures.ok_part c.in_err-n.ensures.value c.from_residual.ensures)
    (verify_stuck _ c.argument_size.ensures c.word_at.ensures c.in_err-n.ensures.ok_part)

pub returns-then-n-eq1 : goal.returns-then-n-eq1
returns-then-n-eq1 c =
    verify_made _ c.argument_size.ensures c.word_at.ensures c.in_ok-n.ensures.ok_part c.if-n-eq1.true c.from.ensures c.keep.ensures

pub returns-else-n-eq1 : goal.returns-else-n-eq1
returns-else-n-eq1 c = verify_fails _ c.argument_size.ensures c.word_at.ensures c.in_ok-n.ensures.ok_part c.if-n-eq1.false
