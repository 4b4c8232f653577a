-- `eq_8` meets its contract: two words, or none.
-- Assumes nothing.
use Rattle.cells.proofs.Deliveries.{eq_made, words_stuck, stuck_exit}
use Rattle.cells.proofs.jets.eq_8.Goals as goal

pub returns-in_err-a : goal.returns-in_err-a
returns-in_err-a c =
    rw (stuck_exit c.in_err-a.ensures.ok_part c.in_err-a.ensures.value c.from_residual.ensures)
    (words_stuck _ c.argument_size.ensures c.words_at.ensures _ c.in_err-a.ensures.ok_part)

pub returns : goal.returns
returns c = eq_made _ c.argument_size.ensures c.words_at.ensures c.in_ok-a.ensures.ok_part c.from.ensures c.keep_bit.ensures
