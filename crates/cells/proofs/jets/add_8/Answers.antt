-- `add_8` meets its contract: two words, or none.
-- Assumes nothing.
use Rattle.cells.proofs.Deliveries.{add_made, words_stuck, stuck_exit}
use Rattle.std.proofs.Common.{rules}
use Rattle.cells.proofs.jets.add_8.Goals as goal

pub returns-in_err-a : goal.returns-in_err-a
returns-in_err-a c =
    rw (stuck_exit c.in_err-a.ensures.ok_part c.in_err-a.ensures.value c.from_residual.ensures)
    (words_stuck _ c.argument_size-k.ensures c.words_at.ensures _ c.in_err-a.ensures.ok_part)

pub returns : goal.returns
returns c =
    add_made _ c.argument_size-k.ensures c.words_at.ensures c.in_ok-a.ensures.ok_part c.from.ensures (search rules) (search rules) (search rules) c.keep_sum.ensures
