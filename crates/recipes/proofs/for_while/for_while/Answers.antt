-- `for_while` meets its contract: the tasks from the end on are the loop.
-- Assumes nothing.
use Rattle.std.proofs.Common.{refl, ◌-◌, ◌*◌, arith, rules}
use Rattle.named.proofs.Storing.{handed}
use Rattle.recipes.proofs.Loops.{done_next, done_stop, loop_all}
use Rattle.recipes.proofs.for_while.for_while.Goals as goal

pub returns-in_err-at : goal.returns-in_err-at
returns-in_err-at c =
    rw (handed c.from_residual.ensures.1)
    (loop_all _ _ 0 _ _ (omega arith) (rw (c.top.ensures, ← c.requires.width_is) at c.filled-stack.ensures)
    (done_stop _ _ c.filled-stack.result (2 * c.args.width - 1) (search rules) (c.loop-k.k - 1) (search rules)
    (done_next _ _ c.filled-stack.result (2 * c.args.width - 1) (search rules) (c.loop-k.k - 1) c.loop-k.k (search rules) (search rules) refl c.loop-k.invariant c.in_err-at.ensures)))

pub returns : goal.returns
returns c = loop_all _ _ c.loop-k.k _ _ (omega arith) (rw (c.top.ensures, ← c.requires.width_is) at c.filled-stack.ensures) c.loop-k.invariant
