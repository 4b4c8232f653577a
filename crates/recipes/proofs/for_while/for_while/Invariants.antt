-- `for_while` meets its contract: the tasks from the end on are the loop.
-- Assumes nothing.
use lib.ListN.{take, drop}
use Rattle.std.specs.Prelude.{Ok}
use Rattle.named.specs.Stores.{Done}
use Rattle.recipes.specs.ForWhile.{done_from}
use Rattle.recipes.proofs.for_while.for_while.Given as goal

abbrev pub invariant-loop-k : goal.invariant-loop-k
invariant-loop-k l =
    Done l.initial.nodes (done_from l.place (drop l.k (take l.initial.k l.stack)) l.initial.at) (Ok l.at) l.nodes
