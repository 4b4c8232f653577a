-- `select` meets its contract: the steps from the last on, so that the first comes to lie outermost.
-- Assumes nothing.
use lib.ListN.{drop}
use Rattle.std.specs.Prelude.{Ok}
use Rattle.named.specs.Combinators.{wraps}
use Rattle.named.specs.Stores.{Done}
use Rattle.named.proofs.build.select.Given as goal

abbrev pub invariant-loop-k : goal.invariant-loop-k
invariant-loop-k l =
    Done l.initial.nodes (wraps l.place (drop l.k l.steps) l.initial.at) (Ok l.at) l.nodes
