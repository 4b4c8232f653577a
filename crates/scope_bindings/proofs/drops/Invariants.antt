-- `drops` meets its contract: one drop more than before.
-- Assumes nothing.
use lib.ListN.{replicate}
use Rattle.std.specs.Prelude.{Ok}
use Rattle.named.specs.Combinators.{DROP, wraps}
use Rattle.named.specs.Stores.{Done}
use Rattle.scope_bindings.proofs.drops.Given as goal

abbrev pub invariant-loop-k : goal.invariant-loop-k
invariant-loop-k l = Done l.initial.nodes (wraps l.place (replicate l._k DROP) l.initial.at) (Ok l.at) l.nodes
