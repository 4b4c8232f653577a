-- `filled` meets its contract: each row is made of the one before.
-- Assumes nothing.
use Prim.Native.Nat.{◌-◌, ◌*◌, ◌^◌}
use mathlib.Core.Path.{◌≡◌}
use lib.ListN.{take}
use Rattle.recipes.specs.ForWhile.{tasks}
use Rattle.recipes.proofs.for_while.filled.Given as goal

abbrev pub invariant-loop-k : goal.invariant-loop-k
invariant-loop-k l = take (2 * 2 ^ l.k - 1) l.stack ≡ tasks l.k
