-- `nodes::first_bad` meets its contract: the nodes before n are well formed, and so are the operands before k.
-- Assumes nothing.
use Prim.Native.Nat.{ℕ, ◌-◌, ◌≤◌, ◌<◌}
use mathlib.Core.Bool.{true}
use mathlib.Core.Path.{◌≡◌}
use Rattle.nodes.specs.Nodes.{operand_fits, first_bad}
use Rattle.nodes.proofs.check.first_bad.Given as goal

abbrev pub invariant-loop-k : goal.invariant-loop-k
invariant-loop-k l = (j : ℕ) → j < l.k → operand_fits l.book l.nodes l.n j ≡ true

abbrev pub invariant-scan : goal.invariant-scan
invariant-scan l =
    (l.n ≤ l.count) × (first_bad l.book l.nodes 0 l.count ≡ first_bad l.book l.nodes l.n (l.count - l.n))

abbrev pub decreases-scan : goal.decreases-scan
decreases-scan l = l.count - l.n
