-- `values` meets its contract: the records before r have passed.
-- Assumes nothing.
use Prim.Native.Nat.{◌-◌}
use mathlib.Core.Path.{◌≡◌}
use Rattle.typing.specs.Whole.{in_order, value_at}
use Rattle.typing.proofs.values.Given as goal

abbrev pub invariant-loop-r : goal.invariant-loop-r
invariant-loop-r l =
    let left = in_order (value_at l.book.bytes l.book.index) in
    left 0 l.n ≡ left l.r (l.n - l.r)
