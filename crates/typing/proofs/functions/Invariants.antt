-- `functions` meets its contract: the functions before r have passed.
-- Assumes nothing.
use Prim.Native.Nat.{◌-◌}
use Rattle.typing.specs.Cycle.{Stays}
use Rattle.typing.specs.Whole.{in_order, function_at}
use Rattle.typing.proofs.functions.Given as goal

abbrev pub invariant-loop-r : goal.invariant-loop-r
invariant-loop-r l =
    let left = in_order (function_at l.book.bytes l.book.index) in
    Stays l.book.bytes l.book.index (left 0 l.n) 0 l.initial.judge (left l.r (l.n - l.r)) l.judge
