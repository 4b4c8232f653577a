-- CHECK's cycle: each function judges what its definition says, and leaves the live bindings as they were.
-- Assumes nothing.
use Prim.Native.Nat.{◌+◌, ◌*◌, ◌-◌}
use Rattle.book.specs.Tree.{type_of}
use Rattle.binders.specs.Memos.{scope_of}
use Rattle.typing.specs.Cycle.{Stays, checks_at, row_of, arms_from}
use Rattle.typing.proofs.Steps.{Block}
use Rattle.typing.proofs.cycle.Judge.+checking.Given as goal

abbrev pub decreases-arm : goal.decreases-arm
decreases-arm l = l.r * 16 + 10

abbrev pub decreases-arms : goal.decreases-arms
decreases-arms l = l.r * 16 + 11

abbrev pub invariant-arms-loop-k : goal.invariant-arms-loop-k
invariant-arms-loop-k l =
    let left = arms_from l.book.bytes l.book.index l.r l.from l.n (type_of l.book.bytes l.book.index l.t) (scope_of l.book.bytes l.book.index l.initial.self.bindings l.scope.live l.scope.base) in
    Stays l.book.bytes l.book.index (left 0 l.n) l.scope.live l.initial.self (left l.k (l.n - l.k)) l.self

abbrev pub decreases-block : goal.decreases-block
decreases-block l = l.r * 16 + 12

abbrev pub invariant-block-loop-k : goal.invariant-block-loop-k
invariant-block-loop-k l =
    Block l.book.bytes l.book.index l.r l.n l.scope.live l.scope.base l.initial.self l.self l.live l.k

abbrev pub decreases-does : goal.decreases-does
decreases-does l = l.s * 16 + 14

abbrev pub decreases-expression : goal.decreases-expression
decreases-expression l = l.r * 16 + 14

abbrev pub decreases-matching : goal.decreases-matching
decreases-matching l = l.r * 16 + 12

abbrev pub decreases-parts : goal.decreases-parts
decreases-parts l = l.r * 16 + 13

abbrev pub decreases-row : goal.decreases-row
decreases-row l = l.r * 16 + 12

abbrev pub invariant-row-loop-k : goal.invariant-row-loop-k
invariant-row-loop-k l =
    let sc = (scope_of l.book.bytes l.book.index l.initial.self.bindings l.scope.live l.scope.base) in
    Stays l.book.bytes l.book.index (row_of l.book.bytes l.book.index l.r l.m sc) l.scope.live l.initial.self (checks_at l.book.bytes l.book.index l.r sc l.span.stride (l.span.from + l.span.stride * l.k) (l.span.count - l.k)) l.self

abbrev pub decreases-stmt : goal.decreases-stmt
decreases-stmt l = l.s * 16 + 15
