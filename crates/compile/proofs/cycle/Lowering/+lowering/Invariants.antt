-- The lowering of expressions: each function of the cycle does what its definition says, and together they are `lower`.
-- Assumes nothing.
use Prim.Native.Nat.{◌+◌, ◌*◌}
use mathlib.Core.Path.{◌≡◌}
use lib.ListN.{length}
use Rattle.scope_bindings.specs.Scope.{scope_of, ScopeStands}
use Rattle.compile.proofs.Steps.{Suffices}
use Rattle.compile.proofs.Blocks.{Begun}
use Rattle.compile.proofs.cycle.Lowering.+lowering.Given as goal

abbrev pub decreases-arm : goal.decreases-arm
decreases-arm l = l.a.body * 16 + 15

abbrev pub decreases-begin : goal.decreases-begin
decreases-begin l = l.s * 16 + 0

abbrev pub decreases-block : goal.decreases-block
decreases-block l = l.r * 16 + 13

abbrev pub invariant-block-loop-k : goal.invariant-block-loop-k
invariant-block-loop-k l =
    (length l.begun ≡ 256) × ScopeStands l.self.book.now.bytes l.self.book.now.index l.own × Begun l.self.symbols l.self.book.now.bytes l.self.book.now.index l.r l.count (scope_of l.self.book.now.bytes l.self.book.now.index l.scope) l.initial.nodes l.nodes l.k (scope_of l.self.book.now.bytes l.self.book.now.index l.own) l.begun

abbrev pub decreases-body : goal.decreases-body
decreases-body l = l.r * 16 + 7

abbrev pub decreases-call : goal.decreases-call
decreases-call l = l.r * 16 + 8

abbrev pub decreases-choose : goal.decreases-choose
decreases-choose l = l.r * 16 + 8

abbrev pub decreases-complete : goal.decreases-complete
decreases-complete l = l.r * 16 + 9

abbrev pub decreases-element : goal.decreases-element
decreases-element l = l.r * 16 + 10

abbrev pub decreases-elements : goal.decreases-elements
decreases-elements l = l.r * 16 + 11

abbrev pub invariant-elements-loop-k : goal.invariant-elements-loop-k
invariant-elements-loop-k l =
    Suffices l.self.symbols l.self.book.now.bytes l.self.book.now.index l.r l.m (scope_of l.self.book.now.bytes l.self.book.now.index l.scope) l.span.stride l.span.from l.span.count l.initial.nodes l.nodes l.k l.roots

abbrev pub decreases-end : goal.decreases-end
decreases-end l = l.r * 16 + 10

abbrev pub decreases-expression : goal.decreases-expression
decreases-expression l = l.r * 16 + 14

abbrev pub decreases-from_row : goal.decreases-from_row
decreases-from_row l = l.r * 16 + 13

abbrev pub decreases-function : goal.decreases-function
decreases-function l = l.f * 16 + 15

abbrev pub decreases-row : goal.decreases-row
decreases-row l = l.r * 16 + 12

abbrev pub decreases-two_arms : goal.decreases-two_arms
decreases-two_arms l = l.r * 16 + 13
