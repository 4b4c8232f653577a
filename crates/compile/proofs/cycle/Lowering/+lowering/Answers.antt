-- The lowering of expressions: each function of the cycle does what its definition says, and together they are `lower`.
-- Assumes nothing.
use mathlib.Core.Path.{refl, sym, ◌∙◌}
use native.Mathlib.Omega.{arith}
use lib.ListN.{length-set}
use Rattle.laws.specs.Table.{free}
use Rattle.book.specs.Format.{PATTERN, EXPRESSION, EC, EW, SA, SE, CK, FN}
use Rattle.book.proofs.Standing.{stands_begins, head_lies, function_mark}
use lib.Seq.{length-take-le}
use Rattle.named.proofs.Storing.{then, halt, handed, all_then, all_halt}
use Rattle.scope_bindings.specs.Scope.{of_function}
use Rattle.scope_bindings.proofs.Scopes.{scope_count, scope_root, root_stands}
use Rattle.parts.proofs.Marks.{lies, most}
use Rattle.parts.proofs.Spans.{stmt_lies, stmt_stands, stmt_below, does_mark}
use Rattle.compile.specs.Cycle.{begin_run, row_run}
use Rattle.compile.proofs.Shapes.{other_marks, row_is, row_else, cast_is, constant_is, witness_is, block_is, match_is, body_is, end_is}
use Rattle.compile.proofs.Steps.{at_full, suffices_next, suffices_halt, suffices_done}
use Rattle.compile.proofs.Blocks.{begun_start, begun_next, begun_halt, begun_end, begun_end_halt}
use Rattle.parts.proofs.Blocks.{end_stands, end_below}
use Rattle.compile.proofs.Facts.{head_is, head_less, in_span, does_stands, does_below, value_stands, value_below, inner_stands, arm_done, fn_lies, fn_stands, fn_less, functional_lies, functional_stands, functional_below, marked_as, marked, enters_is}
use borrow.Author.Rules.{rules}
use Rattle.compile.proofs.cycle.Lowering.+lowering.Goals as goal

pub arm-returns-then-scope-ge256 : goal.arm-returns-then-scope-ge256
arm-returns-then-scope-ge256 t c = grind (arith, at_full, scope_count)

pub arm-expression-requires : goal.arm-expression-requires
arm-expression-requires t c =
    ((omega (arith, c.decreases)), (c.requires.1.0, inner_stands c.requires.1.1 c.if-scope-ge256.false c.requires.0 c.insert-inner.ensures))

pub arm-returns : goal.arm-returns
arm-returns t c =
    arm_done c.requires.1.1 c.if-scope-ge256.false c.requires.0 c.insert-inner.ensures _ _ _ c.expression.ensures

pub begin-mark_at-requires : goal.begin-mark_at-requires
begin-mark_at-requires t c = stands_begins c.requires.0

pub begin-field_at-e-requires : goal.begin-field_at-e-requires
begin-field_at-e-requires t c = head_lies c.requires.0 SA (sym c.mark_at.ensures ∙ c.if-mark_at-eq-SA.true) 1 tt

pub begin-expression-requires : goal.begin-expression-requires
begin-expression-requires t c =
    ((omega (arith, c.decreases, value_below c.requires.0 (sym c.mark_at.ensures ∙ c.if-mark_at-eq-SA.true) c.field_at-e.ensures)), (value_stands c.requires.0 (sym c.mark_at.ensures ∙ c.if-mark_at-eq-SA.true) c.field_at-e.ensures, c.requires.1))

pub begin-returns-in_ok-value : goal.begin-returns-in_ok-value
unfolding begin_run
begin-returns-in_ok-value t c = grind (arith, then, scope_count)

pub begin-field_at-e-requires-else-mark_at-eq-SA : goal.begin-field_at-e-requires-else-mark_at-eq-SA
begin-field_at-e-requires-else-mark_at-eq-SA t c = head_lies c.requires.0 SE (does_mark c.requires.0 (λ z. c.if-mark_at-eq-SA.false (c.mark_at.ensures ∙ z))) 0 tt

pub begin-expression-requires-else-mark_at-eq-SA : goal.begin-expression-requires-else-mark_at-eq-SA
begin-expression-requires-else-mark_at-eq-SA t c =
    ((omega (arith, c.decreases, does_below c.requires.0 (λ z. c.if-mark_at-eq-SA.false (c.mark_at.ensures ∙ z)) c.field_at-e-else-mark_at-eq-SA.ensures)), (does_stands c.requires.0 (λ z. c.if-mark_at-eq-SA.false (c.mark_at.ensures ∙ z)) c.field_at-e-else-mark_at-eq-SA.ensures, c.requires.1))

pub block-field_at-count-requires : goal.block-field_at-count-requires
block-field_at-count-requires t c = lies c.requires.0 1 tt

pub block-field_at-s-requires : goal.block-field_at-s-requires
block-field_at-s-requires t c = stmt_lies c.requires.0 c.loop-k.k (omega (arith, c.loop-k-test.true, c.field_at-count.ensures))

pub block-begin-requires : goal.block-begin-requires
block-begin-requires t c =
    ((omega (arith, c.decreases, stmt_below c.requires.0 c.loop-k.k (omega (arith, c.loop-k-test.true, c.field_at-count.ensures)), c.field_at-s.ensures)), (stmt_stands c.requires.0 c.loop-k.k (omega (arith, c.loop-k-test.true, c.field_at-count.ensures)) c.field_at-s.ensures, c.loop-k.invariant.1))

pub block-enter-own-requires-clause-stands : goal.block-enter-own-requires-clause-stands
block-enter-own-requires-clause-stands t c =
    stmt_stands c.requires.0 c.loop-k.k (omega (arith, c.loop-k-test.true, c.field_at-count.ensures)) c.field_at-s.ensures

pub block-loop-k-init : goal.block-loop-k-init
block-loop-k-init t c = (search rules, c.requires.1, begun_start _ _ _ _ _ _ _ _ _ refl)

pub block-bounds-begun-k : goal.block-bounds-begun-k
block-bounds-begun-k t c = omega (arith, c.loop-k-test.true, most c.requires.0 1 tt refl, c.field_at-count.ensures, c.loop-k.invariant.0)

pub block-returns-in_err-begun : goal.block-returns-in_err-begun
block-returns-in_err-begun t c =
    rw (handed c.from_residual.ensures.1, block_is _ _ _ _ _ c.requires.0, ← c.field_at-count.ensures) (begun_halt c.loop-k.invariant.2 c.field_at-s.ensures (stmt_stands c.requires.0 c.loop-k.k (omega (arith, c.loop-k-test.true, c.field_at-count.ensures)) c.field_at-s.ensures) c.loop-k-test.true c.in_err-begun.ensures)

pub block-loop-k-preserved : goal.block-loop-k-preserved
block-loop-k-preserved t c =
    (simp length-set c.loop-k.invariant.0, c.enter-own.ensures.stands, begun_next c.loop-k.invariant.2 _ c.field_at-s.ensures (stmt_stands c.requires.0 c.loop-k.k (omega (arith, c.loop-k-test.true, c.field_at-count.ensures)) c.field_at-s.ensures) c.loop-k-test.true (omega (arith, c.loop-k-test.true, most c.requires.0 1 tt refl, c.field_at-count.ensures, c.loop-k.invariant.0)) c.in_ok-begun.ensures (enters_is _ c.enter-own.ensures c.in_ok-begun.ensures))

pub block-returns-in_err-last : goal.block-returns-in_err-last
block-returns-in_err-last t c =
    rw (handed c.from_residual-in_err-last.ensures.1, block_is _ _ _ _ _ c.requires.0, ← c.field_at-count.ensures) (begun_end_halt c.loop-k.invariant.2 c.loop-k-test.false c.loop-k.auto.k-end (rw (← c.field_at-count.ensures) at c.in_err-last.ensures))

pub block-slice_bounds-begun-end : goal.block-slice_bounds-begun-end
block-slice_bounds-begun-end t c = omega (arith, most c.requires.0 1 tt refl, c.field_at-count.ensures, c.loop-k.invariant.0)

pub block-slice_bounds-close_all-end : goal.block-slice_bounds-close_all-end
block-slice_bounds-close_all-end t c =
    sym (length-take-le _ _ (omega (arith, most c.requires.0 1 tt refl, c.field_at-count.ensures, c.loop-k.invariant.0)))

pub block-close_all-requires-clause-count_is : goal.block-close_all-requires-clause-count_is
block-close_all-requires-clause-count_is t c =
    length-take-le _ _ (omega (arith, most c.requires.0 1 tt refl, c.field_at-count.ensures, c.loop-k.invariant.0)) ∙ c.field_at-count.ensures

pub block-returns : goal.block-returns
block-returns t c =
    rw (block_is _ _ _ _ _ c.requires.0, ← c.field_at-count.ensures) (begun_end c.loop-k.invariant.2 c.loop-k-test.false c.loop-k.auto.k-end (omega (arith, most c.requires.0 1 tt refl, c.field_at-count.ensures, c.loop-k.invariant.0)) (rw (← c.field_at-count.ensures) at c.in_ok-last.ensures) c.close_all.ensures)

pub body-field_at-f-requires : goal.body-field_at-f-requires
body-field_at-f-requires t c = functional_lies c.requires.0 (sym c.is_functional.ensures ∙ c.if-is_functional.true)

pub body-function-requires : goal.body-function-requires
body-function-requires t c =
    ((omega (arith, c.decreases, functional_below c.requires.0 (sym c.is_functional.ensures ∙ c.if-is_functional.true) c.field_at-f.ensures)), functional_stands c.requires.0 (sym c.is_functional.ensures ∙ c.if-is_functional.true) c.field_at-f.ensures)

pub choose-field_at-e-requires : goal.choose-field_at-e-requires
choose-field_at-e-requires t c = lies c.requires.0 1 tt

pub choose-expression-requires : goal.choose-expression-requires
choose-expression-requires t c =
    ((omega (arith, c.decreases, head_less c.requires.0 1 EXPRESSION tt c.field_at-e.ensures)), (head_is c.requires.0 1 EXPRESSION tt c.field_at-e.ensures, c.requires.1))

pub elements-element-requires : goal.elements-element-requires
elements-element-requires t c =
    ((omega (arith, c.decreases)), (c.requires.0, (c.requires.1.0, in_span c.requires.0 c.requires.1.1.0 c.requires.1.1.1.0 _ (rw c.requires.1.1.1.1 at c.loop-k-test.true))))

pub elements-returns-in_err-root : goal.elements-returns-in_err-root
elements-returns-in_err-root t c =
    rw (handed c.from_residual.ensures.1) (suffices_halt c.loop-k.invariant _ (rw c.requires.1.1.1.1 at c.loop-k-test.true) c.in_err-root.ensures)

pub elements-loop-k-preserved : goal.elements-loop-k-preserved
elements-loop-k-preserved t c =
    suffices_next c.loop-k.invariant (rw c.requires.1.1.1.1 at c.loop-k-test.true) (omega arith) c.in_ok-root.ensures

pub elements-returns : goal.elements-returns
elements-returns t c = suffices_done c.loop-k.invariant (omega (arith, c.requires.1.1.1.1)) (omega arith)

pub end-expression-requires : goal.end-expression-requires
end-expression-requires t c =
    ((omega (arith, c.decreases, end_below c.requires.0 c.in-Some.ensures)), (end_stands c.requires.0 c.in-Some.ensures, c.requires.1))

pub end-returns-in-Some : goal.end-returns-in-Some
end-returns-in-Some t c = rw (end_is _ _ _ _ _, ← c.in-Some.ensures) c.expression.ensures

pub end-returns-in-None : goal.end-returns-in-None
end-returns-in-None t c = rw (end_is _ _ _ _ _, ← c.in-None.ensures) c.put.ensures

pub expression-mark_at-m-requires : goal.expression-mark_at-m-requires
expression-mark_at-m-requires t c = stands_begins c.requires.0

pub expression-field_at-e-requires : goal.expression-field_at-e-requires
expression-field_at-e-requires t c = lies (marked c.requires.0 c.mark_at-m.ensures CK c.in-31.is) 1 tt

pub expression-expression-requires : goal.expression-expression-requires
expression-expression-requires t c =
    ((omega (arith, c.decreases, head_less (marked c.requires.0 c.mark_at-m.ensures CK c.in-31.is) 1 EXPRESSION tt c.field_at-e.ensures)), (head_is (marked c.requires.0 c.mark_at-m.ensures CK c.in-31.is) 1 EXPRESSION tt c.field_at-e.ensures, c.requires.1))

pub expression-from_row-requires : goal.expression-from_row-requires
expression-from_row-requires t c =
    ((omega (arith, c.decreases)), (marked_as c.requires.0 c.mark_at-m.ensures, (c.requires.1, row_else (marked_as c.requires.0 c.mark_at-m.ensures) (free other_marks _ Unit c.in_default.in_default-own.rest).1)))

pub expression-returns-in-11 : goal.expression-returns-in-11
expression-returns-in-11 t c = rw (constant_is _ _ _ _ _ (marked c.requires.0 c.mark_at-m.ensures EC c.in-11.is)) c.constant.ensures

pub expression-returns-in-12 : goal.expression-returns-in-12
expression-returns-in-12 t c = rw (witness_is _ _ _ _ _ (marked c.requires.0 c.mark_at-m.ensures EW c.in-12.is)) c.witness.ensures

pub expression-returns-in-31 : goal.expression-returns-in-31
expression-returns-in-31 t c =
    rw (cast_is _ _ _ _ _ (marked c.requires.0 c.mark_at-m.ensures CK c.in-31.is), ← c.field_at-e.ensures) c.expression.ensures

pub from_row-returns : goal.from_row-returns
from_row-returns t c = rw (row_is _ _ _ _ _ _ c.requires.1.1 c.requires.0) (then _ c.in_ok-a.ensures c.complete.ensures)

pub from_row-returns-in_err-a : goal.from_row-returns-in_err-a
from_row-returns-in_err-a t c = rw (handed c.from_residual.ensures.1, row_is _ _ _ _ _ _ c.requires.1.1 c.requires.0) (halt _ c.in_err-a.ensures)

pub function-field_at-n-requires : goal.function-field_at-n-requires
function-field_at-n-requires t c = head_lies c.requires FN (function_mark c.requires) 1 tt

pub function-field_at-e-requires : goal.function-field_at-e-requires
function-field_at-e-requires t c = fn_lies c.requires c.field_at-n.ensures

pub function-expression-requires : goal.function-expression-requires
function-expression-requires t c =
    ((omega (arith, c.decreases, fn_less c.requires c.field_at-n.ensures c.field_at-e.ensures)), (fn_stands c.requires c.field_at-n.ensures c.field_at-e.ensures, root_stands (of_function c.requires) c.from_root-scope.ensures))

pub function-returns : goal.function-returns
function-returns t c = rw (body_is _ _ _ _ c.requires) (grind (arith, scope_root))

pub row-returns : goal.row-returns
unfolding row_run
row-returns t c = grind (arith, all_then)

pub row-returns-in_err-elements : goal.row-returns-in_err-elements
unfolding row_run
row-returns-in_err-elements t c = grind (arith, all_halt, handed)

pub two_arms-arm_at-left-requires : goal.two_arms-arm_at-left-requires
two_arms-arm_at-left-requires t c = (lies c.requires.0 2 tt, lies c.requires.0 3 tt)

pub two_arms-arm-requires : goal.two_arms-arm-requires
two_arms-arm-requires t c =
    ((omega (arith, c.decreases, head_less c.requires.0 3 EXPRESSION tt c.arm_at-left.ensures.1)), (head_is c.requires.0 2 PATTERN tt c.arm_at-left.ensures.0, (head_is c.requires.0 3 EXPRESSION tt c.arm_at-left.ensures.1, c.requires.1)))

pub two_arms-arm_at-right-requires : goal.two_arms-arm_at-right-requires
two_arms-arm_at-right-requires t c = (lies c.requires.0 4 tt, lies c.requires.0 5 tt)

pub two_arms-field_at-e-requires : goal.two_arms-field_at-e-requires
two_arms-field_at-e-requires t c = lies c.requires.0 1 tt

pub two_arms-arm-requires-2 : goal.two_arms-arm-requires-2
two_arms-arm-requires-2 t c =
    ((omega (arith, c.decreases, head_less c.requires.0 5 EXPRESSION tt c.arm_at-right.ensures.1)), (head_is c.requires.0 4 PATTERN tt c.arm_at-right.ensures.0, (head_is c.requires.0 5 EXPRESSION tt c.arm_at-right.ensures.1, c.requires.1)))

pub two_arms-expression-requires : goal.two_arms-expression-requires
two_arms-expression-requires t c =
    ((omega (arith, c.decreases, head_less c.requires.0 1 EXPRESSION tt c.field_at-e.ensures)), (head_is c.requires.0 1 EXPRESSION tt c.field_at-e.ensures, c.requires.1))

pub two_arms-returns-in_err-a : goal.two_arms-returns-in_err-a
two_arms-returns-in_err-a t c = rw (match_is _ _ _ _ _ c.requires.0) (grind (arith, halt, handed))

pub two_arms-returns-in_err-b : goal.two_arms-returns-in_err-b
two_arms-returns-in_err-b t c = rw (match_is _ _ _ _ _ c.requires.0) (grind (arith, then, halt, handed))

pub two_arms-returns-in_err-s : goal.two_arms-returns-in_err-s
two_arms-returns-in_err-s t c = rw (match_is _ _ _ _ _ c.requires.0) (grind (arith, then, halt, handed))

pub two_arms-returns : goal.two_arms-returns
two_arms-returns t c = rw (match_is _ _ _ _ _ c.requires.0) (grind (arith, then))
