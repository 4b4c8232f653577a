-- CHECK's cycle: each function judges what its definition says, and leaves the live bindings as they were.
-- Assumes nothing.
use mathlib.Core.Path.{refl, sym, ◌∙◌}
use native.Mathlib.Omega.{arith}
use Rattle.std.proofs.Common.{rules}
use Rattle.book.specs.Format.{EM, EH, CK}
use Rattle.book.proofs.Standing.{stands_begins}
use Rattle.parts.proofs.Marks.{at_mark}
use Rattle.parts.proofs.Spans.{stmt_lies}
use Rattle.shapes.proofs.Same.{gives_stands}
use Rattle.typing.proofs.Depths.{enough_part, enough_one}
use Rattle.typing.proofs.Scopes.{stays_scoped}
use Rattle.typing.proofs.Facts.{marked, checks_none, row_lies, row_part, block_lies, block_most, stmt_part, end_part, does_lies, does_part, bound_lies, bound_part, value_lies, value_part, two_arms, arms_count, enum_arms, cast_lies, cast_part}
use Rattle.typing.proofs.Judging.{handed, at_once, stays_as}
use Rattle.typing.proofs.Steps.{stays_of, arm_then, arm_halt, place_there, place_type, row_start, arms_none, match_not, agreed, block_start, block_scoped, block_halt, block_next, block_none, block_ended, does_then, does_halt, does_stated, assign_then, assign_halt, expr_then, expr_halt, parts_block, parts_match, parts_enum, parts_cast, parts_row, row_again, row_halt, arms_again, arms_halt, match_then, match_halt}
use Rattle.typing.proofs.cycle.Judge.+checking.Goals as goal

pub arm-returns : goal.arm-returns
arm-returns t c = arm_then _ c.bind.ensures _ c.field_at-p.ensures c.field_at-e.ensures c.in_ok-bind.was c.expression.ensures

pub arm-returns-in_err-bind : goal.arm-returns-in_err-bind
arm-returns-in_err-bind t c = arm_halt _ c.bind.ensures _ c.field_at-p.ensures c.field_at-e.ensures (handed c.in_err-bind.was c.from_residual.ensures.1)

pub arms-unwrap-s-requires : goal.arms-unwrap-s-requires
arms-unwrap-s-requires t c = place_there c.requires.1.0 c.loop-k-test.true c.place.ensures

pub arms-arm-requires : goal.arms-arm-requires
arms-arm-requires t c =
    (omega (arith, c.decreases), (c.requires.0.each _ c.loop-k-test.true, (gives_stands (rw c.unwrap-s.ensures at c.place.ensures), (stays_scoped c.loop-k.invariant c.requires.1.1.0, c.requires.1.1.1))))

pub arms-returns-in_err-arm : goal.arms-returns-in_err-arm
arms-returns-in_err-arm t c =
    arms_halt _ _ _ _ _ c.loop-k.invariant c.loop-k-test.true c.arm.ensures (place_type _ _ _ (rw c.unwrap-s.ensures at c.place.ensures)) (handed c.in_err-arm.was c.from_residual.ensures.1)

pub arms-loop-k-preserved : goal.arms-loop-k-preserved
arms-loop-k-preserved t c =
    arms_again _ _ _ _ _ c.loop-k.invariant c.loop-k-test.true c.arm.ensures (place_type _ _ _ (rw c.unwrap-s.ensures at c.place.ensures)) _ c.in_ok-arm.was refl

pub arms-returns : goal.arms-returns
arms-returns t c = stays_as c.loop-k.invariant (arms_none _ _ _ _ _ _ _ _ (omega arith))

pub block-field_at-n-requires : goal.block-field_at-n-requires
block-field_at-n-requires t c = block_lies c.requires.0

pub block-loop-k-init : goal.block-loop-k-init
block-loop-k-init t c = block_start _ _ c.requires.1.0 c.field_at-n.ensures

pub block-field_at-s-requires : goal.block-field_at-s-requires
block-field_at-s-requires t c = stmt_lies c.requires.0 _ (omega (arith, c.field_at-n.ensures, c.loop-k-test.true))

pub block-stmt-requires : goal.block-stmt-requires
block-stmt-requires t c =
    let p = stmt_part c.requires.0 _ (omega (arith, c.field_at-n.ensures, c.loop-k-test.true)) c.field_at-s.ensures in (omega (arith, c.decreases, p.below), (p.stands, (block_scoped c.loop-k.invariant c.requires.1.0, enough_part _ _ c.requires.1.1 p.shallower (omega (arith, c.loop-k.invariant.few, block_most c.requires.0 c.field_at-n.ensures)))))

pub block-entered-live-requires : goal.block-entered-live-requires
block-entered-live-requires t c =
    let p = stmt_part c.requires.0 _ (omega (arith, c.field_at-n.ensures, c.loop-k-test.true)) c.field_at-s.ensures in
    record { stands = p.stands; live_in_range = enough_one (enough_part _ _ c.requires.1.1 p.shallower (omega (arith, c.loop-k.invariant.few, block_most c.requires.0 c.field_at-n.ensures))) }

pub block-returns-in_err-stmt : goal.block-returns-in_err-stmt
block-returns-in_err-stmt t c =
    block_halt c.loop-k.invariant c.stmt.ensures c.loop-k-test.true c.field_at-s.ensures (stmt_part c.requires.0 _ (omega (arith, c.field_at-n.ensures, c.loop-k-test.true)) c.field_at-s.ensures).stands (handed c.in_err-stmt.was c.from_residual.ensures.1)

pub block-loop-k-preserved : goal.block-loop-k-preserved
block-loop-k-preserved t c =
    block_next c.loop-k.invariant c.stmt.ensures c.loop-k-test.true c.field_at-s.ensures (stmt_part c.requires.0 _ (omega (arith, c.field_at-n.ensures, c.loop-k-test.true)) c.field_at-s.ensures).stands _ _ c.in_ok-stmt.was refl c.entered-live.ensures

pub block-expression-requires : goal.block-expression-requires
block-expression-requires t c =
    let p = end_part c.requires.0 c.in-Some.ensures in (omega (arith, c.decreases, p.below), (p.stands, (block_scoped c.loop-k.invariant c.requires.1.0, enough_part _ _ c.requires.1.1 p.shallower (omega (arith, c.loop-k.invariant.few, block_most c.requires.0 c.field_at-n.ensures)))))

pub block-returns-in-Some : goal.block-returns-in-Some
block-returns-in-Some t c = block_ended c.loop-k.invariant (omega arith) c.field_at-n.ensures c.in-Some.ensures c.expression.ensures

pub block-returns-in-None : goal.block-returns-in-None
block-returns-in-None t c = block_none c.loop-k.invariant (omega arith) c.field_at-n.ensures c.in-None.ensures

pub does-field_at-e-requires : goal.does-field_at-e-requires
does-field_at-e-requires t c = does_lies c.requires.0 c.requires.1.0

pub does-expression-requires : goal.does-expression-requires
does-expression-requires t c =
    let p = does_part c.requires.0 c.requires.1.0 c.field_at-e.ensures in (omega (arith, c.decreases, p.below), (p.stands, (c.requires.1.1.0, enough_part _ _ c.requires.1.1.1 p.shallower (omega arith))))

pub does-type_of-t-requires : goal.does-type_of-t-requires
does-type_of-t-requires t c = (does_part c.requires.0 c.requires.1.0 c.field_at-e.ensures).stands

pub does-returns : goal.does-returns
does-returns t c =
    does_then _ _ c.requires.1.0 c.field_at-e.ensures c.expression.ensures c.in_ok-expression.was (c.agree.ensures ∙ rw (c.is_unit.ensures, c.type_of-t.ensures.1))

pub does-returns-in_err-expression : goal.does-returns-in_err-expression
does-returns-in_err-expression t c = does_halt _ _ c.requires.1.0 c.field_at-e.ensures c.expression.ensures (handed c.in_err-expression.was c.from_residual.ensures.1)

pub expression-mark_at-m-requires : goal.expression-mark_at-m-requires
expression-mark_at-m-requires t c = stands_begins c.requires.0

pub expression-returns : goal.expression-returns
expression-returns t c =
    expr_then _ (marked c.requires.0 c.mark_at-m.ensures) c.if-m-eq-EV.false c.parts.ensures c.in_ok-parts.was c.agrees.ensures c.agree.ensures

pub expression-returns-in_err-parts : goal.expression-returns-in_err-parts
expression-returns-in_err-parts t c = expr_halt _ (marked c.requires.0 c.mark_at-m.ensures) c.if-m-eq-EV.false c.parts.ensures (handed c.in_err-parts.was c.from_residual.ensures.1)

pub matching-returns-in_err-agree : goal.matching-returns-in_err-agree
matching-returns-in_err-agree t c =
    at_once c.requires.1.0.rows (match_not _ _ _ _ _ _ _ c.field_at-e.ensures c.type_of-t.ensures.1 c.has_places.ensures c.agree.ensures (handed c.in_err-agree.was c.from_residual.ensures.1))

pub matching-expression-requires : goal.matching-expression-requires
matching-expression-requires t c =
    (omega (arith, c.decreases, c.requires.0.below, c.field_at-e.ensures), (rw c.field_at-e.ensures c.requires.0.scrutinee, (stays_scoped c.arms.ensures c.requires.1.0, enough_part _ _ c.requires.1.1 (rw c.field_at-e.ensures c.requires.0.shallower) (omega arith))))

pub matching-returns : goal.matching-returns
matching-returns t c =
    match_then _ _ _ _ _ c.field_at-e.ensures c.type_of-t.ensures.1 (agreed _ _ c.has_places.ensures c.agree.ensures c.in_ok-agree.was) c.arms.ensures c.in_ok-arms.was c.expression.ensures

pub matching-returns-in_err-arms : goal.matching-returns-in_err-arms
matching-returns-in_err-arms t c =
    match_halt _ _ _ _ _ c.field_at-e.ensures c.type_of-t.ensures.1 (agreed _ _ c.has_places.ensures c.agree.ensures c.in_ok-agree.was) c.arms.ensures (handed c.in_err-arms.was c.from_residual-in_err-arms.ensures.1)

pub parts-returns-in-19 : goal.parts-returns-in-19
parts-returns-in-19 t c = stays_of c.block.ensures (parts_block _ _ _ _ _ c.in-19.is)

pub parts-matching-requires : goal.parts-matching-requires
parts-matching-requires t c = (omega (arith, c.decreases), (two_arms (at_mark c.requires.0 EM c.in-22.is), c.requires.1.1))

pub parts-returns-in-22 : goal.parts-returns-in-22
parts-returns-in-22 t c = stays_of c.matching.ensures (parts_match _ _ _ _ _ c.in-22.is)

pub parts-field_at-n-requires : goal.parts-field_at-n-requires
parts-field_at-n-requires t c = arms_count (at_mark c.requires.0 EH c.in-23.is)

pub parts-matching-requires-in-23 : goal.parts-matching-requires-in-23
parts-matching-requires-in-23 t c =
    (omega (arith, c.decreases), (enum_arms (at_mark c.requires.0 EH c.in-23.is) _ c.field_at-n.ensures, c.requires.1.1))

pub parts-returns-in-23 : goal.parts-returns-in-23
parts-returns-in-23 t c = stays_of c.matching-in-23.ensures (parts_enum _ _ _ _ _ _ c.in-23.is c.field_at-n.ensures)

pub parts-field_at-e-requires : goal.parts-field_at-e-requires
parts-field_at-e-requires t c = cast_lies (at_mark c.requires.0 CK c.in-31.is)

pub parts-expression-requires : goal.parts-expression-requires
parts-expression-requires t c =
    let p = cast_part (at_mark c.requires.0 CK c.in-31.is) c.field_at-e.ensures in (omega (arith, c.decreases, p.below), (p.stands, (c.requires.1.1.0, enough_part _ _ c.requires.1.1.1 p.shallower (omega arith))))

pub parts-returns-in-31 : goal.parts-returns-in-31
parts-returns-in-31 t c = stays_of c.expression.ensures (parts_cast _ _ _ _ _ _ c.in-31.is c.field_at-e.ensures)

pub parts-returns-in_default : goal.parts-returns-in_default
parts-returns-in_default t c =
    stays_of c.row.ensures (parts_row _ _ _ _ _ (search rules) (search rules) (search rules) (search rules))

pub row-loop-k-init : goal.row-loop-k-init
row-loop-k-init t c = at_once c.requires.1.0.rows (sym (row_start _ c.span_of-span.ensures))

pub row-field_at-e-requires : goal.row-field_at-e-requires
row-field_at-e-requires t c = row_lies c.requires.0 c.span_of-span.ensures _ c.loop-k-test.true

pub row-expression-requires : goal.row-expression-requires
row-expression-requires t c =
    let p = row_part c.requires.0 c.span_of-span.ensures _ c.loop-k-test.true c.field_at-e.ensures in (omega (arith, c.decreases, p.below), (p.stands, (stays_scoped c.loop-k.invariant c.requires.1.0, enough_part _ _ c.requires.1.1 p.shallower (omega arith))))

pub row-returns-in_err-expression : goal.row-returns-in_err-expression
row-returns-in_err-expression t c =
    row_halt _ c.span_of-span.ensures c.loop-k.invariant c.loop-k-test.true c.expression.ensures c.field_at-e.ensures (handed c.in_err-expression.was c.from_residual.ensures.1)

pub row-loop-k-preserved : goal.row-loop-k-preserved
row-loop-k-preserved t c =
    row_again _ c.span_of-span.ensures c.loop-k.invariant c.loop-k-test.true c.expression.ensures c.field_at-e.ensures _ c.in_ok-expression.was refl

pub row-returns : goal.row-returns
row-returns t c = stays_as c.loop-k.invariant (sym (checks_none _ _ _ _ _ _ _ (omega arith)))

pub stmt-mark_at-requires : goal.stmt-mark_at-requires
stmt-mark_at-requires t c = stands_begins c.requires.0

pub stmt-returns-then-mark_at-ne-SA : goal.stmt-returns-then-mark_at-ne-SA
stmt-returns-then-mark_at-ne-SA t c = does_stated (λ e. c.if-mark_at-ne-SA.true (c.mark_at.ensures ∙ e)) c.requires.1.0 c.does.ensures

pub stmt-field_at-p-requires : goal.stmt-field_at-p-requires
stmt-field_at-p-requires t c = bound_lies c.requires.0 (sym c.mark_at.ensures ∙ c.if-mark_at-ne-SA.false)

pub stmt-field_at-e-requires : goal.stmt-field_at-e-requires
stmt-field_at-e-requires t c = value_lies c.requires.0 (sym c.mark_at.ensures ∙ c.if-mark_at-ne-SA.false)

pub stmt-expression-requires : goal.stmt-expression-requires
stmt-expression-requires t c =
    let p = value_part c.requires.0 (sym c.mark_at.ensures ∙ c.if-mark_at-ne-SA.false) c.field_at-e.ensures in (omega (arith, c.decreases, p.below), (p.stands, (c.requires.1.0, enough_part _ _ c.requires.1.1 p.shallower (omega arith))))

pub stmt-type_of-t-requires : goal.stmt-type_of-t-requires
stmt-type_of-t-requires t c = (value_part c.requires.0 (sym c.mark_at.ensures ∙ c.if-mark_at-ne-SA.false) c.field_at-e.ensures).stands

pub stmt-bind-requires-clause-stands : goal.stmt-bind-requires-clause-stands
stmt-bind-requires-clause-stands t c = (bound_part c.requires.0 (sym c.mark_at.ensures ∙ c.if-mark_at-ne-SA.false) c.field_at-p.ensures).stands

pub stmt-bind-requires-clause-live_in_range : goal.stmt-bind-requires-clause-live_in_range
stmt-bind-requires-clause-live_in_range t c = enough_one c.requires.1.1

pub stmt-returns : goal.stmt-returns
stmt-returns t c =
    assign_then _ (sym c.mark_at.ensures ∙ c.if-mark_at-ne-SA.false) c.field_at-p.ensures c.field_at-e.ensures c.expression.ensures c.in_ok-expression.was c.type_of-t.ensures.1 c.bind.ensures

pub stmt-returns-in_err-expression : goal.stmt-returns-in_err-expression
stmt-returns-in_err-expression t c =
    assign_halt _ (sym c.mark_at.ensures ∙ c.if-mark_at-ne-SA.false) c.field_at-p.ensures c.field_at-e.ensures c.expression.ensures (handed c.in_err-expression.was c.from_residual.ensures.1)
