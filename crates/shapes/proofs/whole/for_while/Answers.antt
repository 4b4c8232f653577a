-- `for_while` meets its contract: the function takes three, and the tests are the construct's, one by one.
-- Assumes nothing.
use native.Mathlib.Omega.{arith}
use Rattle.shapes.proofs.Constructs.{is_test, names, typed_lies, typed_stands}
use Rattle.shapes.proofs.Functions.{count_lies, loop_few, loop_function, loop_power, looping, param_at, param_lies, result_lies, result_stands}
use Rattle.shapes.proofs.Same.{tells_at, types_same}
use Rattle.shapes.proofs.Walks.{differ, equal, fails, no, passes, stops, tells, yes}
use Rattle.shapes.proofs.whole.for_while.Goals as goal

pub field_at-f-requires : goal.field_at-f-requires
field_at-f-requires c = typed_lies c.requires 1 tt

pub field_at-requires : goal.field_at-requires
field_at-requires c = count_lies (loop_function c.requires c.field_at-f.ensures)

pub returns-then-field_at-ne3 : goal.returns-then-field_at-ne3
returns-then-field_at-ne3 c = loop_few c.requires c.field_at-f.ensures c.field_at.ensures c.if-field_at-ne3.true

pub field_at-width-requires : goal.field_at-width-requires
field_at-width-requires c = typed_lies c.requires 2 tt

pub field_at-accumulator-requires : goal.field_at-accumulator-requires
field_at-accumulator-requires c = param_lies (loop_function c.requires c.field_at-f.ensures) 0 c.field_at.ensures (omega (arith, c.if-field_at-ne3.false))

pub field_at-context-requires : goal.field_at-context-requires
field_at-context-requires c = param_lies (loop_function c.requires c.field_at-f.ensures) 1 c.field_at.ensures (omega (arith, c.if-field_at-ne3.false))

pub field_at-counter-requires : goal.field_at-counter-requires
field_at-counter-requires c = param_lies (loop_function c.requires c.field_at-f.ensures) 2 c.field_at.ensures (omega (arith, c.if-field_at-ne3.false))

pub is_word-requires : goal.is_word-requires
is_word-requires c =
    record { stands = param_at (loop_function c.requires c.field_at-f.ensures) 2 c.field_at.ensures (omega (arith, c.if-field_at-ne3.false)) c.field_at-counter.ensures; among = loop_power c.requires c.field_at-f.ensures c.field_at-width.ensures }

pub returns-then-not-is_word : goal.returns-then-not-is_word
returns-then-not-is_word c =
    let l = looping c.requires c.field_at-f.ensures c.field_at.ensures c.if-field_at-ne3.false c.field_at-width.ensures c.field_at-accumulator.ensures c.field_at-context.ensures c.field_at-counter.ensures in fails l.tests (no c.is_word.ensures c.if-not-is_word.true)

pub part_type-requires : goal.part_type-requires
part_type-requires c = record { lies = typed_lies c.requires 3 tt; stands = names c.requires 3 tt tt }

pub returns-then-part_type-accumulator : goal.returns-then-part_type-accumulator
returns-then-part_type-accumulator c =
    let l = looping c.requires c.field_at-f.ensures c.field_at.ensures c.if-field_at-ne3.false c.field_at-width.ensures c.field_at-accumulator.ensures c.field_at-context.ensures c.field_at-counter.ensures in fails (passes l.tests (yes c.is_word.ensures c.if-not-is_word.false)) (differ (is_test c.part_type.ensures l.accumulator) c.if-part_type-accumulator.true)

pub part_type-requires-2 : goal.part_type-requires-2
part_type-requires-2 c = record { lies = typed_lies c.requires 4 tt; stands = names c.requires 4 tt tt }

pub returns-then-part_type-context : goal.returns-then-part_type-context
returns-then-part_type-context c =
    let l = looping c.requires c.field_at-f.ensures c.field_at.ensures c.if-field_at-ne3.false c.field_at-width.ensures c.field_at-accumulator.ensures c.field_at-context.ensures c.field_at-counter.ensures in fails (passes (passes l.tests (yes c.is_word.ensures c.if-not-is_word.false)) (equal (is_test c.part_type.ensures l.accumulator) c.if-part_type-accumulator.false)) (differ (is_test c.part_type-2.ensures l.context) c.if-part_type-context.true)

pub side-requires : goal.side-requires
side-requires c = record { stands = typed_stands c.requires; sort = tt; k_in_range = omega arith }

pub returns-else-eq : goal.returns-else-eq
returns-else-eq c =
    let l = looping c.requires c.field_at-f.ensures c.field_at.ensures c.if-field_at-ne3.false c.field_at-width.ensures c.field_at-accumulator.ensures c.field_at-context.ensures c.field_at-counter.ensures in stops (passes (passes (passes l.tests (yes c.is_word.ensures c.if-not-is_word.false)) (equal (is_test c.part_type.ensures l.accumulator) c.if-part_type-accumulator.false)) (equal (is_test c.part_type-2.ensures l.context) c.if-part_type-context.false)) (tells_at c.side.ensures l.accumulator c.eq.ensures) c.if-eq.false

pub field_at-requires-then-eq : goal.field_at-requires-then-eq
field_at-requires-then-eq c = result_lies (loop_function c.requires c.field_at-f.ensures)

pub returns-then-eq : goal.returns-then-eq
returns-then-eq c =
    let l = looping c.requires c.field_at-f.ensures c.field_at.ensures c.if-field_at-ne3.false c.field_at-width.ensures c.field_at-accumulator.ensures c.field_at-context.ensures c.field_at-counter.ensures in tells (passes (passes (passes (passes l.tests (yes c.is_word.ensures c.if-not-is_word.false)) (equal (is_test c.part_type.ensures l.accumulator) c.if-part_type-accumulator.false)) (equal (is_test c.part_type-2.ensures l.context) c.if-part_type-context.false)) (yes (tells_at c.side.ensures l.accumulator c.eq.ensures) c.if-eq.true)) (rw c.field_at-then-eq.ensures (types_same (result_stands (loop_function c.requires c.field_at-f.ensures)) (typed_stands c.requires)))
