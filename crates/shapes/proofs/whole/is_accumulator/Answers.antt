-- `is_accumulator` meets its contract: the function's second parameter is where the fold starts from and what both give.
-- Assumes nothing.
use borrow.Author.Tests.{ne_eqb}
use Rattle.shapes.proofs.Constructs.{is_test}
use Rattle.shapes.proofs.Functions.{accumulates_is, result_lies, result_stands, second_lies, second_stands}
use Rattle.shapes.proofs.Same.{types_same}
use Rattle.shapes.proofs.Walks.{differ, equal, fails, passes, stops, tells}
use Rattle.shapes.proofs.whole.is_accumulator.Goals as goal

pub field_at-accumulator-requires : goal.field_at-accumulator-requires
field_at-accumulator-requires c = second_lies c.requires

pub returns-then-part_type-accumulator : goal.returns-then-part_type-accumulator
returns-then-part_type-accumulator c =
    let s = second_stands c.requires c.field_at-accumulator.ensures in fails (accumulates_is c.requires c.field_at-accumulator.ensures) (differ (is_test c.part_type.ensures s) c.if-part_type-accumulator.true)

pub returns-else-t-accumulator : goal.returns-else-t-accumulator
returns-else-t-accumulator c =
    let s = second_stands c.requires c.field_at-accumulator.ensures in stops (passes (accumulates_is c.requires c.field_at-accumulator.ensures) (equal (is_test c.part_type.ensures s) c.if-part_type-accumulator.false)) (types_same c.requires.type s) (ne_eqb _ _ c.if-t-accumulator.false)

pub field_at-requires : goal.field_at-requires
field_at-requires c = result_lies c.requires.function

pub returns-then-t-accumulator : goal.returns-then-t-accumulator
returns-then-t-accumulator c =
    let s = second_stands c.requires c.field_at-accumulator.ensures in tells (passes (passes (accumulates_is c.requires c.field_at-accumulator.ensures) (equal (is_test c.part_type.ensures s) c.if-part_type-accumulator.false)) (equal (types_same c.requires.type s) c.if-t-accumulator.true)) (rw c.field_at.ensures (types_same (result_stands c.requires.function) s))
