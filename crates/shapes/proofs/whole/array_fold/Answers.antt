-- `array_fold` meets its contract: the function takes two, what is folded is of the first, and the second accumulates.
-- Assumes nothing.
use native.Mathlib.Omega.{arith}
use Rattle.shapes.proofs.Constructs.{names, typed_lies}
use Rattle.shapes.proofs.Functions.{array_fold_lem, count_lies, fold_few, fold_function, fold_is, fold_size, folding, param_at, param_lies}
use Rattle.shapes.proofs.Walks.{passes, stops, tells, yes}
use Rattle.shapes.proofs.whole.array_fold.Goals as goal

pub field_at-f-requires : goal.field_at-f-requires
field_at-f-requires c = typed_lies c.requires 1 tt

pub field_at-requires : goal.field_at-requires
field_at-requires c = count_lies (fold_function (array_fold_lem c.requires) c.field_at-f.ensures)

pub returns-then-field_at-ne2 : goal.returns-then-field_at-ne2
returns-then-field_at-ne2 c = fold_few (array_fold_lem c.requires) c.field_at-f.ensures c.field_at.ensures c.if-field_at-ne2.true

pub field_at-size-requires : goal.field_at-size-requires
field_at-size-requires c = typed_lies c.requires 2 tt

pub part_type-array-requires : goal.part_type-array-requires
part_type-array-requires c = record { lies = typed_lies c.requires 3 tt; stands = names c.requires 3 tt tt }

pub field_at-requires-2 : goal.field_at-requires-2
field_at-requires-2 c =
    param_lies (fold_function (array_fold_lem c.requires) c.field_at-f.ensures) 0 c.field_at.ensures (omega (arith, c.if-field_at-ne2.false))

pub is_array-requires : goal.is_array-requires
is_array-requires c =
    let both = fold_size c.requires c.field_at-size.ensures in
    record { stands = c.part_type-array.ensures.0; stands_element = param_at (fold_function (array_fold_lem c.requires) c.field_at-f.ensures) 0 c.field_at.ensures (omega (arith, c.if-field_at-ne2.false)) c.field_at-2.ensures; n_in_range = both.0; n_in_range_too = both.1 }

pub returns-else-is_array : goal.returns-else-is_array
returns-else-is_array c =
    stops (fold_is (array_fold_lem c.requires) c.field_at-f.ensures c.field_at.ensures c.if-field_at-ne2.false c.field_at-size.ensures c.field_at-2.ensures c.part_type-array.ensures) c.is_array.ensures c.if-is_array.false

pub is_accumulator-requires : goal.is_accumulator-requires
is_accumulator-requires c = folding (array_fold_lem c.requires) c.field_at-f.ensures c.field_at.ensures c.if-field_at-ne2.false

pub returns-then-is_array : goal.returns-then-is_array
returns-then-is_array c =
    tells (passes (fold_is (array_fold_lem c.requires) c.field_at-f.ensures c.field_at.ensures c.if-field_at-ne2.false c.field_at-size.ensures c.field_at-2.ensures c.part_type-array.ensures) (yes c.is_array.ensures c.if-is_array.true)) c.is_accumulator.ensures
