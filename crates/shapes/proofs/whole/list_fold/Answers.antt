-- `list_fold` meets its contract: the function takes two, what is folded is of the first, and the second accumulates.
-- Assumes nothing.
use native.Mathlib.Omega.{arith}
use Rattle.shapes.proofs.Constructs.{names, typed_lies}
use Rattle.shapes.proofs.Functions.{count_lies, fold_bound, fold_few, fold_function, fold_is, folding, list_fold_lem, param_at, param_lies}
use Rattle.shapes.proofs.Walks.{passes, stops, tells, yes}
use Rattle.shapes.proofs.whole.list_fold.Goals as goal

pub field_at-f-requires : goal.field_at-f-requires
field_at-f-requires c = typed_lies c.requires 1 tt

pub field_at-requires : goal.field_at-requires
field_at-requires c = count_lies (fold_function (list_fold_lem c.requires) c.field_at-f.ensures)

pub returns-then-field_at-ne2 : goal.returns-then-field_at-ne2
returns-then-field_at-ne2 c = fold_few (list_fold_lem c.requires) c.field_at-f.ensures c.field_at.ensures c.if-field_at-ne2.true

pub field_at-bound-requires : goal.field_at-bound-requires
field_at-bound-requires c = typed_lies c.requires 2 tt

pub part_type-list-requires : goal.part_type-list-requires
part_type-list-requires c = record { lies = typed_lies c.requires 3 tt; stands = names c.requires 3 tt tt }

pub field_at-requires-2 : goal.field_at-requires-2
field_at-requires-2 c =
    param_lies (fold_function (list_fold_lem c.requires) c.field_at-f.ensures) 0 c.field_at.ensures (omega (arith, c.if-field_at-ne2.false))

pub is_list-requires : goal.is_list-requires
is_list-requires c =
    record { stands = c.part_type-list.ensures.0; stands_element = param_at (fold_function (list_fold_lem c.requires) c.field_at-f.ensures) 0 c.field_at.ensures (omega (arith, c.if-field_at-ne2.false)) c.field_at-2.ensures; list_bound = fold_bound c.requires c.field_at-bound.ensures }

pub returns-else-is_list : goal.returns-else-is_list
returns-else-is_list c =
    stops (fold_is (list_fold_lem c.requires) c.field_at-f.ensures c.field_at.ensures c.if-field_at-ne2.false c.field_at-bound.ensures c.field_at-2.ensures c.part_type-list.ensures) c.is_list.ensures c.if-is_list.false

pub is_accumulator-requires : goal.is_accumulator-requires
is_accumulator-requires c = folding (list_fold_lem c.requires) c.field_at-f.ensures c.field_at.ensures c.if-field_at-ne2.false

pub returns-then-is_list : goal.returns-then-is_list
returns-then-is_list c =
    tells (passes (fold_is (list_fold_lem c.requires) c.field_at-f.ensures c.field_at.ensures c.if-field_at-ne2.false c.field_at-bound.ensures c.field_at-2.ensures c.part_type-list.ensures) (yes c.is_list.ensures c.if-is_list.true)) c.is_accumulator.ensures
