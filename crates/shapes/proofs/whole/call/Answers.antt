-- `call` meets its contract: as many arguments, of their types, and what the function gives.
-- Assumes nothing.
use mathlib.Core.Path.{◌∙◌, sym}
use Rattle.shapes.proofs.Constructs.{typed_lies, typed_stands}
use Rattle.shapes.proofs.Functions.{call_few, call_function, call_is, call_row, count_lies, result_lies, result_stands}
use Rattle.shapes.proofs.Same.{types_same}
use Rattle.shapes.proofs.Walks.{passes, stops, tells, yes}
use Rattle.shapes.proofs.whole.call.Goals as goal

pub field_at-f-requires : goal.field_at-f-requires
field_at-f-requires c = typed_lies c.requires 1 tt

pub field_at-n-requires : goal.field_at-n-requires
field_at-n-requires c = typed_lies c.requires 2 tt

pub field_at-requires : goal.field_at-requires
field_at-requires c = count_lies (call_function c.requires c.field_at-f.ensures)

pub returns-then-field_at-n : goal.returns-then-field_at-n
returns-then-field_at-n c = call_few c.requires c.field_at-f.ensures c.field_at-n.ensures c.field_at.ensures c.if-field_at-n.true

pub are_taken-requires : goal.are_taken-requires
are_taken-requires c =
    record { elements = call_row c.requires c.field_at-n.ensures; stands = call_function c.requires c.field_at-f.ensures; n_is = sym c.if-field_at-n.false ∙ c.field_at.ensures }

pub returns-else-are_taken : goal.returns-else-are_taken
returns-else-are_taken c =
    stops (call_is c.requires c.field_at-f.ensures c.field_at-n.ensures c.field_at.ensures c.if-field_at-n.false) c.are_taken.ensures c.if-are_taken.false

pub field_at-requires-then-are_taken : goal.field_at-requires-then-are_taken
field_at-requires-then-are_taken c = result_lies (call_function c.requires c.field_at-f.ensures)

pub returns-then-are_taken : goal.returns-then-are_taken
returns-then-are_taken c =
    tells (passes (call_is c.requires c.field_at-f.ensures c.field_at-n.ensures c.field_at.ensures c.if-field_at-n.false) (yes c.are_taken.ensures c.if-are_taken.true)) (rw c.field_at-then-are_taken.ensures (types_same (typed_stands c.requires) (result_stands (call_function c.requires c.field_at-f.ensures))))
