-- `assert` meets its contract: its two tests are those of the construct.
-- Assumes nothing.
use Rattle.shapes.proofs.Constructs.{assert_is, names, typed_lies, typed_stands}
use Rattle.shapes.proofs.Walks.{passes, stops, tells, yes}
use Rattle.shapes.proofs.whole.assert.Goals as goal

pub part_type-requires : goal.part_type-requires
part_type-requires c = record { lies = typed_lies c.requires 2 tt; stands = names c.requires 2 tt tt }

pub returns-else-is_bit : goal.returns-else-is_bit
returns-else-is_bit c = stops (assert_is c.requires c.part_type.ensures) c.is_bit.ensures c.if-is_bit.false

pub is_unit-requires : goal.is_unit-requires
is_unit-requires c = typed_stands c.requires

pub returns-then-is_bit : goal.returns-then-is_bit
returns-then-is_bit c =
    tells (passes (assert_is c.requires c.part_type.ensures) (yes c.is_bit.ensures c.if-is_bit.true)) c.is_unit.ensures
