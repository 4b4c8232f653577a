-- `is_none` meets its contract: a sum has a left side.
-- Assumes nothing.
use Rattle.shapes.proofs.Constructs.{is_none_is, names, typed_lies, typed_stands}
use Rattle.shapes.proofs.Same.{tells_there}
use Rattle.shapes.proofs.Walks.{passes, stops, tells, yes}
use Rattle.shapes.proofs.whole.is_none.Goals as goal

pub part_type-part-requires : goal.part_type-part-requires
part_type-part-requires c = record { lies = typed_lies c.requires 1 tt; stands = names c.requires 1 tt tt }

pub returns-else-is_some : goal.returns-else-is_some
returns-else-is_some c = stops (is_none_is c.requires c.part_type-part.ensures) (tells_there c.side.ensures c.is_some.ensures) c.if-is_some.false

pub is_bit-requires : goal.is_bit-requires
is_bit-requires c = typed_stands c.requires

pub returns-then-is_some : goal.returns-then-is_some
returns-then-is_some c =
    tells (passes (is_none_is c.requires c.part_type-part.ensures) (yes (tells_there c.side.ensures c.is_some.ensures) c.if-is_some.true)) c.is_bit.ensures
