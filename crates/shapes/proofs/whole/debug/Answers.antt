-- `debug` meets its contract: its part's type and its own are one record's.
-- Assumes nothing.
use Rattle.shapes.proofs.Constructs.{debug_is, names, typed_lies, typed_stands}
use Rattle.shapes.proofs.Same.{types_same}
use Rattle.shapes.proofs.Walks.{tells}
use Rattle.shapes.proofs.whole.debug.Goals as goal

pub part_type-requires : goal.part_type-requires
part_type-requires c = record { lies = typed_lies c.requires 2 tt; stands = names c.requires 2 tt tt }

pub returns : goal.returns
returns c = tells (debug_is c.requires c.part_type.ensures) (types_same c.part_type.ensures.0 (typed_stands c.requires))
