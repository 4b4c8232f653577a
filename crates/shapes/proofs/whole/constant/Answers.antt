-- `constant` meets its contract: its value's type and its own are one record's.
-- Assumes nothing.
use Rattle.shapes.proofs.Constructs.{constant_is, names, typed_lies, typed_stands}
use Rattle.shapes.proofs.Same.{types_same}
use Rattle.shapes.proofs.Walks.{tells}
use Rattle.shapes.proofs.whole.constant.Goals as goal

pub value_type-requires : goal.value_type-requires
value_type-requires c = record { lies = typed_lies c.requires 1 tt; stands = names c.requires 1 tt tt }

pub returns : goal.returns
returns c = tells (constant_is c.requires c.value_type.ensures) (types_same c.value_type.ensures.0 (typed_stands c.requires))
