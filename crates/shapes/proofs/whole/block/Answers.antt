-- `block` meets its contract: by whether there is an end.
-- Assumes nothing.
use Rattle.parts.proofs.Blocks.{end_stands}
use Rattle.shapes.proofs.Constructs.{block_is, block_none, typed_stands}
use Rattle.shapes.proofs.Same.{types_same}
use Rattle.shapes.proofs.Walks.{tells}
use Rattle.shapes.proofs.whole.block.Goals as goal

pub type_of-requires : goal.type_of-requires
type_of-requires c = end_stands c.requires.marked c.in-Some.ensures

pub returns-in-Some : goal.returns-in-Some
returns-in-Some c = tells (block_is c.requires c.in-Some.ensures c.type_of.ensures) (types_same c.type_of.ensures.0 (typed_stands c.requires))

pub is_unit-requires : goal.is_unit-requires
is_unit-requires c = typed_stands c.requires

pub returns-in-None : goal.returns-in-None
returns-in-None c = tells (block_none c.requires c.in-None.ensures) c.is_unit.ensures
