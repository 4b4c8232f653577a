-- `injection` meets its contract: the side and the part's type are one record's.
-- Assumes nothing.
use Rattle.shapes.proofs.Constructs.{injection_is, injection_part, typed_stands}
use Rattle.shapes.proofs.Same.{tells_at}
use Rattle.shapes.proofs.Walks.{tells}
use Rattle.shapes.proofs.whole.injection.Goals as goal

pub side-requires : goal.side-requires
side-requires c = record { stands = typed_stands c.requires.declares; sort = tt; k_in_range = c.requires.k_in_range }

pub part_type-requires : goal.part_type-requires
part_type-requires c =
    let both = injection_part _ c.requires.declares c.requires.k_in_range in
    record { lies = both.0; stands = both.1 }

pub returns : goal.returns
returns c =
    tells (injection_is _ c.requires.declares c.requires.k_in_range c.part_type.ensures) (tells_at c.side.ensures c.part_type.ensures.0 c.eq.ensures)
