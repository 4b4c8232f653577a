-- `unwrap` meets its contract: the part's side and the declared type are one record's.
-- Assumes nothing.
use Rattle.shapes.proofs.Constructs.{typed_stands, unwrap_is, unwrap_part}
use Rattle.shapes.proofs.Same.{tells_at}
use Rattle.shapes.proofs.Walks.{tells}
use Rattle.shapes.proofs.whole.unwrap.Goals as goal

pub part_type-part-requires : goal.part_type-part-requires
part_type-part-requires c =
    let both = unwrap_part _ c.requires.declares c.requires.k_in_range in
    record { lies = both.0; stands = both.1 }

pub returns : goal.returns
returns c =
    tells (unwrap_is _ c.requires.declares c.requires.k_in_range c.part_type-part.ensures) (tells_at c.side.ensures (typed_stands c.requires.declares) c.eq.ensures)
