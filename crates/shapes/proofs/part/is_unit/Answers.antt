-- `is_unit` meets its contract: unit is what has its mark.
-- Assumes nothing.
use Rattle.book.proofs.Standing.{stands_begins}
use Rattle.shapes.proofs.Sides.{same_unit}
use Rattle.shapes.proofs.part.is_unit.Goals as goal

pub mark_at-requires : goal.mark_at-requires
mark_at-requires c = stands_begins c.requires

pub returns : goal.returns
returns c = same_unit c.requires c.mark_at.ensures
