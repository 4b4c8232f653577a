-- `two_arms` meets its contract: the two arms are a row.
-- Assumes nothing.
use Rattle.shapes.proofs.Constructs.{arms_row, match_is, typed_stands}
use Rattle.shapes.proofs.Walks.{tells}
use Rattle.shapes.proofs.whole.two_arms.Goals as goal

pub are_all-requires : goal.are_all-requires
are_all-requires c = record { stands = typed_stands c.requires; elements = arms_row c.requires }

pub returns : goal.returns
returns c = tells (match_is c.requires) c.are_all.ensures
