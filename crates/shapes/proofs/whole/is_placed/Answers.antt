-- `is_placed` meets its contract: the type at the place and the element's are one record's.
-- Assumes nothing.
use Rattle.shapes.proofs.Constructs.{given_tells}
use Rattle.shapes.proofs.whole.is_placed.Goals as goal

pub returns : goal.returns
returns c = given_tells c.element_type-part.ensures c.place.ensures c.eq.ensures
