-- `type_of` meets its contract: the first field of an expression's record names its declared type.
-- Assumes nothing.
use Rattle.shapes.proofs.Declared.{expr_declares}
use Rattle.shapes.proofs.part.type_of.Goals as goal

pub field_at-requires : goal.field_at-requires
field_at-requires c = (expr_declares c.requires).lies

pub returns : goal.returns
returns c = let d = expr_declares c.requires in rw c.field_at.ensures (d.stands, d.is)
