-- `value_type` meets its contract: a value's first field is its declared type.
-- Assumes nothing.
use Rattle.shapes.proofs.Declared.{value_declares}
use Rattle.shapes.proofs.whole.value_type.Goals as goal

pub field_at-requires : goal.field_at-requires
field_at-requires c = rw c.field_at-v.ensures (value_declares c.requires.stands).lies

pub returns : goal.returns
returns c =
    rw (c.field_at.ensures, c.field_at-v.ensures) ((value_declares c.requires.stands).stands, (value_declares c.requires.stands).is)
