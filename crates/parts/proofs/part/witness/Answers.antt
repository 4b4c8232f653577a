-- `witness` meets its contract: one node.
-- Assumes nothing.
use Rattle.parts.proofs.Marks.{lies}
use Rattle.parts.proofs.part.witness.Goals as goal

pub field_at-name-requires : goal.field_at-name-requires
field_at-name-requires c = lies c.requires 1 tt

pub field_at-of-requires : goal.field_at-of-requires
field_at-of-requires c = lies c.requires 0 tt
