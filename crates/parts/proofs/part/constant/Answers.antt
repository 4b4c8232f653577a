-- `constant` meets its contract: one node.
-- Assumes nothing.
use Rattle.parts.proofs.Marks.{lies}
use Rattle.parts.proofs.part.constant.Goals as goal

pub field_at-value-requires : goal.field_at-value-requires
field_at-value-requires c = lies c.requires 1 tt
