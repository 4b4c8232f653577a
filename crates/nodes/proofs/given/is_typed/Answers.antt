-- `given::is_typed` meets its contract: a value record's type is its first field.
-- Assumes nothing.
use mathlib.Core.Path.{sym, ◌∙◌}
use Rattle.book.specs.Format.{VALUE}
use Rattle.book.specs.Text.{text}
use Rattle.nodes.proofs.Checks.{holds_stands, type_lies}
use Rattle.nodes.proofs.given.is_typed.Goals as goal

pub field_at-requires : goal.field_at-requires
field_at-requires c = type_lies (holds_stands (text _ _ _) VALUE _ c.requires (sym c.is_of.ensures ∙ c.if-is_of.true))
