-- `get_single` meets its contract: by the pattern's mark.
-- Assumes nothing.
use Rattle.book.proofs.Standing.{stands_begins}
use Rattle.pattern.proofs.Records.{name_lies}
use Rattle.pattern.proofs.Search.get_single.Goals as goal

pub mark_at-requires : goal.mark_at-requires
mark_at-requires c = search stands_begins

pub field_at-requires : goal.field_at-requires
field_at-requires c = name_lies c.requires _ c.mark_at.ensures c.in-8.is
