-- `get_shallow` meets its contract: its two ways promise what it does.
-- Assumes nothing.
use Rattle.book.proofs.Standing.{stands_begins}
use Rattle.pattern.proofs.Search.get_shallow.Goals as goal

pub mark_at-requires : goal.mark_at-requires
mark_at-requires c = search stands_begins
