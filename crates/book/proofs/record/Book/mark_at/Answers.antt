-- `Book::mark_at` meets its contract: the callees say it.
-- Assumes nothing.
use Rattle.book.specs.Format.{mark_of}
use Rattle.book.specs.Read.{mark_at}
use mathlib.Core.Path.{ap, ◌∙◌}
use Rattle.book.proofs.record.Book.mark_at.Goals as goal

pub returns : goal.returns
unfolding mark_at
returns c = rw (← c.self.view_is) (c.mark_of.ensures ∙ ap mark_of c.word.ensures)
