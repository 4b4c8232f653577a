-- `Book::field_at` meets its contract: the field is the word at its place.
-- Assumes nothing.
use Rattle.book.specs.Read.{field_at}
use Rattle.book.proofs.record.Book.field_at.Goals as goal

pub returns : goal.returns
unfolding field_at
returns c = rw (← c.self.view_is) c.word.ensures
