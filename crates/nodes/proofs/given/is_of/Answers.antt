-- `given::is_of` meets its contract: a record that is there has its mark's kind.
-- Assumes nothing.
use borrow.Author.Tests.{lt-ltb}
use Rattle.book.specs.Read.{kind_at}
use Rattle.book.proofs.Roles.{record_begins}
use Rattle.nodes.proofs.given.is_of.Goals as goal

pub mark_at-requires : goal.mark_at-requires
unfolding kind_at
mark_at-requires c = record_begins c.requires _ (rw c.records.ensures at c.if-r-records.true)

pub returns-then-r-records : goal.returns-then-r-records
unfolding kind_at
returns-then-r-records c = rw (lt-ltb _ _ (rw c.records.ensures at c.if-r-records.true), c.kind_of.ensures, c.mark_at.ensures)
