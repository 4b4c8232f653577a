-- `close` meets its contract: by the statement's mark.
-- Assumes nothing.
use borrow.Author.Tests.{eq-eqb, ne_eqb}
use Rattle.book.proofs.Standing.{stands_begins}
use Rattle.parts.specs.Parts.{close_run}
use Rattle.parts.proofs.part.close.Goals as goal

pub mark_at-requires : goal.mark_at-requires
unfolding close_run
mark_at-requires c = stands_begins c.requires

pub returns-then-mark_at-eq-SA : goal.returns-then-mark_at-eq-SA
unfolding close_run
returns-then-mark_at-eq-SA c = rw (← c.mark_at.ensures, eq-eqb _ _ c.if-mark_at-eq-SA.true) c.put.ensures

pub returns-else-mark_at-eq-SA : goal.returns-else-mark_at-eq-SA
unfolding close_run
returns-else-mark_at-eq-SA c = rw (← c.mark_at.ensures, ne_eqb _ _ c.if-mark_at-eq-SA.false) c.followed.ensures
