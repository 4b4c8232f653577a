-- `is_call` meets its contract: the calls' marks come last, and the cast's is one of them.
-- Assumes nothing.
use borrow.Author.Tests.{lt-leb, le-leb}
use Rattle.book.specs.Format.{CJ}
use Rattle.parts.specs.Parts.{is_call}
use Rattle.parts.proofs.view.is_call.Goals as goal

pub returns-then-m-ge-CJ : goal.returns-then-m-ge-CJ
unfolding is_call
returns-then-m-ge-CJ c = rw (le-leb CJ _ c.if-m-ge-CJ.true)

pub returns-else-m-ge-CJ : goal.returns-else-m-ge-CJ
unfolding is_call
returns-else-m-ge-CJ c = rw (lt-leb CJ _ c.if-m-ge-CJ.false)
