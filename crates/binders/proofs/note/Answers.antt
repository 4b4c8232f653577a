-- `note` meets its contract: the row's entry says whether the name was met with this stamp.
-- Assumes nothing.
use borrow.Author.Rules.{rules}
use Rattle.binders.proofs.Tallies.{notes_again, notes_new}
use Rattle.binders.proofs.note.Goals as goal

pub returns-then-met-name : goal.returns-then-met-name
returns-then-met-name c = notes_again c.requires _ c.if-met-name.true

pub returns : goal.returns
returns c = notes_new (search rules) _ (search rules) c.if-met-name.false
