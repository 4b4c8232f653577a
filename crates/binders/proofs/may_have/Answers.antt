-- `may_have` meets its contract: the name was sought there in vain, or the pattern is another name, or it is neither a name nor a row.
-- Assumes nothing.
use Rattle.book.proofs.Standing.{stands_begins}
use Rattle.pattern.proofs.Records.{name_lies}
use Rattle.binders.proofs.Sights.{other_not, ignored_not}
use Rattle.binders.proofs.may_have.Goals as goal

pub mark_at-mark-requires : goal.mark_at-mark-requires
mark_at-mark-requires c = stands_begins c.requires.stands

pub field_at-requires : goal.field_at-requires
field_at-requires c = name_lies c.requires.stands _ c.mark_at-mark.ensures c.if-mark-eq-PI.true

pub returns-then-mark-eq-PI : goal.returns-then-mark-eq-PI
returns-then-mark-eq-PI c = λ e. other_not c.requires.stands _ _ c.mark_at-mark.ensures _ c.if-mark-eq-PI.true c.field_at.ensures e

pub returns : goal.returns
returns c = λ e. ignored_not c.requires.stands _ _ c.mark_at-mark.ensures c.if-mark-eq-PI.false e
