-- `entered` meets its contract: by the mark.
-- Assumes nothing.
use Rattle.book.proofs.Standing.{stands_begins}
use Rattle.typing.proofs.Leaves.{after_assign, after_does}
use Rattle.typing.proofs.cycle.entered.Goals as goal

pub mark_at-requires : goal.mark_at-requires
mark_at-requires c = stands_begins c.requires.stands

pub returns-then-mark_at-eq-SA : goal.returns-then-mark_at-eq-SA
returns-then-mark_at-eq-SA c = after_assign _ _ _ _ c.mark_at.ensures c.if-mark_at-eq-SA.true

pub returns-else-mark_at-eq-SA : goal.returns-else-mark_at-eq-SA
returns-else-mark_at-eq-SA c = after_does _ _ _ _ c.mark_at.ensures c.if-mark_at-eq-SA.false
