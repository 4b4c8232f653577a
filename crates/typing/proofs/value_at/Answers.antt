-- `value_at` meets its contract: by the record's kind.
-- Assumes nothing.
use Rattle.book.specs.Format.{VALUE}
use Rattle.typing.proofs.Orders.{among_begins, stands_as, value_none, value_some}
use Rattle.typing.proofs.value_at.Goals as goal

pub mark_at-requires : goal.mark_at-requires
mark_at-requires c = among_begins c.requires

pub value_agrees-requires : goal.value_agrees-requires
value_agrees-requires c = stands_as c.requires c.mark_at.ensures c.kind_of.ensures VALUE c.if-kind_of-eq-VALUE.true

pub returns-then-kind_of-eq-VALUE : goal.returns-then-kind_of-eq-VALUE
returns-then-kind_of-eq-VALUE c =
    value_some c.requires c.mark_at.ensures c.kind_of.ensures c.if-kind_of-eq-VALUE.true c.value_agrees.ensures c.agree.ensures

pub returns-else-kind_of-eq-VALUE : goal.returns-else-kind_of-eq-VALUE
returns-else-kind_of-eq-VALUE c = value_none c.requires c.mark_at.ensures c.kind_of.ensures c.if-kind_of-eq-VALUE.false
