-- `variable` meets its contract: by what its name has in the scope.
-- Assumes nothing.
use Rattle.book.specs.Format.{EV}
use Rattle.book.proofs.Standing.{head_lies}
use Rattle.typing.proofs.Leaves.{variable_none, variable_some}
use Rattle.typing.proofs.Scopes.{lent_live, lent_scope}
use Rattle.typing.proofs.cycle.Judge.variable.Goals as goal

pub field_at-name-requires : goal.field_at-name-requires
field_at-name-requires c = head_lies c.requires.marked.stands EV c.requires.marked.is 1 tt

pub type_for-requires-clause-live : goal.type_for-requires-clause-live
type_for-requires-clause-live c = lent_live c.requires.scoped

pub returns-in_default : goal.returns-in_default
returns-in_default c =
    variable_none c.requires.scoped c.requires.marked _ c.field_at-name.ensures (rw (lent_scope c.requires.scoped) at c.in_default.ensures.0) c.in_default.ensures.1

pub field_at-requires : goal.field_at-requires
field_at-requires c = head_lies c.requires.marked.stands EV c.requires.marked.is 0 tt

pub returns : goal.returns
returns c =
    variable_some c.requires.scoped c.requires.marked _ c.field_at-name.ensures _ (rw (lent_scope c.requires.scoped) at c.in-Some.ensures.0) c.field_at.ensures c.agree.ensures c.in-Some.ensures.1
