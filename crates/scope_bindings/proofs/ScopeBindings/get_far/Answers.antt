-- `get_far` meets its contract: a cleared row says nothing yet.
-- Assumes nothing.
use Rattle.std.proofs.Common.{refl}
use Rattle.pattern.proofs.Memos.{memo_none}
use Rattle.scope_bindings.proofs.ScopeBindings.get_far.Goals as goal

pub get_newest-requires-clause-memo : goal.get_newest-requires-clause-memo
get_newest-requires-clause-memo c = memo_none _ _ _ _ refl
