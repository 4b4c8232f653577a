-- `get_newest` meets its contract: the bindings from `at` on have not the name.
-- Assumes nothing.
use Rattle.std.proofs.Common.{refl, arith, rules}
use Rattle.pattern.proofs.Memos.{searched_on}
use Rattle.pattern.proofs.Selectors.{seeks_absent, sought_missing}
use Rattle.scope_bindings.proofs.Reaches.{misses_all, misses_next}
use Rattle.scope_bindings.proofs.ScopeBindings.get_newest.Goals as goal

pub loop-at-preserved : goal.loop-at-preserved
loop-at-preserved c =
    (c.in_ok-inner.ensures.memo, misses_next c.loop-at.invariant.1 _ (omega arith) refl (sought_missing c.in_ok-inner.ensures.sought (search rules)))

pub returns : goal.returns
returns c = searched_on c.loop-at.invariant.0 (seeks_absent (misses_all c.loop-at.invariant.1 (omega arith)))
