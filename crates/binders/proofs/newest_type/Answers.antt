-- `newest_type` meets its contract: the bindings from `at` on have not the name.
-- Assumes nothing.
use mathlib.Core.Path.{refl, sym, ◌∙◌}
use native.Mathlib.Omega.{arith}
use Rattle.binders.proofs.Scopes.{older_all, older_next, older_found}
use Rattle.binders.proofs.newest_type.Goals as goal

pub returns-then-is_some : goal.returns-then-is_some
returns-then-is_some c =
    (older_found c.loop-at.invariant.1 _ c.loop-at-test.true refl c.type_in-found.ensures.seen (sym c.is_some.ensures ∙ c.if-is_some.true), c.type_in-found.ensures.memo.size)

pub loop-at-preserved : goal.loop-at-preserved
loop-at-preserved c =
    (c.type_in-found.ensures.memo, older_next c.loop-at.invariant.1 _ c.loop-at-test.true refl c.type_in-found.ensures.seen (sym c.is_some.ensures ∙ c.if-is_some.false))

pub returns : goal.returns
returns c = (older_all c.loop-at.invariant.1 (omega arith), c.loop-at.invariant.0.size)
