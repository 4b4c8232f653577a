-- `get_near` meets its contract: the bindings from `at` on have not the name, and `get_far` goes on from there.
-- Assumes nothing.
use mathlib.Core.Path.{refl}
use native.Mathlib.Omega.{arith}
use Rattle.named.proofs.Storing.{handed}
use Rattle.pattern.proofs.Selectors.{seeks_absent, seeks_found, seeks_full, near_missing, near_nested, near_found, near_full}
use Rattle.scope_bindings.proofs.Reaches.{misses_whole, misses_all, misses_far, misses_next, misses_found, misses_full}
use Rattle.scope_bindings.proofs.ScopeBindings.get_near.Goals as goal

pub loop-at-init : goal.loop-at-init
loop-at-init c = misses_whole _ _ _ _ _ _

pub returns-in_err-get_flat : goal.returns-in_err-get_flat
returns-in_err-get_flat c =
    rw (handed c.from_residual.ensures.1)
    (seeks_full (misses_full c.loop-at.invariant _ (omega arith) refl (near_full c.in_err-get_flat.ensures)))

pub returns-in-Nested : goal.returns-in-Nested
returns-in-Nested c = misses_far c.loop-at.invariant _ (omega arith) (near_nested c.in_ok-get_flat.ensures c.in-Nested.is) c.get_far.ensures

pub returns-in_err-node-in-Found : goal.returns-in_err-node-in-Found
returns-in_err-node-in-Found c =
    rw (handed c.from_residual-in_err-node-in-Found.ensures.1)
    (seeks_full (misses_found c.loop-at.invariant _ (omega arith) refl _ (omega arith) (near_found c.in_ok-get_flat.ensures c.in-Found.is) c.in_err-node-in-Found.ensures))

pub returns-in-Found : goal.returns-in-Found
returns-in-Found c =
    seeks_found (misses_found c.loop-at.invariant _ (omega arith) refl _ (omega arith) (near_found c.in_ok-get_flat.ensures c.in-Found.is) c.in_ok-node-in-Found.ensures)

pub loop-at-preserved : goal.loop-at-preserved
loop-at-preserved c =
    misses_next c.loop-at.invariant _ (omega arith) refl (near_missing c.in_ok-get_flat.ensures c.in-Missing.is)

pub returns : goal.returns
returns c = seeks_absent (misses_all c.loop-at.invariant (omega arith))
