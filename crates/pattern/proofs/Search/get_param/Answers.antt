-- `get_param` meets its contract: each parameter before k has another name.
-- Assumes nothing.
use native.Mathlib.Omega.{arith}
use Rattle.named.proofs.Storing.{handed}
use Rattle.pattern.proofs.Selectors.{absent, found_here, seeks_absent, seeks_found, seeks_full}
use Rattle.pattern.proofs.Passes.{passes_none, passes_all, passes_next, passes_found, passes_full, name_is, name_not}
use Rattle.pattern.proofs.Records.{params_count, params_most, params_lie, finds_params}
use Rattle.pattern.proofs.Search.get_param.Goals as goal

pub field_at-n-requires : goal.field_at-n-requires
field_at-n-requires c = search params_count

pub loop-k-init : goal.loop-k-init
loop-k-init c = passes_none (search params_most) (search finds_params)

pub field_at-requires : goal.field_at-requires
field_at-requires c = search params_lie

pub returns-in_err-inner : goal.returns-in_err-inner
returns-in_err-inner c =
    rw (handed c.from_residual.ensures.1)
    (seeks_full (passes_full c.loop-k.invariant _ (omega arith) (omega arith) (found_here (name_is _ _ _ c.field_at.ensures c.if-field_at-self.true) c.in_err-inner.ensures)))

pub returns-in_err-node : goal.returns-in_err-node
returns-in_err-node c =
    rw (handed c.from_residual-in_err-node.ensures.1)
    (seeks_full (passes_found c.loop-k.invariant _ (omega arith) (omega arith) (found_here (name_is _ _ _ c.field_at.ensures c.if-field_at-self.true) c.in_ok-inner.ensures) c.in_err-node.ensures))

pub returns-then-field_at-self : goal.returns-then-field_at-self
returns-then-field_at-self c =
    seeks_found (passes_found c.loop-k.invariant _ (omega arith) (omega arith) (found_here (name_is _ _ _ c.field_at.ensures c.if-field_at-self.true) c.in_ok-inner.ensures) c.in_ok-node.ensures)

pub loop-k-preserved : goal.loop-k-preserved
loop-k-preserved c =
    passes_next c.loop-k.invariant _ (omega arith) (omega arith) _ (omega arith) (absent (name_not _ _ _ c.field_at.ensures c.if-field_at-self.false))

pub returns : goal.returns
returns c = seeks_absent (passes_all c.loop-k.invariant (omega arith))
