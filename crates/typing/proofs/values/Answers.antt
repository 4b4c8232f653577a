-- `values` meets its contract: the records before r have passed.
-- Assumes nothing.
use mathlib.Core.Path.{refl, sym, ◌∙◌}
use native.Mathlib.Omega.{arith}
use Rattle.typing.proofs.Judging.{handed}
use Rattle.typing.proofs.Orders.{order_none, passing_next, passing_halt}
use Rattle.typing.proofs.values.Goals as goal

pub returns-in_err-value_at : goal.returns-in_err-value_at
returns-in_err-value_at c =
    passing_halt _ c.loop-r.invariant c.loop-r-test.true c.value_at.ensures (handed c.in_err-value_at.was c.from_residual.ensures.1)

pub loop-r-preserved : goal.loop-r-preserved
loop-r-preserved c = passing_next _ c.loop-r.invariant c.loop-r-test.true c.value_at.ensures _ refl c.in_ok-value_at.was

pub returns : goal.returns
returns c = order_none _ _ _ (omega arith) ∙ sym c.loop-r.invariant
