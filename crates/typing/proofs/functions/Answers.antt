-- `functions` meets its contract: the functions before r have passed.
-- Assumes nothing.
use mathlib.Core.Path.{refl, sym}
use native.Mathlib.Omega.{arith}
use Rattle.typing.proofs.Judging.{handed, stays_as, stays_next, stays_halt}
use Rattle.typing.proofs.Orders.{order_next, order_none}
use Rattle.typing.proofs.functions.Goals as goal

pub returns-in_err-function_at : goal.returns-in_err-function_at
returns-in_err-function_at c =
    stays_halt c.function_at.ensures _ (stays_as c.loop-r.invariant (sym (order_next _ _ _ _ c.loop-r-test.true refl))) (omega arith) (handed c.in_err-function_at.was c.from_residual.ensures.1)

pub loop-r-preserved : goal.loop-r-preserved
loop-r-preserved c =
    stays_next c.function_at.ensures _ (stays_as c.loop-r.invariant (sym (order_next _ _ _ _ c.loop-r-test.true refl))) (omega arith) c.in_ok-function_at.was

pub returns : goal.returns
returns c = stays_as c.loop-r.invariant (order_none _ _ _ (omega arith))
