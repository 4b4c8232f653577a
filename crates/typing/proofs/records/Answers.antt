-- `records` meets its contract: the values, and then the functions and the root.
-- Assumes nothing.
use Rattle.typing.proofs.Judging.{handed}
use Rattle.typing.proofs.Orders.{values_halt, values_then}
use Rattle.typing.proofs.records.Goals as goal

pub returns-in_err-values : goal.returns-in_err-values
returns-in_err-values c = values_halt _ _ _ c.values.ensures (handed c.in_err-values.was c.from_residual.ensures.1)

pub returns-then-n-le512 : goal.returns-then-n-le512
returns-then-n-le512 c = values_then _ _ _ c.values.ensures c.in_ok-values.was c.sized.ensures

pub returns-else-n-le512 : goal.returns-else-n-le512
returns-else-n-le512 c = values_then _ _ _ c.values.ensures c.in_ok-values.was c.sized-else-n-le512.ensures
