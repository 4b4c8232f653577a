-- `expressions` meets its contract: the functions, and then the root.
-- Assumes nothing.
use Rattle.typing.proofs.Orders.{root_last}
use Rattle.typing.proofs.expressions.Goals as goal

pub returns : goal.returns
returns c = root_last _ c.functions.ensures c.in_ok-functions.was c.expression.ensures
