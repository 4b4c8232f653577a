-- `sized` meets its contract: a memo of zeros knows no pair.
-- Assumes nothing.
use Rattle.std.proofs.Common.{refl}
use Rattle.binders.proofs.Fitting.{known_none}
use Rattle.typing.proofs.Orders.{rows_first}
use Rattle.typing.proofs.sized.Goals as goal

pub expressions-requires-clause-rows : goal.expressions-requires-clause-rows
expressions-requires-clause-rows g c = rows_first c.requires.valid c.requires.tiles c.requires.doubled (known_none _ _ _ _ refl) refl refl
