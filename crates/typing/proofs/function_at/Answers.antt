-- `function_at` meets its contract: by the record's kind.
-- Assumes nothing.
use Rattle.book.specs.Format.{FUNCTION}
use Rattle.typing.proofs.Judging.{at_once}
use Rattle.typing.proofs.Steps.{stays_of}
use Rattle.typing.proofs.Orders.{among_begins, stands_as, function_none, function_some}
use Rattle.typing.proofs.function_at.Goals as goal

pub mark_at-requires : goal.mark_at-requires
mark_at-requires c = among_begins c.requires.among

pub function-requires-clause-stands : goal.function-requires-clause-stands
function-requires-clause-stands c = stands_as c.requires.among c.mark_at.ensures c.kind_of.ensures FUNCTION c.if-kind_of-eq-FUNCTION.true

pub returns-then-kind_of-eq-FUNCTION : goal.returns-then-kind_of-eq-FUNCTION
returns-then-kind_of-eq-FUNCTION c =
    stays_of c.function.ensures (function_some c.requires.among c.mark_at.ensures c.kind_of.ensures c.if-kind_of-eq-FUNCTION.true)

pub returns-else-kind_of-eq-FUNCTION : goal.returns-else-kind_of-eq-FUNCTION
returns-else-kind_of-eq-FUNCTION c =
    at_once c.requires.rows (function_none c.requires.among c.mark_at.ensures c.kind_of.ensures c.if-kind_of-eq-FUNCTION.false)
