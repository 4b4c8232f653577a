-- `initial::number_values` meets its contract: the first r records are numbered.
-- Assumes nothing.
use Rattle.run.proofs.Seeds.{Numbered}
use Rattle.run.proofs.initial.number_values.Given as goal

abbrev pub invariant-loop-r : goal.invariant-loop-r
invariant-loop-r l = Numbered l.book l.row l.next l.r
