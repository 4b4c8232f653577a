-- `drive` meets its contract: turns until the run has ended.
-- Assumes nothing.
use Rattle.machine.proofs.Turns.{Going, left}
use Rattle.machine.specs.Machine.{given_in}
use Rattle.machine.proofs.drive.Given as goal

abbrev pub invariant-turns : goal.invariant-turns
invariant-turns l =
    Going (given_in l.lent) l.initial.cells l.initial.frames l.initial.s l.cells l.frames l.s

abbrev pub decreases-turns : goal.decreases-turns
decreases-turns l = left (given_in l.lent) l.cells l.frames l.s
