-- `spell`: no more pairs (`.1.0`) are open than there are characters (`.0`), and each step writes one or two.
use Rattle.std.proofs.Common.{◌-◌, ◌≤◌}
use Rattle.runbook.proofs.spell.Given as goal

abbrev pub invariant-loop-s : goal.invariant-loop-s
invariant-loop-s l = l.s.1.0 ≤ l.s.0

abbrev pub decreases-loop-s : goal.decreases-loop-s
decreases-loop-s l = 65537 - l.s.0
