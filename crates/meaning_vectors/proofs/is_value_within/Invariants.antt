-- `is_value_within`: no more cells wait than kinds were taken, and one.
use Rattle.std.proofs.Common.{◌+◌, ◌≤◌}
use Rattle.meaning_vectors.proofs.is_value_within.Given as goal

abbrev pub invariant-loop-kind : goal.invariant-loop-kind
invariant-loop-kind l = l.waiting ≤ l.kind-index + 1
