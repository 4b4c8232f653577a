-- `initial::seed_cells` meets its contract: cell 0 and the cells of the first r records are stored.
-- Assumes nothing.
use Prim.Native.Nat.{ℕ}
use mathlib.Core.List.{List}
use Rattle.run.specs.Calls.{Started}
use Rattle.run.proofs.initial.seed_cells.Given as goal

abbrev pub invariant-loop-r : goal.invariant-loop-r
invariant-loop-r l =
    (s : List ℕ) → Started l.book 0 s l.initial.p l.initial.cells → Started l.book l.r s l.p l.cells
