-- `list_fold` meets its contract: after each doubling, what is left of them makes the whole.
-- Assumes nothing.
use Prim.Native.Nat.{◌-◌}
use Rattle.recipes.proofs.Folds.{Doubling}
use Rattle.recipes.proofs.list_fold.list_fold.Given as goal

abbrev pub invariant-loop : goal.invariant-loop
invariant-loop l = Doubling l.place l.initial.nodes (l.end - 1) l.initial.whole l.initial.fold l.nodes (l.end - l.counter) l.whole l.fold
