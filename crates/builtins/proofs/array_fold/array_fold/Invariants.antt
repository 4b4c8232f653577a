-- `array_fold` meets its contract: with no room it is refused; else the powers one by one, and then the tree.
-- Assumes nothing.
use Rattle.builtins.proofs.Folds.{Going}
use Rattle.builtins.proofs.array_fold.array_fold.Given as goal

abbrev pub invariant-loop-k : goal.invariant-loop-k
invariant-loop-k l = Going l.place l.size l.f l.most l.initial.nodes l.nodes l.powers l.k
