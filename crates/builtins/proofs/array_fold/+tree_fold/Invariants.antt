-- `tree_fold` meets its contract: the size is a power, or what is left of it is folded first.
-- Assumes nothing.
use Rattle.builtins.proofs.array_fold.+tree_fold.Given as goal

abbrev pub decreases-tree_fold : goal.decreases-tree_fold
decreases-tree_fold l = l.n
