-- `tree_fold` meets its contract: the size is a power, or what is left of it is folded first.
-- Assumes nothing.
use Rattle.std.proofs.Common.{arith, rules}
use Rattle.named.proofs.Storing.{then, halt, handed}
use Rattle.builtins.proofs.Folds.{top_taken, tree_more}
use Rattle.builtins.proofs.array_fold.+tree_fold.Goals as goal

pub tree_fold-requires : goal.tree_fold-requires
tree_fold-requires t c =
    let h = top_taken c.args.n c.top-most.result (search rules) (search rules) (search rules) in
    (omega arith, (omega (arith, c.if-rest-eq0.false), (omega arith, omega arith)))

pub returns-in_err-left : goal.returns-in_err-left
returns-in_err-left t c =
    rw (tree_more _ _ _ _ _ (search rules) c.top-most.ensures (top_taken c.args.n c.top-most.result (search rules) (search rules) (search rules)) (omega (arith, c.if-rest-eq0.false)), handed c.from_residual.ensures.1)
    (halt _ c.in_err-left.ensures)

pub returns : goal.returns
returns t c =
    rw (tree_more _ _ _ _ _ (search rules) c.top-most.ensures (top_taken c.args.n c.top-most.result (search rules) (search rules) (search rules)) (omega (arith, c.if-rest-eq0.false)))
    (then _ c.in_ok-left.ensures c.f_array_fold.ensures)
