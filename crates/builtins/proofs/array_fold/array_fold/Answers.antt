-- `array_fold` meets its contract: with no room it is refused; else the powers one by one, and then the tree.
-- Assumes nothing.
use mathlib.Core.Path.{refl}
use native.Mathlib.Omega.{arith}
use Rattle.named.proofs.Sizes.{done_short}
use Rattle.named.proofs.Storing.{handed}
use Rattle.builtins.proofs.Counts.{stores_array}
use Rattle.builtins.proofs.Folds.{going_first, going_next, going_stop, going_last}
use borrow.Author.Rules.{rules}
use Rattle.builtins.proofs.array_fold.array_fold.Goals as goal

pub returns-then-room-array_fold_nodes : goal.returns-then-room-array_fold_nodes
returns-then-room-array_fold_nodes c =
    done_short _ (stores_array c.args.size c.args.f (search rules)) (omega (arith, c.array_fold_nodes.ensures.is, c.room.ensures))

pub loop-k-init : goal.loop-k-init
loop-k-init c = going_first _ _ _ _ (search rules) _ _ (search rules) c.top-most.ensures refl

pub loop-k-preserved : goal.loop-k-preserved
loop-k-preserved c = going_next _ _ _ _ (search rules) _ _ c.loop-k.invariant (omega arith) c.in_ok-powers.ensures

pub returns-in_err-powers : goal.returns-in_err-powers
returns-in_err-powers c =
    rw (handed c.from_residual.ensures.1) (going_stop _ _ _ _ (search rules) _ _ c.loop-k.invariant (omega arith) c.in_err-powers.ensures)

pub tree_fold-requires : goal.tree_fold-requires
tree_fold-requires c = (c.requires.0, (rw c.loop-k.invariant.nine (omega arith), c.requires.1))

pub returns : goal.returns
returns c = search (going_last, rules)
