-- `list_fold` meets its contract: after each doubling, what is left of them makes the whole.
-- Assumes nothing.
use Rattle.std.proofs.Common.{ap, refl, ℕ, ◌-◌, arith}
use Rattle.named.proofs.Storing.{then, halt, handed}
use Rattle.recipes.proofs.Folds.{doubling_on, list_whole}
use Rattle.recipes.proofs.list_fold.list_fold.Goals as goal

pub returns-in_err-whole : goal.returns-in_err-whole
returns-in_err-whole c =
    rw (handed c.from_residual-in_err-whole.ensures.1)
    (list_whole _ _ _ (ap (λ (n : ℕ). n - 1) c.top-end.ensures) c.in_ok-keep.ensures c.in_ok-fold.ensures
    (doubling_on _ _ c.loop.invariant (omega arith) refl (halt _ c.in_err-whole.ensures)))

pub returns-in_err-fold-2 : goal.returns-in_err-fold-2
returns-in_err-fold-2 c =
    rw (handed c.from_residual-in_err-fold-2.ensures.1)
    (list_whole _ _ _ (ap (λ (n : ℕ). n - 1) c.top-end.ensures) c.in_ok-keep.ensures c.in_ok-fold.ensures
    (doubling_on _ _ c.loop.invariant (omega arith) refl (then _ c.in_ok-whole.ensures (halt _ c.in_err-fold-2.ensures))))
