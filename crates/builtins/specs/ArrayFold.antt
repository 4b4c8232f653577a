-- The fold of an array by a function's node f: the original's recipe in its order of construction.
-- Assumes nothing.
use Rattle.std.specs.Prelude.{ℕ, zero, suc, ◌+◌, ◌-◌, ◌*◌, ◌^◌, true, false, ◌≡◌, List, [], ◌∷◌, eqb, get_or}
use Rattle.std.specs.Int.Count.{ones}
use Rattle.array.specs.Split.{top_of}
use Rattle.named.specs.Trace.{Run, pure, bind}
use Rattle.named.specs.Combinators.{TAKE, DROP, select, applied}
use Rattle.named.specs.Cut.{size}

-- two folds one after the other: the left one from the start, the right one from what that gives; all three selectors come first
unfoldable pub f_array_fold : ℕ → ℕ → ℕ → Run ℕ
f_array_fold r left right =
    bind (select r (TAKE ∷ TAKE ∷ [])) (λ first.
    bind (select r (TAKE ∷ DROP ∷ [])) (λ second.
    bind (select r (DROP ∷ [])) (λ start.
    bind (applied r left first start) (λ middle.
    applied r right second middle))))

-- the folds of 1, 2, 4, .. 2 ^ k elements, each made of the one before twice
unfoldable pub powers : ℕ → ℕ → ℕ → Run (List ℕ)
powers r zero f = pure (f ∷ [])
powers r (suc k) f = bind (f_array_fold r f f) (λ g. bind (powers r k g) (λ gs. pure (f ∷ gs)))

-- the fold of n elements, 1 or more, by those folds: the top power of n on the right, and on the left what is left of n, if any, within d calls
unfoldable pub tree_fold : ℕ → ℕ → List ℕ → ℕ → Run ℕ
tree_fold zero r fs n = pure (get_or fs (top_of n) 0)
tree_fold (suc d) r fs n = elim (eqb n (2 ^ top_of n)) [
  | true ↦ pure (get_or fs (top_of n) 0)
  | false ↦ bind (tree_fold d r fs (n - 2 ^ top_of n)) (λ left. f_array_fold r left (get_or fs (top_of n) 0))
]

-- document 01, Stored order: the array fold of n, with no power that its tree doesn't use; each call leaves less of n, so n calls are enough
unfoldable pub array_fold : ℕ → ℕ → ℕ → Run ℕ
array_fold r n f = bind (powers r (top_of n) f) (λ fs. tree_fold n r fs n)

-- what callers learn of m, the count of nodes of an array fold of n: document 01's number, and what is stored for any record and body
pub record FoldNodes (n m : ℕ) : Type 0 where
  pub is : m ≡ 12 * (top_of n + ones n - 1)
  pub stored : (r f c : ℕ) → size (array_fold r n f c) ≡ m
