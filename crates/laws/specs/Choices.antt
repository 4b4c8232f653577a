-- A choice by key: what is computed at each entry of the table holds of whatever is chosen.
-- Assumes nothing.
use Rattle.std.specs.Prelude.{Bool, true, false, List, [], ◌∷◌, ◌⊎◌, ◌≡◌, refl, ℕ, T, eqb}
use Rattle.std.proofs.Common.{inl, inr, eqb-true}
use Rattle.laws.specs.Table.{pick, both, Case, choose, both_left, both_right}

-- the test f passes at each entry: of its key and of what stands beside it
abbrev pub passes : {A : Type 0} → (ℕ → A → Bool) → List (Case A) → Bool
passes f [] = true
passes f (e ∷ es) = both (f e.key e.gives) (passes f es)

-- so it passes at m, unless nothing is chosen there
pub all_chosen : {A : Type 0} (f : ℕ → A → Bool) (es : List (Case A)) (m : ℕ) (d : A) → T (passes f es) → (choose es m d ≡ d) ⊎ T (f m (choose es m d))
all_chosen f [] m d t = inl refl
all_chosen f (e ∷ es) m d t =
    go (all_chosen f es m d (both_right (f e.key e.gives) (passes f es) t)) (eqb m e.key) refl
  where
    go : (choose es m d ≡ d) ⊎ T (f m (choose es m d)) → (b : Bool) → eqb m e.key ≡ b → (pick b e.gives (choose es m d) ≡ d) ⊎ T (f m (pick b e.gives (choose es m d)))
    go h true q = inr (rw (eqb-true m e.key q) (both_left (f e.key e.gives) (passes f es) t))
    go h false q = h
