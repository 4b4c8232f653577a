-- The path to variant or element k of n: lefts and rights by the splits.
-- Assumes nothing.
use Rattle.std.specs.Prelude.{true, false, List, [], ◌∷◌, ℕ, ◌-◌, ltb}
use Rattle.array.specs.Split.{split_of}
use Rattle.array.specs.Parts.{by_parts}

-- a turn of a path
pub data Side : Type 0 where
  on_left on_right : Side

-- n variants, two or more: those below the split are on the left, the others, counted from the split on, on the right
abbrev pub turn : ℕ → (ℕ → List Side) → (ℕ → List Side) → ℕ → List Side
turn n l r k = elim (ltb k (split_of n)) [ true ↦ on_left ∷ l k | false ↦ on_right ∷ r (k - split_of n) ]

-- document 01, Balanced trees: variant k of n is a path of lefts and rights by the same splits; n = 1 is the payload bare
unfoldable pub path : ℕ → ℕ → List Side
path n k = by_parts {B = ℕ → List Side} (λ j. []) (λ j. []) turn n k
