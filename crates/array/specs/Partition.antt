-- Lists of a bound, in blocks of powers of two, over any kind of element: the original's fold of a Partition.
-- Assumes nothing.
use Rattle.std.specs.Prelude.{true, false, List, [], ◌∷◌, ℕ, zero, suc, ◌^◌, leb, length, take, drop}

module _ {A B : Type 0} (empty : B) (filled : List A → B) (join : B → B → B) where
  -- document 01, Balanced trees: a list of bound 2 ^ suc k. Bound 2 is an empty block, or a block of its one element (xs is empty there:
  -- a list is shorter than its bound). A larger bound is a block of half the bound, filled by the first elements if there are that many,
  -- else empty; then the rest at half the bound
  unfoldable pub partition : ℕ → List A → B
  partition zero [] = empty
  partition zero (x ∷ xs) = filled (x ∷ xs)
  partition (suc k) xs = elim (leb (2 ^ suc k) (length xs)) [
    | true ↦ join (filled (take (2 ^ suc k) xs)) (partition k (drop (2 ^ suc k) xs))
    | false ↦ join empty (partition k xs)
  ]
