-- Rows as balanced trees, over any kind of element: the original's fold of a BTreeSlice.
-- Assumes nothing.
use Rattle.std.specs.Prelude.{List, ℕ, length, get_or, take, drop}
use Rattle.array.specs.Split.{split_of}
use Rattle.array.specs.Parts.{by_parts}

-- n elements, two or more: f of what the left part gives and what the right part gives
abbrev pub joined : {A : Type 0} → (A → A → A) → ℕ → (List A → A) → (List A → A) → List A → A
joined f n l r xs = f (l (take (split_of n) xs)) (r (drop (split_of n) xs))

-- document 01, Balanced trees: a row folds by its split; one element is bare, an empty row is e
unfoldable pub row : {A : Type 0} → A → (A → A → A) → List A → A
row {A} e f xs = by_parts {B = List A → A} (λ ys. e) (λ ys. get_or ys 0 e) (joined f) (length xs) xs
