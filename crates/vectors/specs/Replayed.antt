-- What is printed of a replay, from the verdicts on its vectors.
-- Assumes nothing.
use Rattle.std.specs.Prelude.{ℕ, ◌+◌, ◌≤◌, ◌<◌, Bool, true, false, List, [], ◌∷◌, ◌++◌, ◌⊎◌, ◌≡◌, length, flat_map, codes, Option, Result, Ok}
use Rattle.std.specs.Io.KnownBytes.{Appends, Consumes, IsAtEnd}
use Rattle.console.specs.Lines.{count_line}

-- the numbers, from i on, of the vectors whose verdict is that they are wrong
abbrev pub wrongs : ℕ → List Bool → List ℕ
wrongs i [] = []
wrongs i (true ∷ vs) = wrongs (i + 1) vs
wrongs i (false ∷ vs) = i ∷ wrongs (i + 1) vs

-- a line for each number
abbrev pub wrong_lines : List ℕ → List ℕ
wrong_lines ws = flat_map (λ w. count_line (codes "wrong") w) ws

-- how many vectors there were, and how many were wrong
abbrev pub total_lines : ℕ → ℕ → List ℕ
total_lines all wrong = count_line (codes "vectors") all ++ count_line (codes "wrong") wrong

-- the lines of the vectors that were wrong, in rising order, and then the two totals; at most a million vectors are replayed
abbrev pub Replayed : List Bool → Option (List ℕ) → Option (List ℕ) → Type 0
Replayed vs old new = (length vs ≤ 1000000) × Appends old new (wrong_lines (wrongs 0 vs) ++ total_lines (length vs) (length (wrongs 0 vs)))

-- what is left of an input, where that is known
abbrev pub Left : Type 0
Left = Option (List ℕ)

-- A turn of a replay. A head of n bytes comes from the input, and a call on what is left, and on what is made of the head, gives this
-- verdict. p and q are the state that is called, and what is known to be left of the input, before and after.
abbrev pub Turn : {F R H E : Type 0} → ℕ → (R → Left) → (List ℕ → H → Type 0) → (F → R → H → Result Bool E → R → F → Type 0) → F × Left → Bool → F × Left → Type 0
Turn {F} {R} {H} n left made step p v q =
    (head : List ℕ) × (x : R) × (h : H) × (y : R) × (length head ≡ n) × Consumes p.1 (left x) head × made head h × step p.0 x h (Ok v) y q.0 × (q.1 ≡ left y)

-- a replay stops after a million vectors, or where less than a head of n bytes is left
abbrev pub Stops : ℕ → List Bool → Left → Left → Type 0
Stops n vs rest new = (length vs ≡ 1000000) ⊎ ((head : List ℕ) × (length head < n) × Consumes rest new head × IsAtEnd new)
