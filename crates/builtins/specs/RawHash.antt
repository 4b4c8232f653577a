-- The hash of a row of words by their widths in bits: the original's recipe in its order of construction.
-- Assumes nothing.
use Rattle.std.specs.Prelude.{ℕ, ◌<◌, List, [], ◌∷◌, map, get_or}
use Rattle.array.specs.Row.{row}
use Rattle.jet.specs.Jets.{add_of}
use Rattle.named.specs.Trace.{Run, bind}
use Rattle.named.specs.Combinators.{TAKE, DROP, iden, unit, comp, pair, jet, select, joined, applied}

-- a left and a right part added to the context, the left one first; all three selectors come first
unfoldable pub add_both : ℕ → ℕ → ℕ → Run ℕ
add_both r left right =
    bind (select r (TAKE ∷ [])) (λ context.
    bind (select r (DROP ∷ TAKE ∷ [])) (λ first.
    bind (select r (DROP ∷ DROP ∷ [])) (λ second.
    bind (applied r left context first) (λ middle.
    applied r right middle second))))

-- a row added to a context: nothing leaves the context, one word is its width's jet, more go by their split
unfoldable pub add_row : ℕ → List ℕ → Run ℕ
add_row r ws = row (select r (TAKE ∷ [])) (joined (add_both r)) (map (λ w. jet r (add_of w)) ws)

-- document 01, Stored order: the raw hash: a fresh context beside the words, the adds, and the end
unfoldable pub raw_hash : ℕ → List ℕ → Run ℕ
raw_hash r ws =
    bind (unit r) (λ u.
    bind (jet r 3) (λ init.
    bind (comp r u init) (λ fresh.
    bind (iden r) (λ words.
    bind (pair r fresh words) (λ input.
    bind (add_row r ws) (λ adds.
    bind (comp r input adds) (λ full.
    bind (jet r 10) (λ end.
    comp r full end))))))))

-- document 01, Numbers: the first n of them are hash widths
pub record Widths (n : ℕ) (ws : List ℕ) : Type 0 where
  pub each : (k : ℕ) → k < n → 0 < add_of (get_or ws k 0)
