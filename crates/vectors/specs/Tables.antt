-- A table held against what is due. Past a row's end a byte reads as 0.
-- Assumes nothing.
use Rattle.std.specs.Prelude.{ℕ, ◌≤◌, ◌<◌, List, ◌≡◌, get_or}

-- P holds of each number below n
abbrev pub Below : (ℕ → Type 0) → ℕ → Type 0
Below P n = (k : ℕ) → k < n → P k

-- two rows have the same first n bytes
abbrev pub Alike : List ℕ → List ℕ → ℕ → Type 0
Alike t s n = Below (λ k. get_or t k 0 ≡ get_or s k 0) n

-- each byte of a row is v, from a place up to n
abbrev pub AllFrom : ℕ → List ℕ → ℕ → ℕ → Type 0
AllFrom v t from n = Below (λ k. from ≤ k → get_or t k 0 ≡ v) n
