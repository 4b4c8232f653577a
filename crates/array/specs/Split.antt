-- The split of a number, and the place of its top one bit.
-- Assumes nothing.
use Rattle.std.specs.Prelude.{true, false, ◌≡◌, ℕ, zero, suc, ◌-◌, ◌*◌, ◌/◌, ◌<◌, ◌≤◌, leb}

-- the first of p, 2p, 4p, .. that is not below n, within f doublings
unfoldable pub not_below : ℕ → ℕ → ℕ → ℕ
not_below zero p n = p
not_below (suc f) p n = elim (leb n p) [ true ↦ p | false ↦ not_below f (2 * p) n ]

-- the least power of two not below n; 2 ^ n is one, so n doublings are enough
unfoldable pub least_power : ℕ → ℕ
least_power n = not_below n 1 n

-- document 01, Balanced trees: n minus half the least power of two not below n
unfoldable pub split_of : ℕ → ℕ
split_of n = n - least_power n / 2

-- how often n can be halved until it is 1, within f halvings
unfoldable pub halvings : ℕ → ℕ → ℕ
halvings zero n = 0
halvings (suc f) n = elim (leb n 1) [ true ↦ 0 | false ↦ suc (halvings f (n / 2)) ]

-- document 01, Stored order: the place of the top one bit, from 0
unfoldable pub top_of : ℕ → ℕ
top_of n = halvings n n

-- what callers learn of r, the left part of n from 2 to 256: it is the split, and both parts hold from 1 to 128
pub record Split (n r : ℕ) : Type 0 where
  pub is : r ≡ split_of n
  pub left_some : 0 < r
  pub right_some : r < n
  pub left_most : r ≤ 128
  pub right_most : n - r ≤ 128
