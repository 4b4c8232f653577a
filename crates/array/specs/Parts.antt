-- Recursion by splits, once for all that is made along them.
-- Assumes nothing.
use Rattle.std.specs.Prelude.{ℕ, zero, suc, ◌-◌}
use Rattle.array.specs.Split.{split_of}

module _ {B : Type 0} (none one : B) (more : ℕ → B → B → B) where
  -- what n gives, within f calls: none and one for 0 and 1, else more of n and of what its left and its right part give
  unfoldable pub parts_in : ℕ → ℕ → B
  parts_in zero n = none
  parts_in (suc f) zero = none
  parts_in (suc f) (suc zero) = one
  parts_in (suc f) (suc (suc n)) =
      let s : ℕ = split_of (suc (suc n)) in
      more (suc (suc n)) (parts_in f s) (parts_in f (suc (suc n) - s))

  -- document 01, Balanced trees: by the split of n; the parts are smaller than n, so n calls are enough
  unfoldable pub by_parts : ℕ → B
  by_parts n = parts_in n n
