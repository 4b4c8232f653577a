-- Laws of the recursion by splits: its induction, and what it gives of 0, of 1 and of two parts.
-- Assumes nothing.
use mathlib.Core.Path.{◌≡◌, refl, sym, ap₂, ◌∙◌}
use Prim.Native.Nat.{ℕ, zero, suc, ◌-◌, ◌≤◌}
use native.Mathlib.Nat.{not-suc-le-zero}
use native.Mathlib.Omega.{arith}
use Rattle.array.specs.Split.{split_of}
use Rattle.array.specs.Parts.{parts_in, by_parts}
use Rattle.array.proofs.Splits.{split_some, split_less}

module _ (P : ℕ → Type 0) (none : P 0) (one : P 1) (more : (n : ℕ) → 2 ≤ n → P (split_of n) → P (n - split_of n) → P n) where
  all_in : (f n : ℕ) → n ≤ f → P n
  all_in zero zero h = none
  all_in zero (suc n) h = absurd (not-suc-le-zero h)
  all_in (suc f) zero h = none
  all_in (suc f) (suc zero) h = one
  all_in (suc f) (suc (suc n)) h =
      let m : ℕ = suc (suc n) in
      let two : 2 ≤ m = omega arith in
      more m two (all_in f (split_of m) (omega (arith, split_less m two))) (all_in f (m - split_of m) (omega (arith, split_some m two)))

  -- what holds of 0 and 1, and of n where it holds of its two parts, holds of every number
  pub parts_all : (n : ℕ) → P n
  parts_all n = all_in n n (omega arith)

module _ {B : Type 0} (none one : B) (more : ℕ → B → B → B) where
  pub parts_none : by_parts none one more 0 ≡ none
  unfolding by_parts parts_in
  parts_none = refl

  pub parts_one : by_parts none one more 1 ≡ one
  unfolding by_parts parts_in
  parts_one = refl

  -- n calls are enough
  abbrev Enough : ℕ → Type 0
  Enough n = (f : ℕ) → n ≤ f → parts_in none one more f n ≡ by_parts none one more n

  enough_none : Enough 0
  unfolding by_parts parts_in
  enough_none zero h = refl
  enough_none (suc f) h = refl

  enough_one : Enough 1
  unfolding by_parts parts_in
  enough_one zero h = absurd (omega arith)
  enough_one (suc f) h = refl

  step : (n : ℕ) → 2 ≤ n → Enough (split_of n) → Enough (n - split_of n) → (f : ℕ) → n ≤ f → parts_in none one more f n ≡ more n (by_parts none one more (split_of n)) (by_parts none one more (n - split_of n))
  unfolding parts_in
  step zero two l r f h = absurd (omega arith)
  step (suc zero) two l r f h = absurd (omega arith)
  step (suc (suc n)) two l r zero h = absurd (omega arith)
  step (suc (suc n)) two l r (suc f) h =
      let m : ℕ = suc (suc n) in
      ap₂ (more m) (l f (omega (arith, split_less m two))) (r f (omega (arith, split_some m two)))

  enough : (n : ℕ) → Enough n
  unfolding by_parts
  enough = parts_all Enough enough_none enough_one (λ n two l r f h. step n two l r f h ∙ sym (step n two l r n (omega arith)))

  pub parts_more : (n : ℕ) → 2 ≤ n → by_parts none one more n ≡ more n (by_parts none one more (split_of n)) (by_parts none one more (n - split_of n))
  unfolding by_parts
  parts_more n two = step n two (enough (split_of n)) (enough (n - split_of n)) n (omega arith)
