-- Laws of a list's blocks: what is stored for a list is its first block and then the rest at half the bound.
-- Assumes nothing.
use Prim.Native.Nat.{ℕ, suc, ◌-◌, ◌*◌, ◌/◌, ◌^◌, ◌≤◌, ◌<◌}
use mathlib.Core.List.{List, [], ◌∷◌}
use mathlib.Core.Path.{◌≡◌, refl, ap, ◌∙◌}
use native.Mathlib.Omega.{arith}
use lib.ListN.{length, take, drop}
use Rattle.std.specs.Prelude.{Err}
use Rattle.laws.specs.Order.{by_lt}
use Rattle.array.specs.Split.{top_of}
use Rattle.array.proofs.Partitions.{partition_none, partition_one, partition_filled, partition_empty}
use Rattle.book.specs.declared.fault.Refusal.{Refusal}
use Rattle.named.specs.Combinators.{pair, joined}
use Rattle.named.specs.Stores.{Done}
use Rattle.named.specs.Table.{Table}
use Rattle.named.proofs.Storing.{halt}
use Rattle.parts.specs.Joins.{empty_block, filled_block, blocks, listed}
use Rattle.parts.specs.Parts.{Power}
use Rattle.parts.proofs.Numbers.{Halved, top_power, power_halved}

top_one : top_of 1 ≡ 0
top_one = top_power 0

half_is : (half : ℕ) → Power half → (half ≡ 1 → ⊥) → half ≡ 2 ^ suc (top_of (half / 2))
half_is half power some = power.is ∙ ap (λ j. 2 ^ j) (power_halved half power some).top

-- a row of nodes as a list of bound 2 * half
module _ (r half : ℕ) (xs : List ℕ) where
  -- bound 2, of none and of one
  pub list_none : half ≡ 1 → length xs < half → blocks r (top_of half) xs ≡ empty_block r
  list_none e h = rw (e, top_one) (none xs (omega arith))
    where
      none : (ys : List ℕ) → length ys < 1 → blocks r 0 ys ≡ empty_block r
      none [] l = partition_none (empty_block r) (filled_block r) (joined (pair r))
      none (y ∷ ys) l = absurd (omega arith)

  pub list_one : {ls : List ℕ} → half ≡ 1 → half ≤ length xs → length xs < 2 * half → ls ≡ take half xs → blocks r (top_of half) xs ≡ filled_block r ls
  list_one e h u l = rw (l, e, top_one) (one xs (omega arith) (omega arith))
    where
      one : (ys : List ℕ) → 1 ≤ length ys → length ys < 2 → blocks r 0 ys ≡ filled_block r (take 1 ys)
      one [] p q = absurd (omega arith)
      one (y ∷ []) p q = partition_one (empty_block r) (filled_block r) (joined (pair r)) y
      one (y ∷ z ∷ ys) p q = absurd (omega arith)

  -- a larger bound
  module _ (power : Power half) (some : half ≡ 1 → ⊥) where
    pub list_empty : length xs < half → blocks r (top_of half) xs ≡ joined (pair r) (empty_block r) (blocks r (top_of (half / 2)) xs)
    list_empty h =
        let few : length xs < 2 ^ suc (top_of (half / 2)) = omega (arith, half_is half power some) in
        rw ((power_halved half power some).top) (partition_empty (empty_block r) (filled_block r) (joined (pair r)) (top_of (half / 2)) xs few)

    pub list_filled : {ls gs : List ℕ} → half ≤ length xs → ls ≡ take half xs → gs ≡ drop half xs → blocks r (top_of half) xs ≡ joined (pair r) (filled_block r ls) (blocks r (top_of (half / 2)) gs)
    list_filled h l o =
        let many : 2 ^ suc (top_of (half / 2)) ≤ length xs = omega (arith, half_is half power some) in
        rw (l, o, (power_halved half power some).top, partition_filled (empty_block r) (filled_block r) (joined (pair r)) (top_of (half / 2)) xs many, ← half_is half power some) refl

  -- where its first block is refused, so is the list
  module _ (power : Power half) {d d₁ : Table} {w : Refusal} where
    pub empty_halt : length xs < half → Done d (empty_block r) (Err w) d₁ → Done d (blocks r (top_of half) xs) (Err w) d₁
    empty_halt h p = by_lt half 2 (λ l. rw (list_none (omega arith) h) p) (λ l. rw (list_empty power (λ e. omega arith) h) (halt _ p))

    pub filled_halt : {ls : List ℕ} → half ≤ length xs → length xs < 2 * half → ls ≡ take half xs → Done d (filled_block r ls) (Err w) d₁ → Done d (blocks r (top_of half) xs) (Err w) d₁
    filled_halt h u l p = by_lt half 2 (λ o. rw (list_one (omega arith) h u l) p) (λ o. rw (list_filled power (λ e. omega arith) h l refl) (halt _ p))

-- a list of a bound by its half
pub listed_half : (r n : ℕ) (xs : List ℕ) → Halved n → listed r n xs ≡ blocks r (top_of (n / 2)) xs
unfolding listed
listed_half r n xs h = let e : top_of n - 1 ≡ top_of (n / 2) = omega (arith, h.top) in rw e
