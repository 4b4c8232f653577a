-- Laws of the numbers that a record holds: the range of each by its mark.
-- Assumes nothing.
use Prim.Native.Nat.{ℕ, zero, suc, ◌+◌, ◌*◌, ◌/◌, ◌^◌, ◌≤◌, ◌<◌}
use mathlib.Core.List.{List}
use mathlib.Core.Path.{◌≡◌}
use native.Mathlib.Nat.{two-pow-succ}
use native.Mathlib.Omega.{arith}
use lib.Dec.{T, ltb, leb, ltb→lt, leb→le}
use lib.ListN.{get_or}
use lib.Pow.{pow_pos, pow_mono}
use Rattle.laws.specs.Order.{pow_less}
use Rattle.laws.specs.Table.{both, among, both_left, both_right, ◌also◌, every}
use Rattle.array.specs.Split.{top_of}
use Rattle.array.proofs.Splits.{top_is}
use Rattle.jet.specs.Jets.{add_of}
use Rattle.book.specs.Format.{word_at, in_range, within, powers, power_in, EL, EN, EH, CH, CQ, CY, CW}
use Rattle.book.specs.Index.{field}
use Rattle.book.proofs.Roles.{Field, head_field, each_field, field_before, ranged_is}
use Rattle.parts.specs.Parts.{Marked, Power, span_at}

-- between two ends
pub from_low : (lo hi x : ℕ) → T (within lo hi x) → lo ≤ x
unfolding within
from_low lo hi x t = leb→le lo x (both_left (leb lo x) (leb x hi) t)

pub to_high : (lo hi x : ℕ) → T (within lo hi x) → x ≤ hi
unfolding within
to_high lo hi x t = leb→le x hi (both_right (leb lo x) (leb x hi) t)

-- a power of two between them
pub power_within : (lo hi x : ℕ) → T (power_in lo hi x) → T (within lo hi x)
unfolding power_in
power_within lo hi x t = both_left (within lo hi x) (among powers x) t

-- the place of a power's only one bit, and its half
pub top_power : (j : ℕ) → top_of (2 ^ j) ≡ j
top_power j = top_is j (2 ^ j) (omega arith) (omega (arith, two-pow-succ j, pow_pos j))

power_at : (j : ℕ) → 2 ^ j ≡ 2 ^ top_of (2 ^ j)
power_at j = rw top_power

pub power_is : (x : ℕ) → T (among powers x) → x ≡ 2 ^ top_of x
power_is = every powers (λ y. y ≡ 2 ^ top_of y)
    (power_at 0 also power_at 1 also power_at 2 also power_at 3 also power_at 4 also power_at 5 also power_at 6 also power_at 7 also power_at 8 also tt)

half_power : (j : ℕ) → 2 ^ suc j / 2 ≡ 2 ^ j
half_power j = omega (arith, two-pow-succ j)

-- a power of two, and its half
pub record Halved (n : ℕ) : Type 0 where
  pub power : Power (n / 2)
  pub less : n / 2 < n
  pub double : n ≡ 2 * (n / 2)
  pub top : top_of n ≡ suc (top_of (n / 2))

halved_at : (j : ℕ) → j ≤ 7 → Halved (2 ^ suc j)
halved_at j h = record {
  power = rw half_power (record { is = rw top_power; few = pow_mono {i = j} {j = 7} h });
  less = rw half_power (omega (arith, two-pow-succ j, pow_pos j));
  double = rw half_power (omega (arith, two-pow-succ j));
  top = rw (half_power, top_power (suc j), top_power j);
}

-- a list's bound; half the bound of a list, where it is not 1
pub bound_halved : (x : ℕ) → T (power_in 2 256 x) → Halved x
unfolding power_in within
bound_halved x t = every powers (λ y. T (within 2 256 y) → Halved y)
    ((λ o. absurd o)
    also (λ o. halved_at 0 (omega arith))
    also (λ o. halved_at 1 (omega arith))
    also (λ o. halved_at 2 (omega arith))
    also (λ o. halved_at 3 (omega arith))
    also (λ o. halved_at 4 (omega arith))
    also (λ o. halved_at 5 (omega arith))
    also (λ o. halved_at 6 (omega arith))
    also (λ o. halved_at 7 (omega arith))
    also tt)
    x (both_right (within 2 256 x) (among powers x) t) (power_within 2 256 x t)

pub power_halved : (n : ℕ) → Power n → (n ≡ 1 → ⊥) → Halved n
power_halved n p h = go (top_of n) p.is
  where
    go : (j : ℕ) → n ≡ 2 ^ j → Halved n
    go zero e = absurd (h e)
    go (suc j) e = rw e (halved_at j (omega (arith, pow_less j 7 (omega (arith, p.few, two-pow-succ j, pow_pos j)))))

-- a hash's width has a jet that adds it
pub width_adds : (x : ℕ) → T (power_in 8 256 x) → 0 < add_of x
unfolding power_in within add_of
width_adds x t = every powers (λ y. T (within 8 256 y) → 0 < add_of y)
    ((λ o. absurd o)
    also (λ o. absurd o)
    also (λ o. absurd o)
    also (λ o. omega arith)
    also (λ o. omega arith)
    also (λ o. omega arith)
    also (λ o. omega arith)
    also (λ o. omega arith)
    also (λ o. omega arith)
    also tt)
    x (both_right (within 8 256 x) (among powers x) t) (power_within 8 256 x t)

-- the numbers of a record by its mark
module _ {b i : List ℕ} {r m : ℕ} (g : Marked b i r m) where
  in_range_lem : {j w : ℕ} → Field b i r j w → T (in_range w (word_at b (get_or i r 0 + 2 * j)) (field b i r j))
  in_range_lem f = ranged_is g.stands.valid r g.stands.inside f

module _ {b i : List ℕ} {r : ℕ} where
  -- a list's bound, and its count below it
  list_range : Marked b i r EL → T (power_in 2 256 (field b i r 1))
  unfolding in_range
  list_range g = in_range_lem g (head_field b i r EL g.is 1 tt)

  pub list_bound : Marked b i r EL → (n : ℕ) → n ≡ field b i r 1 → Halved n
  list_bound g n e = rw e (bound_halved (field b i r 1) (list_range g))

  pub list_under : Marked b i r EL → field b i r 2 < field b i r 1
  unfolding in_range
  list_under g =
      let t : T (ltb (field b i r 2) (word_at b (get_or i r 0 + 2 * (1 + 1)))) = in_range_lem g (head_field b i r EL g.is 2 tt) in
      ltb→lt (field b i r 2) (field b i r 1) (rw (field_before b (get_or i r 0) 1) at t)

  pub list_count : {m : ℕ} → Marked b i r EL → m ≡ EL → (n : ℕ) → n ≡ (span_at m (field b i r)).count → n < field b i r 1
  unfolding span_at
  list_count g e n z = let w : n ≡ field b i r 2 = rw e at z in omega (arith, list_under g)

  pub list_most : Marked b i r EL → field b i r 2 ≤ 256
  list_most g = omega (arith, list_under g, to_high 2 256 (field b i r 1) (power_within 2 256 (field b i r 1) (list_range g)))

  -- a variant's index, below the number of variants
  variant_range : Marked b i r EN → T (both (ltb (field b i r 1) (field b i r 2)) (leb (field b i r 2) 256))
  unfolding in_range
  variant_range g =
      let t : T (both (ltb (word_at b (get_or i r 0 + 2 * (1 + 1))) (field b i r 2)) (leb (field b i r 2) 256)) = in_range_lem g (head_field b i r EN g.is 2 tt) in
      rw (field_before b (get_or i r 0) 1) at t

  pub variant_under : Marked b i r EN → field b i r 1 < field b i r 2
  variant_under g = ltb→lt _ _ (both_left (ltb (field b i r 1) (field b i r 2)) (leb (field b i r 2) 256) (variant_range g))

  pub variant_most : Marked b i r EN → field b i r 2 ≤ 256
  variant_most g = leb→le _ _ (both_right (ltb (field b i r 1) (field b i r 2)) (leb (field b i r 2) 256) (variant_range g))

  -- a fold's bound, size, a loop's width
  pub fold_bound : Marked b i r CQ → T (within 2 256 (field b i r 2))
  unfolding in_range
  fold_bound g = power_within 2 256 (field b i r 2) (in_range_lem g (head_field b i r CQ g.is 2 tt))

  pub fold_size : Marked b i r CY → T (within 1 256 (field b i r 2))
  unfolding in_range
  fold_size g = in_range_lem g (head_field b i r CY g.is 2 tt)

  pub loop_width : Marked b i r CW → T (within 1 16 (field b i r 2))
  unfolding in_range
  loop_width g = power_within 1 16 (field b i r 2) (in_range_lem g (head_field b i r CW g.is 2 tt))

  pub loop_power : Marked b i r CW → {x : ℕ} → x ≡ field b i r 2 → x ≡ 2 ^ top_of x
  unfolding in_range power_in
  loop_power g {x} e = rw e (power_is (field b i r 2) (both_right (within 1 16 (field b i r 2)) (among powers (field b i r 2)) (in_range_lem g (head_field b i r CW g.is 2 tt))))

  -- the arms of an enum's match
  pub arms_most : Marked b i r EH → field b i r 2 ≤ 256
  unfolding in_range
  arms_most g = to_high 1 256 _ (in_range_lem g (head_field b i r EH g.is 2 tt))

  -- the widths of a hash's words
  pub hash_width : Marked b i r CH → (k : ℕ) → k < field b i r 2 → 0 < add_of (field b i r (3 + 2 * k))
  unfolding in_range
  hash_width g k h = width_adds _ (in_range_lem g (each_field b i r CH g.is (3 + 2 * k) k 0 (omega arith) h tt))
