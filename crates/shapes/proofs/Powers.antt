-- Powers of two by halving: what goes down a type, side by side, with a power that is halved each time.
-- Assumes nothing.
use Prim.Native.Nat.{ℕ, suc, ◌/◌, ◌≤◌, ◌<◌}
use mathlib.Core.Bool.{Bool}
use mathlib.Core.List.{List}
use mathlib.Core.Path.{◌≡◌, ap, ◌∙◌}
use borrow.Author.Tests.{lt-ltb, le-ltb}
use lib.Dec.{T, ltb, leb, eqb, eqb→eq, leb→le}
use Rattle.laws.specs.Table.{pick, both, among, both_left, both_right, ◌also◌, every}
use Rattle.array.specs.Split.{halvings, top_of}
use Rattle.simplicity.specs.Types.{Ty}
use Rattle.book.specs.Format.{TYPE, powers, power_in, within}
use Rattle.book.specs.Stands.{Stands}
use Rattle.book.specs.Tree.{type_of}
use Rattle.shapes.specs.Views.{ListBound}

-- a power of two is 1, or its half is one, whose top bit is one place lower
abbrev halves : ℕ → Bool
halves x = pick (ltb 1 x) (both (among powers (x / 2)) (eqb (top_of x) (suc (top_of (x / 2))))) (eqb x 1)

all_halves : (x : ℕ) → T (among powers x) → T (halves x)
unfolding top_of halvings
all_halves = every powers (λ x. T (halves x)) (tt also tt also tt also tt also tt also tt also tt also tt also tt also tt)

module _ {x : ℕ} (p : T (among powers x)) where
  both_halves : 1 < x → T (both (among powers (x / 2)) (eqb (top_of x) (suc (top_of (x / 2)))))
  both_halves h = rw (lt-ltb 1 x h) at (all_halves x p)

  pub half_power : 1 < x → T (among powers (x / 2))
  half_power h = both_left (among powers (x / 2)) (eqb (top_of x) (suc (top_of (x / 2)))) (both_halves h)

  pub half_top : 1 < x → top_of x ≡ suc (top_of (x / 2))
  half_top h = eqb→eq (top_of x) (suc (top_of (x / 2))) (both_right (among powers (x / 2)) (eqb (top_of x) (suc (top_of (x / 2)))) (both_halves h))

  last_power : x ≤ 1 → x ≡ 1
  last_power h = eqb→eq x 1 (rw (le-ltb 1 x h) at (all_halves x p))

-- a list's bound is a power of two above 1
pub bound_power : (n : ℕ) → ListBound n → T (among powers n)
unfolding power_in
bound_power n t = both_right (within 2 256 n) (among powers n) t

pub bound_more : (n : ℕ) → ListBound n → 1 < n
unfolding power_in within
bound_more n t = leb→le 2 n (both_left (leb 2 n) (leb n 256) (both_left (within 2 256 n) (among powers n) t))

-- x is told by record t, as f says of 2 ^ k's place k
pub record Down {A : Type 0} (b i : List ℕ) (f : ℕ → Ty → A) (x : A) (t n : ℕ) : Type 0 where
  pub stands : Stands b i t TYPE
  pub power : T (among powers n)
  pub is : x ≡ f (top_of n) (type_of b i t)

module _ {A : Type 0} {b i : List ℕ} {f : ℕ → Ty → A} {x : A} {t n : ℕ} (d : Down b i f x t n) where
  -- by the half; by a side that tells the same; at the end
  pub down_is : 1 < n → x ≡ f (suc (top_of (n / 2))) (type_of b i t)
  down_is h = d.is ∙ ap (λ k. f k (type_of b i t)) (half_top d.power h)

  pub down_next : {y : ℕ} → 1 < n → Stands b i y TYPE → f (suc (top_of (n / 2))) (type_of b i t) ≡ f (top_of (n / 2)) (type_of b i y) → Down b i f x y (n / 2)
  down_next h s e = record { stands = s; power = half_power d.power h; is = down_is h ∙ e }

  pub down_end : n ≤ 1 → x ≡ f 0 (type_of b i t)
  unfolding top_of halvings
  down_end h = d.is ∙ ap (λ k. f (top_of k) (type_of b i t)) (last_power d.power h)
