-- Tests in their order: those that code makes one after the other, and one that a loop makes at each number of a range.
-- Assumes nothing.
use Prim.Native.Nat.{ℕ, zero, suc, ◌+◌, ◌≤◌, ◌<◌}
use mathlib.Core.Bool.{Bool, true, false, ◌&&◌}
use mathlib.Core.List.{List, [], ◌∷◌}
use mathlib.Core.Path.{◌≡◌, refl, sym, ap, ◌∙◌}
use native.Mathlib.Omega.{arith}
use borrow.Author.Tests.{eq-eqb, ne_eqb}
use lib.Dec.{eqb}
use Rattle.std.specs.List.{list_all, range_with_len}
use Rattle.laws.specs.Order.{by_lt}
use Rattle.laws.specs.Table.{both, below, true_false}
use Rattle.shapes.proofs.Same.{one_test}

-- the tests hold, each in its turn
abbrev all : List Bool → Bool
all [] = true
all (x ∷ []) = x
all (x ∷ y ∷ ys) = both x (all (y ∷ ys))

-- w is whether they all hold
pub record Tests (w : Bool) (xs : List Bool) : Type 0 where
  pub is : w ≡ all xs

-- the first fails; it holds, and the others are left; it is the last
first_fails : {x : Bool} (xs : List Bool) → x ≡ false → all (x ∷ xs) ≡ false
first_fails [] o = o
first_fails (y ∷ ys) o = rw o

module _ {w x : Bool} where
  pub fails : {xs : List Bool} → Tests w (x ∷ xs) → x ≡ false → false ≡ w
  fails {xs} c o = sym (c.is ∙ first_fails xs o)

  pub stops : {a : Bool} {xs : List Bool} → Tests w (x ∷ xs) → a ≡ x → a ≡ false → a ≡ w
  stops c e o = o ∙ fails c (sym e ∙ o)

  pub passes : {y : Bool} {ys : List Bool} → Tests w (x ∷ y ∷ ys) → x ≡ true → Tests w (y ∷ ys)
  passes c o = record { is = rw o at c.is }

  pub tells : {a : Bool} → Tests w (x ∷ []) → a ≡ x → a ≡ w
  tells c e = e ∙ sym c.is

-- what is learnt of a test x: where the code's own test t of it is turned round, and where it is one of two numbers
module _ {x : Bool} where
  pub no : {t : Bool} → t ≡ x → t ≡ false → x ≡ false
  no e o = sym e ∙ o

  pub yes : {t : Bool} → t ≡ x → t ≡ true → x ≡ true
  yes e o = sym e ∙ o

  pub differ : {a c : ℕ} → eqb a c ≡ x → (a ≡ c → ⊥) → x ≡ false
  differ {a} {c} e o = sym e ∙ ne_eqb a c o

  pub equal : {a c : ℕ} → eqb a c ≡ x → a ≡ c → x ≡ true
  equal {a} {c} e o = sym e ∙ eq-eqb a c o

-- the test f passes at each of m numbers from k on
abbrev pub walk : (ℕ → Bool) → ℕ → ℕ → Bool
walk f k zero = true
walk f k (suc m) = both (f k) (walk f (k + 1) m)

-- what does the same step by step is the same
pub walk_is : (f : ℕ → Bool) (g : ℕ → ℕ → Bool) → ((k : ℕ) → g k 0 ≡ true) → ((k m : ℕ) → g k (suc m) ≡ both (f k) (g (k + 1) m)) → (k m : ℕ) → walk f k m ≡ g k m
walk_is f g e s k zero = sym (e k)
walk_is f g e s k (suc m) = ap (both (f k)) (walk_is f g e s (k + 1) m) ∙ sym (s k m)

-- where both of two tests hold, the first does, and the second
both_first : (t u : Bool) → both t u ≡ true → t ≡ true
both_first true u e = refl
both_first false u e = e

both_second : (t u : Bool) → both t u ≡ true → u ≡ true
both_second true u e = e
both_second false u e = absurd (true_false (sym e))

module _ (f : ℕ → Bool) where
  -- it passes there exactly where it passes at each
  pub each_walk : (k m : ℕ) → ((j : ℕ) → k ≤ j → j < k + m → f j ≡ true) → walk f k m ≡ true
  each_walk k zero h = refl
  each_walk k (suc m) h = rw (h k (omega arith) (omega arith)) (each_walk (k + 1) m (λ j o l. h j (omega arith) (omega arith)))

  from_each : (m k : ℕ) → walk f k m ≡ true → (j : ℕ) → j < m → f (k + j) ≡ true
  from_each zero k e j h = absurd (omega arith)
  from_each (suc m) k e zero h = let z : k + 0 ≡ k = omega arith in rw z (both_first (f k) (walk f (k + 1) m) e)
  from_each (suc m) k e (suc j) h =
      let z : k + 1 + j ≡ k + suc j = omega arith in
      rw z at (from_each m (k + 1) (both_second (f k) (walk f (k + 1) m) e) j (omega arith))

  pub walk_each : (m : ℕ) → walk f 0 m ≡ true → (j : ℕ) → j < m → f j ≡ true
  walk_each m e j h = let z : 0 + j ≡ j = omega arith in rw z at (from_each m 0 e j h)

-- so does a test of each number below n, the last first
below_each : (f : ℕ → Bool) (n : ℕ) → below f n ≡ true → (j : ℕ) → j < n → f j ≡ true
below_each f zero e j h = absurd (omega arith)
below_each f (suc n) e j h = by_lt j n (below_each f n (both_second (f n) (below f n) e) j) (λ l. let z : j ≡ n = omega arith in rw z (both_first (f n) (below f n) e))

each_below : (f : ℕ → Bool) (n : ℕ) → ((j : ℕ) → j < n → f j ≡ true) → below f n ≡ true
each_below f zero h = refl
each_below f (suc n) h = rw (h n (omega arith)) (each_below f n (λ j o. h j (omega arith)))

pub below_walk : (f : ℕ → Bool) (n : ℕ) → walk f 0 n ≡ below f n
below_walk f n = one_test _ _ (λ e. each_below f n (walk_each f n e)) (λ e. each_walk f 0 n (λ j o l. below_each f n e j (omega arith)))

-- a walk is what `all` finds of a range
pub walk_all : (f : ℕ → Bool) (k m : ℕ) → list_all f (range_with_len k m) ≡ walk f k m
walk_all f k zero = refl
walk_all f k (suc m) = go (f k) (walk_all f (k + 1) m)
  where
    go : (t : Bool) {x y : Bool} → x ≡ y → (t && x) ≡ both t y
    go true e = e
    go false e = refl
