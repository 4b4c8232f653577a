-- Types alike: with letters and fields the same two types are of one length, so to be alike is symmetric; no two types of a book that READ accepts are alike.
-- Assumes nothing.
use Prim.Native.Nat.{ℕ, zero, suc, ◌+◌, ◌<◌}
use mathlib.Core.Bool.{Bool, true, false}
use mathlib.Core.Path.{◌≡◌, refl, sym, ◌∙◌}
use mathlib.Core.List.{List}
use mathlib.Core.Logic.{⊎_elim}
use native.Mathlib.Omega.{arith}
use native.Mathlib.Nat.{eq-or-lt_of_le}
use native.Mathlib.Decide.{dec_lt, ℕ_discrete}
use lib.ListN.{get_or}
use lib.Dec.{eqb}
use borrow.Author.Tests.{eqb-true, eqb-false, eq-eqb, ne_eqb}
use Rattle.laws.specs.Table.{below, some, true_false}
use Rattle.book.specs.Format.{word_at, kind_of, TYPE, TU}
use Rattle.book.specs.Read.{mark_at, kind_at, total_at, field_at, alike, repeats}
use Rattle.book.specs.Index.{kind}
use Rattle.book.proofs.Alikes.{no_fields, two_fields}
use Rattle.book.proofs.Picks.{second, both_true}
use Rattle.book.proofs.Extends.{Extends}

-- tests of equality turned about
eqb_swap : (x y : ℕ) → eqb x y ≡ eqb y x
eqb_swap x y = go _ refl
  where
    go : (t : Bool) → eqb x y ≡ t → eqb x y ≡ eqb y x
    go true e = e ∙ sym (eq-eqb y x (sym (eqb-true x y e)))
    go false e = e ∙ sym (ne_eqb y x (λ z. eqb-false x y e (sym z)))

below_swap : (f g : ℕ → ℕ) (n : ℕ) → below (λ k. eqb (f k) (g k)) n ≡ below (λ k. eqb (g k) (f k)) n
below_swap f g zero = refl
below_swap f g (suc n) = rw (eqb_swap (f n) (g n), below_swap f g n)

-- alike records have the same letters
pub letters_same : (b : List ℕ) (p q : ℕ) → alike b p q ≡ true → word_at b p ≡ word_at b q
unfolding alike
letters_same b p q a = eqb-true _ _ (both_true _ _ a).0

module _ (b : List ℕ) (p q : ℕ) (e : word_at b p ≡ word_at b q) where
  -- the same letters are the same mark
  pub marks_same : mark_at b p ≡ mark_at b q
  unfolding mark_at
  marks_same = rw e

  -- and the same kind
  pub kinds_same : kind_at b p ≡ kind_at b q
  unfolding kind_at
  kinds_same = rw marks_same

  -- a type with the same letters has as many fields
  totals_same : kind_at b p ≡ TYPE → total_at b p ≡ total_at b q
  unfolding kind_at
  totals_same h = go (ℕ_discrete (mark_at b q) TU)
    where
      k : kind_of (mark_at b q) ≡ TYPE
      k = rw marks_same at h

      go : Dec (mark_at b q ≡ TU) → total_at b p ≡ total_at b q
      go (yes u) = no_fields b p _ (sym marks_same) u ∙ sym (no_fields b q _ refl u)
      go (no u) = two_fields b p _ (sym marks_same) k u ∙ sym (two_fields b q _ refl k u)

  -- so to be alike is symmetric
  alike_swap : kind_at b p ≡ TYPE → alike b p q ≡ alike b q p
  unfolding alike
  alike_swap h = rw (totals_same h, eqb_swap (word_at b p) (word_at b q), below_swap (λ k. field_at b p k) (λ k. field_at b q k) (total_at b q))

-- no type among the first n records is alike an earlier one
abbrev pub Unlike : List ℕ → List ℕ → ℕ → Type 0
Unlike b i n = (r s : ℕ) → s < r → r < n → kind b i r ≡ TYPE → alike b (get_or i r 0) (get_or i s 0) ≡ false

-- no test below n holds, both ways
pub none_some : (f : ℕ → Bool) (n : ℕ) → some f n ≡ false → (j : ℕ) → j < n → f j ≡ false
none_some f zero e j h = absurd (omega arith)
none_some f (suc n) e j h =
    let w = second _ _ _ _ true_false e in
    ⊎_elim (λ (z : j ≡ n). rw z w.0) (λ l. none_some f n w.1 j l) (eq-or-lt_of_le (omega arith))

pub some_false : (f : ℕ → Bool) (n : ℕ) → ((j : ℕ) → j < n → f j ≡ false) → some f n ≡ false
some_false f zero h = refl
some_false f (suc n) h = rw (h n (omega arith)) (some_false f n (λ j l. h j (omega arith)))

-- a new type is alike none of the first n records
new_unlike : (b i : List ℕ) (n p : ℕ) → repeats b i n p ≡ false → kind_at b p ≡ TYPE → (s : ℕ) → s < n → alike b p (get_or i s 0) ≡ false
unfolding repeats
new_unlike b i n p f e = none_some (λ j. alike b p (get_or i j 0)) n (rw e at f)

-- one more record
pub unlike_next : (b i j : List ℕ) (n p : ℕ) → Extends i j n p → repeats b i n p ≡ false → Unlike b i n → Unlike b j (n + 1)
unlike_next b i j n p x f u r s l h = ⊎_elim
    (λ (z : r ≡ n). rw (z, x.new, x.before s (omega arith)) (λ e. new_unlike b i n p f e s (omega arith)))
    (λ h. rw (x.before r h, x.before s (omega arith)) (u r s l h))
    (eq-or-lt_of_le (omega arith))

-- no two types are alike
pub unlike_all : (b i : List ℕ) (n : ℕ) → Unlike b i n → (r s : ℕ) → r < n → s < n → kind b i r ≡ TYPE → alike b (get_or i r 0) (get_or i s 0) ≡ true → r ≡ s
unlike_all b i n u r s h l e a = go (ℕ_discrete r s) (dec_lt s r)
  where
    w : word_at b (get_or i r 0) ≡ word_at b (get_or i s 0)
    w = letters_same b (get_or i r 0) (get_or i s 0) a

    go : Dec (r ≡ s) → Dec (s < r) → r ≡ s
    go (yes z) q = z
    go (no z) (yes q) = absurd (true_false (sym a ∙ u r s q h e))
    go (no z) (no q) = absurd (true_false (sym a ∙ alike_swap b _ _ w e ∙ u s r (omega arith) l (sym (kinds_same b _ _ w) ∙ e)))
