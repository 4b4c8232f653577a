-- Laws of words: how they are read from cells and stored as cells.
-- Assumes nothing.
use Rattle.std.proofs.Common.{◌≡◌, ℕ, suc, ◌+◌, ◌-◌, ◌*◌, ◌/◌, ◌%◌, ◌^◌, ◌<◌, ◌≤◌, eqb, ltb, leb, List, sym, refl, ap, ◌∙◌, mul-le-mul_right, arith, eqb→eq, ltb→lt, leb→le, pow-add, Option, Some, None}
use native.Mathlib.Nat.{two-pow-succ}
use lib.Count.{count_leading_zeros}
use Rattle.laws.specs.Table.{all_below}
use Rattle.simplicity.specs.Values.{bit, word, Shape, is_nothing, is_unit, is_left, is_right, is_pair, if_unit}
use Rattle.simplicity.specs.Outcomes.{Outcome, stuck}
use Rattle.simplicity.specs.Jets.{on_word, on_words}
use Rattle.jet.specs.Jets.{jet_of}
use Rattle.cells.specs.Entries.{kind_at, left_at, right_at}
use Rattle.cells.specs.Cells.{unit_cell, left_cell, right_cell, pair_cell, shape_at, store, store_value}
use Rattle.cells.specs.Keeping.{Keeps, Under, Worded, Paired, of_word, unit_word, size_of}
use Rattle.cells.specs.declared.table.Kept.{Kept}
use Rattle.cells.proofs.Keepings.{keep_pair}
use Rattle.cells.proofs.Shapes.{unit_shape, left_shape, right_shape, pair_shape, no_unit, no_sum, no_pair}

-- what the table of jets says of the jets 0 to 2
pub some_arguments : (j : ℕ) → j < 3 → 0 < (jet_of j).arguments
some_arguments j h = ltb→lt 0 (jet_of j).arguments (all_below (λ i. ltb 0 (jet_of i).arguments) 3 tt j h)

pub few_zeros : (j : ℕ) → j < 3 → count_leading_zeros 16 ((jet_of j).input / (jet_of j).arguments) ≤ 15
unfolding count_leading_zeros
few_zeros j h = leb→le (count_leading_zeros 16 ((jet_of j).input / (jet_of j).arguments)) 15 (all_below (λ i. leb (count_leading_zeros 16 ((jet_of i).input / (jet_of i).arguments)) 15) 3 tt j h)

pub sizes : (j : ℕ) → j < 3 → 15 - count_leading_zeros 16 ((jet_of j).input / (jet_of j).arguments) ≡ size_of j
unfolding count_leading_zeros
sizes j h =
    eqb→eq (15 - count_leading_zeros 16 ((jet_of j).input / (jet_of j).arguments)) (size_of j)
    (all_below (λ i. eqb (15 - count_leading_zeros 16 ((jet_of i).input / (jet_of i).arguments)) (size_of i)) 3 tt j h)

-- a side that holds the unit is a bit
of_unit : (s : Shape ℕ) (n : ℕ) (f : ℕ → Outcome) → if_unit s (f n) stuck ≡ of_word (if_unit s (Some n) None) f
of_unit is_nothing n f = refl
of_unit is_unit n f = refl
of_unit (is_left a) n f = refl
of_unit (is_right a) n f = refl
of_unit (is_pair a b) n f = refl

under_unit : (s : Shape ℕ) (n : ℕ) → n < 2 → Under 2 (if_unit s (Some n) None)
under_unit is_nothing n h = tt
under_unit is_unit n h = h
under_unit (is_left a) n h = tt
under_unit (is_right a) n h = tt
under_unit (is_pair a b) n h = tt

-- a side that holds cell u, whose kind is k
module _ (t : List ℕ) {u v k : ℕ} (is : v ≡ u) (kind : k ≡ kind_at t v) (n : ℕ) where
  pub side_unit : k ≡ unit_cell → Some n ≡ unit_word t u n
  side_unit e = rw (unit_shape t u (ap (kind_at t) (sym is) ∙ sym kind ∙ e))

  pub side_other : (k ≡ unit_cell → ⊥) → None ≡ unit_word t u n
  side_other h = sym (no_unit t u None (Some n) (λ e. h (kind ∙ ap (kind_at t) is ∙ e)))

-- the bit at cell x, whose kind is k
module _ {t : List ℕ} {x k : ℕ} (kind : k ≡ kind_at t x) where
  pub bit_left : {r : Option ℕ} → k ≡ left_cell → r ≡ unit_word t (left_at t x) 0 → Worded t 0 x r
  unfolding on_word
  bit_left e q = rw q (record {
    same = λ f. rw (left_shape t x (sym kind ∙ e)) (of_unit (shape_at t (left_at t x)) 0 f);
    under = under_unit (shape_at t (left_at t x)) 0 (omega arith);
  })

  pub bit_right : {r : Option ℕ} → k ≡ right_cell → r ≡ unit_word t (left_at t x) 1 → Worded t 0 x r
  unfolding on_word
  bit_right e q = rw q (record {
    same = λ f. rw (right_shape t x (sym kind ∙ e)) (of_unit (shape_at t (left_at t x)) 1 f);
    under = under_unit (shape_at t (left_at t x)) 1 (omega arith);
  })

  pub bit_none : (k ≡ left_cell → ⊥) → (k ≡ right_cell → ⊥) → Worded t 0 x None
  unfolding on_word
  bit_none h g = record { same = λ f. no_sum t x stuck _ _ (λ e. h (kind ∙ e)) (λ e. g (kind ∙ e)); under = tt }

-- two words of 2 ^ k bits: their numbers fit in a word of twice the bits, and in a byte
module _ (k : ℕ) where
  twice : 2 ^ (2 ^ suc k) ≡ 2 ^ (2 ^ k) * 2 ^ (2 ^ k)
  twice = rw (two-pow-succ k, pow-add 2 (2 ^ k) (2 ^ k)) refl

  -- how many numbers they have, s being how many each of them has
  pub twice_span : {s : ℕ} → s ≡ 2 ^ (2 ^ k) → s * s ≡ 2 ^ (2 ^ suc k)
  twice_span e = rw e (sym twice)

  module _ {m n s : ℕ} (high : m < 2 ^ (2 ^ k)) (low : n < 2 ^ (2 ^ k)) (e : s ≡ 2 ^ (2 ^ k)) where
    halves_less : m * s + n < 2 ^ (2 ^ suc k)
    halves_less =
        let z : suc m * 2 ^ (2 ^ k) ≤ 2 ^ (2 ^ k) * 2 ^ (2 ^ k) = mul-le-mul_right (2 ^ (2 ^ k)) high in
        rw (e, twice) (omega arith)

    pub halves_fit : suc k ≤ 3 → m * s + n < 256
    halves_fit h =
        let z : 2 ^ (2 ^ suc k) ≤ 256 = leb→le (2 ^ (2 ^ suc k)) 256 (all_below (λ i. leb (2 ^ (2 ^ suc i)) 256) 3 tt k h) in
        omega (arith, halves_less)

pub span_fits : (k : ℕ) {s : ℕ} → s ≡ 2 ^ (2 ^ k) → suc k < 3 → s * s < 256
span_fits k e h = rw (twice_span k e) (ltb→lt (2 ^ (2 ^ suc k)) 256 (all_below (λ i. ltb (2 ^ (2 ^ i)) 256) 3 tt (suc k) h))

pub some_numbers : (k : ℕ) {s : ℕ} → s ≡ 2 ^ (2 ^ k) → k < 3 → 0 < s
some_numbers k e h = rw e (ltb→lt 0 (2 ^ (2 ^ k)) (all_below (λ i. ltb 0 (2 ^ (2 ^ i))) 3 tt k h))

-- the word at cell x, whose kind is k: a pair of words, or none, or a bit
module _ {t : List ℕ} {x k : ℕ} (kind : k ≡ kind_at t x) (j : ℕ) where
  pub word_none : (k ≡ pair_cell → ⊥) → Worded t (suc j) x None
  unfolding on_word
  word_none h = record { same = λ f. no_pair t x stuck _ (λ e. h (kind ∙ e)); under = tt }

  module _ {a : ℕ} {h : Option ℕ} (e : k ≡ pair_cell) (u : a ≡ left_at t x) (d : Worded t j a h) where
    pub word_left : h ≡ None → Worded t (suc j) x None
    unfolding on_word
    word_left p = record { same = λ f. rw (pair_shape t x (sym kind ∙ e), ← u, d.same _, p); under = tt }

    module _ {b m : ℕ} {l : Option ℕ} (v : b ≡ right_at t x) (g : Worded t j b l) (p : h ≡ Some m) where
      pub word_right : l ≡ None → Worded t (suc j) x None
      unfolding on_word
      word_right q = record { same = λ f. rw (pair_shape t x (sym kind ∙ e), ← u, ← v, d.same _, p, g.same _, q); under = tt }

      pub word_both : {n s : ℕ} → l ≡ Some n → s ≡ 2 ^ (2 ^ j) → Worded t (suc j) x (Some (m * s + n))
      unfolding on_word
      word_both {n} q z = record {
        same = λ f. rw (pair_shape t x (sym kind ∙ e), ← u, ← v, d.same _, p, g.same _, q, z);
        under = halves_less j (rw p at d.under) (rw q at g.under) z;
      }

-- a word of some width, which is j
pub word_wide : {t : List ℕ} {x j i : ℕ} {r : Option ℕ} → j ≡ i → Worded t i x r → Worded t j x r
word_wide e d = rw e d

-- the cells of a word: a bit's, or those of its halves and then the pair's
module _ {t t₁ : List ℕ} {p q : Kept} (v : ℕ) where
  pub keep_bits : Keeps t p (λ n. store_value n (bit (eqb (v % 2) 1))) q t₁ → Keeps t p (λ n. store_value n (word 0 v)) q t₁
  unfolding word
  keep_bits d = d

  pub keep_halves : {t₂ t₃ : List ℕ} {r s : Kept} {m : ℕ} (k : ℕ) → m ≡ 2 ^ (2 ^ k) → Keeps t p (λ n. store_value n (word k (v / m))) q t₁ → Keeps t₁ q (λ n. store_value n (word k (v % m))) r t₂ → Keeps t₂ r (λ n. store n pair_cell q.cell r.cell) s t₃ → Keeps t p (λ n. store_value n (word (suc k) v)) s t₃
  unfolding word
  keep_halves k e d f g = keep_pair (word k (v / 2 ^ (2 ^ k))) (word k (v % 2 ^ (2 ^ k))) (rw e at d) (rw e at f) g

  pub keep_wide : {k : ℕ} (i : ℕ) → k ≡ i → Keeps t p (λ n. store_value n (word i v)) q t₁ → Keeps t p (λ n. store_value n (word k v)) q t₁
  keep_wide i e d = rw e d

-- the two words in the pair at cell x, whose kind is k
module _ {t : List ℕ} {x k : ℕ} (j : ℕ) (kind : k ≡ kind_at t x) where
  pub words_other : (k ≡ pair_cell → ⊥) → Paired t j x None
  unfolding on_words
  words_other h = record { same = λ f. no_pair t x stuck _ (λ e. h (kind ∙ e)) }

  module _ {a : ℕ} {h : Option ℕ} (e : k ≡ pair_cell) (u : a ≡ left_at t x) (d : Worded t j a h) where
    pub words_left : h ≡ None → Paired t j x None
    unfolding on_words
    words_left p = record { same = λ f. rw (pair_shape t x (sym kind ∙ e), ← u, d.same _, p) }

    module _ {b m : ℕ} {l : Option ℕ} (v : b ≡ right_at t x) (g : Worded t j b l) (p : h ≡ Some m) where
      pub words_right : l ≡ None → Paired t j x None
      unfolding on_words
      words_right q = record { same = λ f. rw (pair_shape t x (sym kind ∙ e), ← u, ← v, d.same _, p, g.same _, q) }

      pub words_both : {n : ℕ} → l ≡ Some n → Paired t j x (Some (m, n))
      unfolding on_words
      words_both q = record { same = λ f. rw (pair_shape t x (sym kind ∙ e), ← u, ← v, d.same _, p, g.same _, q) }
