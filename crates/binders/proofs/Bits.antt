-- The bits of a word, the word of a pair, and what a bit that is set in a row of words marks.
-- Assumes nothing.
use Prim.Native.Nat.{ℕ, zero, suc, ◌+◌, ◌*◌, ◌/◌, ◌%◌, ◌^◌, ◌≤◌, ◌<◌}
use mathlib.Core.Bool.{Bool, true, false}
use mathlib.Core.List.{List}
use mathlib.Core.Logic.{◌⊎◌, inl, inr}
use mathlib.Core.Path.{◌≡◌, refl, sym, ap, ◌∙◌}
use native.Mathlib.Nat.{pow-succ', two-pow-succ, div-div-eq-div-mul}
use native.Mathlib.Omega.{arith}
use borrow.Author.Tests.{eqb-true, eqb-false, leb-false, le-leb, lt-leb}
use lib.Dec.{eqb, leb}
use lib.ListN.{length, get_or, set, replicate, length-set, get_or-eq_default}
use lib.Pow.{shl_exact}
use lib.Seq.{get_or-set_same, get_or-set_other}
use Rattle.laws.specs.Table.{pick}
use Rattle.pattern.proofs.Memos.{filled_at}
use Rattle.binders.specs.Memos.{bit_of, width_of, word_of, marked, Marks}

-- a one is moved to place j
pub one_moved : (j : ℕ) → j < 32 → (1 * 2 ^ j) % 4294967296 ≡ 2 ^ j
one_moved j h = shl_exact {a = 1} 1 j 32 (omega arith) (omega arith) ∙ omega arith

-- bit j + 1 of a number is bit j of its half
bit_half : (v j : ℕ) → bit_of v (suc j) ≡ bit_of (v / 2) j
unfolding bit_of
bit_half v j = ap (λ (x : ℕ). eqb (x % 2) 1) (ap (λ (x : ℕ). v / x) (pow-succ' 2 j) ∙ sym (div-div-eq-div-mul v 2 (2 ^ j)))

-- zero has no bit set
bit_zero : (j : ℕ) → bit_of 0 j ≡ false
unfolding bit_of
bit_zero zero = refl
bit_zero (suc j) = bit_half 0 j ∙ bit_zero j

-- what holds of both widths holds of the width in any memo
by_width : (P : ℕ → Type 0) (n : ℕ) → P 16 → P 128 → P (width_of n)
unfolding width_of
by_width P n few many = go (leb n 8192)
  where
    go : (t : Bool) → P (pick t 16 128)
    go true = few
    go false = many

-- the width in a small memo, and in a large
pub width_few : (n : ℕ) → n ≤ 8192 → 16 ≡ width_of n
unfolding width_of
width_few n h = rw (le-leb n 8192 h)

pub width_many : (n : ℕ) → 8192 < n → 128 ≡ width_of n
unfolding width_of
width_many n h = rw (lt-leb n 8192 h)

-- it is so small that no word's place wraps
pub width_most : {w : ℕ} (n : ℕ) → w ≡ width_of n → w ≤ 128
width_most n e = rw e (by_width (λ w. w ≤ 128) n (omega arith) (omega arith))

pub width_fits : {w p : ℕ} (n : ℕ) → w ≡ width_of n → p < 65536 → p * w ≤ 8388480
width_fits {p = p} n e h = rw e (by_width (λ w. p * w ≤ 8388480) n (omega arith) (omega arith))

-- the word of a pair: there is none, or one
module _ {w : ℕ} (n p t : ℕ) (e : w ≡ width_of n) where
  pub word_none : 32 * w ≤ t → n ≡ word_of n p t
  unfolding word_of
  word_none h = rw (← e, le-leb (32 * w) t h)

  pub word_some : t < 32 * w → p * w + t / 32 ≡ word_of n p t
  unfolding word_of
  word_some h = rw (← e, lt-leb (32 * w) t h)

-- pairs of one word are of one pattern, and their types are side by side
word_same : (n p t q s : ℕ) → word_of n p t < n → word_of n q s ≡ word_of n p t → (q ≡ p) × (s / 32 ≡ t / 32)
unfolding word_of
word_same n p t q s = go (leb (32 * width_of n) t) refl (leb (32 * width_of n) s) refl
  where
    go : (u : Bool) → leb (32 * width_of n) t ≡ u → (v : Bool) → leb (32 * width_of n) s ≡ v → pick u n (p * width_of n + t / 32) < n → pick v n (q * width_of n + s / 32) ≡ pick u n (p * width_of n + t / 32) → (q ≡ p) × (s / 32 ≡ t / 32)
    go true x v y h e = absurd (omega arith)
    go false x true y h e = absurd (omega arith)
    go false x false y h e = by_width (λ w. t < 32 * w → s < 32 * w → q * w + s / 32 ≡ p * w + t / 32 → (q ≡ p) × (s / 32 ≡ t / 32)) n
        (λ f g z. (omega arith, omega arith))
        (λ f g z. (omega arith, omega arith))
        (leb-false (32 * width_of n) t x) (leb-false (32 * width_of n) s y) e

-- in a row of zeros no pair is marked
pub marked_none : (n : ℕ) {memo : List ℕ} (p t : ℕ) → memo ≡ replicate n 0 → marked memo p t ≡ false
unfolding marked
marked_none n {memo} p t e = rw (filled_at 0 n e (word_of (length memo) p t)) (bit_zero (t % 32))

-- nor beyond the memo; and where it has a word, its bit tells
module _ (memo : List ℕ) (p t : ℕ) {u : ℕ} (e : u ≡ word_of (length memo) p t) where
  pub marked_beyond : length memo ≤ u → false ≡ marked memo p t
  unfolding marked
  marked_beyond h = sym (rw (← e, get_or-eq_default memo 0 h) (bit_zero (t % 32)))

  pub marked_bit : eqb (get_or memo u 0 / 2 ^ (t % 32) % 2) 1 ≡ marked memo p t
  unfolding bit_of marked
  marked_bit = rw e

-- a number whose lowest bit is not set is even
bit_even : (v : ℕ) → bit_of v zero ≡ false → v % 2 ≡ 0
unfolding bit_of
bit_even v e = let u = eqb-false (v / 2 ^ 0 % 2) 1 e in omega arith

-- a bit that is not set fits in a word of n bits
bit_fits : (n v j : ℕ) → v < 2 ^ n → j < n → bit_of v j ≡ false → v + 2 ^ j < 2 ^ n
bit_fits zero v j h g e = absurd (omega arith)
bit_fits (suc n) v zero h g e = omega (arith, two-pow-succ n, bit_even v e)
bit_fits (suc n) v (suc j) h g e = omega (arith, two-pow-succ n, two-pow-succ j, bit_fits n (v / 2) j (omega (arith, two-pow-succ n)) (omega arith) (sym (bit_half v j) ∙ e))

-- and no other changes with it
bit_same : (v j k : ℕ) → bit_of v j ≡ false → (k ≡ j → ⊥) → bit_of (v + 2 ^ j) k ≡ bit_of v k
unfolding bit_of
bit_same v zero zero e n = absurd (n refl)
bit_same v zero (suc k) e n =
    let h : (v + 1) / 2 ≡ v / 2 = omega (arith, bit_even v e) in
    bit_half (v + 1) k ∙ ap (λ x. bit_of x k) h ∙ sym (bit_half v k)
bit_same v (suc j) zero e n =
    let h : (v + 2 ^ suc j) / 1 % 2 ≡ v / 1 % 2 = omega (arith, two-pow-succ j) in
    ap (λ (x : ℕ). eqb x 1) h
bit_same v (suc j) (suc k) e n =
    let h : (v + 2 ^ suc j) / 2 ≡ v / 2 + 2 ^ j = omega (arith, two-pow-succ j) in
    bit_half (v + 2 ^ suc j) k ∙ ap (λ x. bit_of x k) h ∙ bit_same (v / 2) j k (sym (bit_half v j) ∙ e) (λ q. n (ap suc q)) ∙ sym (bit_half v k)

-- a pair that is not marked newly
pub marks_old : {memo : List ℕ} {p t : ℕ} → Marks memo p t memo
marks_old = record { only = λ q s e. inl e }

-- a pair that is not marked, in a row of words that has one for it
module _ (memo : List ℕ) (p t : ℕ) {place w : ℕ} (here : place ≡ word_of (length memo) p t) (inside : place < length memo) (words : (j : ℕ) → get_or memo j 0 < 2 ^ 32) (left : marked memo p t ≡ false) (is : w ≡ 2 ^ (t % 32)) where
  -- what stands in its word, and what is to stand there
  abbrev word : ℕ
  word = get_or memo place 0

  abbrev more : ℕ
  more = word + w

  -- its bit is not set
  left_bit : bit_of word (t % 32) ≡ false
  unfolding marked
  left_bit = rw here left

  -- its bit fits in the word
  pub mark_fits : more < 2 ^ 32
  mark_fits = rw is (bit_fits 32 word (t % 32) (words place) (omega arith) left_bit)

  -- another pair in the word
  same_cell : (q s : ℕ) → word_of (length memo) q s ≡ place → marked memo q s ≡ bit_of word (s % 32)
  unfolding marked
  same_cell q s x = rw x

  -- another bit of the word is set only where it was
  bit_case : (q s : ℕ) → word_of (length memo) q s ≡ place → bit_of more (s % 32) ≡ true → (v : Bool) → eqb (s % 32) (t % 32) ≡ v → (marked memo q s ≡ true) ⊎ ((q ≡ p) × (s ≡ t))
  bit_case q s x e true z =
      let u = eqb-true (s % 32) (t % 32) z in
      let same = word_same (length memo) p t q s (rw here at inside) (x ∙ here) in
      inr (same.0, omega (arith, same.1))
  bit_case q s x e false z =
      let f : bit_of (word + 2 ^ (t % 32)) (s % 32) ≡ true = rw is at e in
      inl (same_cell q s x ∙ sym (bit_same word (t % 32) (s % 32) left_bit (eqb-false _ _ z)) ∙ f)

  -- and another word is as it was
  cell_case : (q s : ℕ) → marked (set memo place more) q s ≡ true → (v : Bool) → eqb (word_of (length memo) q s) place ≡ v → (marked memo q s ≡ true) ⊎ ((q ≡ p) × (s ≡ t))
  unfolding marked
  cell_case q s e true z =
      let u = eqb-true (word_of (length memo) q s) place z in
      bit_case q s u (rw (length-set memo place more, u, get_or-set_same memo place more 0 inside) at e) (eqb (s % 32) (t % 32)) refl
  cell_case q s e false z = inl (rw (length-set memo place more, get_or-set_other memo place (word_of (length memo) q s) more 0 (eqb-false _ _ z)) at e)

  -- so it marks no other pair
  pub marks_new : Marks memo p t (set memo place more)
  marks_new = record { only = λ q s e. cell_case q s e (eqb (word_of (length memo) q s) place) refl }
