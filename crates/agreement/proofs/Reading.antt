-- Cells read back as values, as a relation: later cells keep it, and a jet makes of a cell what it makes of the value.
-- Assumes nothing.
use Prim.Native.Nat.{ℕ, zero, suc, ◌+◌, ◌*◌, ◌/◌, ◌%◌, ◌^◌, ◌<◌}
use mathlib.Core.List.{List}
use mathlib.Core.Path.{◌≡◌, refl, ◌∙◌}
use native.Mathlib.Omega.{arith}
use lib.ListN.{length, get_or, set, length-set}
use lib.Seq.{get_or-set_same, get_or-set_other}
use Rattle.simplicity.specs.Values.{Value, unit, left, right, pair, shape, is_unit, is_left, is_right, is_pair, if_unit}
use Rattle.simplicity.specs.Outcomes.{Outcome, stuck}
use Rattle.simplicity.specs.Jets.{on_word, on_words, verify, eq8, add8, jet_on}
use Rattle.named.specs.Cut.{room}
use Rattle.cells.specs.Entries.{kind_at, left_at, right_at, put}
use Rattle.cells.specs.Cells.{unit_cell, left_cell, right_cell, pair_cell, shape_at}
use Rattle.agreement.specs.Unfold.{value_to, value_at}

-- cell x reads back as a value, its parts being below it
pub data Back (t : List ℕ) : ℕ → Value → Type 0 where
  b_unit : {x : ℕ} → shape_at t x ≡ is_unit → Back t x unit
  b_left : {x a : ℕ} {v : Value} → shape_at t x ≡ is_left a → a < x → Back t a v → Back t x (left v)
  b_right : {x a : ℕ} {v : Value} → shape_at t x ≡ is_right a → a < x → Back t a v → Back t x (right v)
  b_pair : {x a b : ℕ} {v w : Value} → shape_at t x ≡ is_pair a b → a < x → b < x → Back t a v → Back t b w → Back t x (pair v w)

value_to_lem : (t : List ℕ) (k : ℕ) {x : ℕ} {v : Value} → x < k → Back t x v → value_to k t x ≡ v
unfolding value_to
value_to_lem t zero l r = absurd (omega arith)
value_to_lem t (suc k) l (b_unit e) = rw e
value_to_lem t (suc k) l (b_left e h r) = rw (e, value_to_lem t k (omega arith) r)
value_to_lem t (suc k) l (b_right e h r) = rw (e, value_to_lem t k (omega arith) r)
value_to_lem t (suc k) l (b_pair e h i r s) = rw (e, value_to_lem t k (omega arith) r, value_to_lem t k (omega arith) s)

-- the relation is the function
pub value_back : (t : List ℕ) {x : ℕ} {v : Value} → Back t x v → value_at t x ≡ v
unfolding value_at
value_back t {x} r = value_to_lem t (suc x) (omega arith) r

-- the table as the five bytes of a cell go in
module _ (t : List ℕ) (u k a b : ℕ) where
  abbrev p1 : List ℕ
  p1 = set t (5 * u) k

  abbrev p2 : List ℕ
  p2 = set p1 (5 * u + 1) (a % 256)

  abbrev p3 : List ℕ
  p3 = set p2 (5 * u + 2) (a / 256)

  abbrev p4 : List ℕ
  p4 = set p3 (5 * u + 3) (b % 256)

  -- a byte below it stays
  byte_below : (i : ℕ) → i < 5 * u → get_or (put t u k a b) i 0 ≡ get_or t i 0
  unfolding put
  byte_below i h =
      get_or-set_other p4 (5 * u + 4) i (b / 256) 0 (omega arith)
      ∙ get_or-set_other p3 (5 * u + 3) i (b % 256) 0 (omega arith)
      ∙ get_or-set_other p2 (5 * u + 2) i (a / 256) 0 (omega arith)
      ∙ get_or-set_other p1 (5 * u + 1) i (a % 256) 0 (omega arith)
      ∙ get_or-set_other t (5 * u) i k 0 (omega arith)

  -- so does the shape of a cell below it
  shape_below : (x : ℕ) → x < u → shape_at (put t u k a b) x ≡ shape_at t x
  unfolding shape_at kind_at left_at right_at
  shape_below x l =
      rw (byte_below (5 * x) (omega arith), byte_below (5 * x + 1) (omega arith), byte_below (5 * x + 2) (omega arith), byte_below (5 * x + 3) (omega arith), byte_below (5 * x + 4) (omega arith))

  -- and what is read back
  pub back_put : {x : ℕ} {v : Value} → x < u → Back t x v → Back (put t u k a b) x v
  back_put {x} l (b_unit e) = b_unit (shape_below x l ∙ e)
  back_put {x} l (b_left e h r) = b_left (shape_below x l ∙ e) h (back_put (omega arith) r)
  back_put {x} l (b_right e h r) = b_right (shape_below x l ∙ e) h (back_put (omega arith) r)
  back_put {x} l (b_pair e h i r s) = b_pair (shape_below x l ∙ e) h i (back_put (omega arith) r) (back_put (omega arith) s)

  -- the cell that is stored, where it fits
  module _ (fit : u < room (length t)) where
    kind_here : kind_at (put t u k a b) u ≡ k
    unfolding put kind_at room
    kind_here =
        get_or-set_other p4 (5 * u + 4) (5 * u) (b / 256) 0 (omega arith)
        ∙ get_or-set_other p3 (5 * u + 3) (5 * u) (b % 256) 0 (omega arith)
        ∙ get_or-set_other p2 (5 * u + 2) (5 * u) (a / 256) 0 (omega arith)
        ∙ get_or-set_other p1 (5 * u + 1) (5 * u) (a % 256) 0 (omega arith)
        ∙ get_or-set_same t (5 * u) k 0 (omega arith)

    byte1 : get_or (put t u k a b) (5 * u + 1) 0 ≡ a % 256
    unfolding put room
    byte1 =
        get_or-set_other p4 (5 * u + 4) (5 * u + 1) (b / 256) 0 (omega arith)
        ∙ get_or-set_other p3 (5 * u + 3) (5 * u + 1) (b % 256) 0 (omega arith)
        ∙ get_or-set_other p2 (5 * u + 2) (5 * u + 1) (a / 256) 0 (omega arith)
        ∙ get_or-set_same p1 (5 * u + 1) (a % 256) 0 (simp length-set (omega arith))

    byte2 : get_or (put t u k a b) (5 * u + 2) 0 ≡ a / 256
    unfolding put room
    byte2 =
        get_or-set_other p4 (5 * u + 4) (5 * u + 2) (b / 256) 0 (omega arith)
        ∙ get_or-set_other p3 (5 * u + 3) (5 * u + 2) (b % 256) 0 (omega arith)
        ∙ get_or-set_same p2 (5 * u + 2) (a / 256) 0 (simp length-set (omega arith))

    byte3 : get_or (put t u k a b) (5 * u + 3) 0 ≡ b % 256
    unfolding put room
    byte3 =
        get_or-set_other p4 (5 * u + 4) (5 * u + 3) (b / 256) 0 (omega arith)
        ∙ get_or-set_same p3 (5 * u + 3) (b % 256) 0 (simp length-set (omega arith))

    byte4 : get_or (put t u k a b) (5 * u + 4) 0 ≡ b / 256
    unfolding put room
    byte4 = get_or-set_same p4 (5 * u + 4) (b / 256) 0 (simp length-set (omega arith))

    left_here : left_at (put t u k a b) u ≡ a
    unfolding left_at
    left_here = rw (byte1, byte2) (omega arith)

    right_here : right_at (put t u k a b) u ≡ b
    unfolding right_at
    right_here = rw (byte3, byte4) (omega arith)

-- a stored cell of each kind reads back
module _ (t : List ℕ) (u : ℕ) (fit : u < room (length t)) where
  pub back_unit : Back (put t u unit_cell 0 0) u unit
  unfolding shape_at
  back_unit = b_unit {x = u} (rw (kind_here t u unit_cell 0 0 fit))

  module _ {a : ℕ} {v : Value} (l : a < u) (r : Back t a v) where
    pub back_left : Back (put t u left_cell a 0) u (left v)
    unfolding shape_at
    back_left = b_left {x = u} {a = a} (rw (kind_here t u left_cell a 0 fit, left_here t u left_cell a 0 fit)) l (back_put t u left_cell a 0 l r)

    pub back_right : Back (put t u right_cell a 0) u (right v)
    unfolding shape_at
    back_right = b_right {x = u} {a = a} (rw (kind_here t u right_cell a 0 fit, left_here t u right_cell a 0 fit)) l (back_put t u right_cell a 0 l r)

    pub back_pair : {b : ℕ} {w : Value} → b < u → Back t b w → Back (put t u pair_cell a b) u (pair v w)
    unfolding shape_at
    back_pair {b} m s =
        b_pair {x = u} {a = a} {b = b} (rw (kind_here t u pair_cell a b fit, left_here t u pair_cell a b fit, right_here t u pair_cell a b fit)) l m
        (back_put t u pair_cell a b l r) (back_put t u pair_cell a b m s)

-- what is made of a cell's shape is made of the value's
module _ {t : List ℕ} where
  on_unit : {x : ℕ} {v : Value} → Back t x v → (o p : Outcome) → if_unit (shape_at t x) o p ≡ if_unit (shape v) o p
  on_unit (b_unit e) o p = rw e
  on_unit (b_left e h r) o p = rw e
  on_unit (b_right e h r) o p = rw e
  on_unit (b_pair e h i r s) o p = rw e

  -- a word
  on_word_lem : (k : ℕ) {x : ℕ} {v : Value} → Back t x v → (f g : ℕ → Outcome) → ((n : ℕ) → f n ≡ g n) → on_word (shape_at t) k x f ≡ on_word shape k v g
  unfolding on_word
  on_word_lem zero (b_unit e) f g q = rw e
  on_word_lem zero (b_left e h r) f g q = rw (e, q 0) (on_unit r (g 0) stuck)
  on_word_lem zero (b_right e h r) f g q = rw (e, q 1) (on_unit r (g 1) stuck)
  on_word_lem zero (b_pair e h i r s) f g q = rw e
  on_word_lem (suc k) (b_unit e) f g q = rw e
  on_word_lem (suc k) (b_left e h r) f g q = rw e
  on_word_lem (suc k) (b_right e h r) f g q = rw e
  on_word_lem (suc k) (b_pair e h i r s) f g q = rw e (on_word_lem k r _ _ (λ m. on_word_lem k s _ _ (λ n. q (m * 2 ^ (2 ^ k) + n))))

  -- a pair of words
  on_words_lem : (k : ℕ) {x : ℕ} {v : Value} → Back t x v → (f : ℕ → ℕ → Outcome) → on_words (shape_at t) k x f ≡ on_words shape k v f
  unfolding on_words
  on_words_lem k (b_unit e) f = rw e
  on_words_lem k (b_left e h r) f = rw e
  on_words_lem k (b_right e h r) f = rw e
  on_words_lem k (b_pair e h i r s) f = rw e (on_word_lem k r _ _ (λ m. on_word_lem k s _ _ (λ n. refl)))

  -- a jet
  pub on_jet : (j : ℕ) {x : ℕ} {v : Value} → Back t x v → jet_on (shape_at t) j x ≡ jet_on shape j v
  unfolding jet_on
  on_jet j r = rw (on_word_lem 0 r verify verify (λ n. refl), on_words_lem 3 r eq8, on_words_lem 3 r add8)
