-- Laws of cells that are stored one after another: one cell, and the cells of a value.
-- Assumes nothing.
use Rattle.std.proofs.Common.{◌≡◌, ℕ, ◌+◌, ◌<◌, ◌≤◌, Bool, true, false, List, length, refl, ap, ◌∙◌, le-ltb, lt-ltb}
use Rattle.simplicity.specs.Values.{Value, unit, left, right, pair, bit}
use Rattle.named.specs.Cut.{room}
use Rattle.cells.specs.Entries.{put}
use Rattle.cells.specs.Cells.{World, Out, bind, left_cell, right_cell, pair_cell, unit_cell, store, store_value}
use Rattle.cells.specs.Keeping.{leads, Keeps}
use Rattle.cells.specs.declared.table.Kept.{Kept}
use Rattle.cells.proofs.Outs.{add_none, bind_bind}

-- the last cell is the value
leads_cell' : (b : Bool) (n : ℕ) (t hs : List ℕ) (q : Kept) (f : ℕ → World → Out) → q.full ≡ b → bind (leads n t hs q) (λ v. f q.cell) ≡ bind (leads n t hs q) f
unfolding leads bind
leads_cell' true n t hs q f e = rw e
leads_cell' false n t hs q f e = rw e

pub leads_cell : (n : ℕ) (t hs : List ℕ) (q : Kept) (f : ℕ → World → Out) → bind (leads n t hs q) (λ v. f q.cell) ≡ bind (leads n t hs q) f
leads_cell n t hs q f = leads_cell' q.full n t hs q f refl

-- one cell: nothing more is stored, or there is room for it, or there is none
module _ (t : List ℕ) (p : Kept) (k a b : ℕ) where
  pub keep_shut : p.full ≡ true → Keeps t p (λ n. store n k a b) p t
  unfolding leads bind
  keep_shut e = record { same = λ n hs. rw e }

  module _ {t' : List ℕ} (e : p.full ≡ false) where
    pub keep_fits : (p.used < room (length t)) × (t' ≡ put t p.used k a b) → Keeps t p (λ n. store n k a b) (record { cell = p.used; used = p.used + 1; full = false }) t'
    unfolding leads bind store
    keep_fits h = record { same = λ n hs. rw (e, lt-ltb p.used (room (length t)) h.0, h.1, add_none) }

    pub keep_none : (room (length t) ≤ p.used) × (t' ≡ t) → Keeps t p (λ n. store n k a b) (record { cell = p.cell; used = p.used; full = true }) t'
    unfolding leads bind store
    keep_none h = record { same = λ n hs. rw (e, le-ltb p.used (room (length t)) h.0, add_none) }

-- one thing after another, which is made of the first one's last cell
pub keep_then : (k : ℕ → ℕ → World → Out) {t t₁ t₂ : List ℕ} {p q r : Kept} {m : ℕ → World → Out} → Keeps t p m q t₁ → Keeps t₁ q (λ n. k n q.cell) r t₂ → Keeps t p (λ n w. bind (m n w) (k n)) r t₂
keep_then k {t} {t₁} {t₂} {p} {q} {r} {m} d g = record {
  same = λ n hs.
      g.same n hs
      ∙ leads_cell n t₁ hs q (k n)
      ∙ ap (λ (o : Out). bind o (k n)) (d.same n hs)
      ∙ bind_bind (leads n t hs p) (λ v. m n) (k n);
}

-- a value's cells: its parts', and then its own
pub keep_unit : {t t₁ : List ℕ} {p q : Kept} → Keeps t p (λ n. store n unit_cell 0 0) q t₁ → Keeps t p (λ n. store_value n unit) q t₁
unfolding store_value
keep_unit d = record { same = d.same }

module _ {t t₁ t₂ : List ℕ} {p q r : Kept} where
  pub keep_left : (v : Value) → Keeps t p (λ n. store_value n v) q t₁ → Keeps t₁ q (λ n. store n left_cell q.cell 0) r t₂ → Keeps t p (λ n. store_value n (left v)) r t₂
  unfolding store_value
  keep_left v d g = record { same = (keep_then (λ n a. store n left_cell a 0) d g).same }

  pub keep_right : (v : Value) → Keeps t p (λ n. store_value n v) q t₁ → Keeps t₁ q (λ n. store n right_cell q.cell 0) r t₂ → Keeps t p (λ n. store_value n (right v)) r t₂
  unfolding store_value
  keep_right v d g = record { same = (keep_then (λ n a. store n right_cell a 0) d g).same }

  pub keep_pair : (v w : Value) {s : Kept} {t₃ : List ℕ} → Keeps t p (λ n. store_value n v) q t₁ → Keeps t₁ q (λ n. store_value n w) r t₂ → Keeps t₂ r (λ n. store n pair_cell q.cell r.cell) s t₃ → Keeps t p (λ n. store_value n (pair v w)) s t₃
  unfolding store_value
  keep_pair v w d f g = record { same = (keep_then (λ n a u. bind (store_value n w u) (λ b. store n pair_cell a b)) d (keep_then (λ n b. store n pair_cell q.cell b) f g)).same }

  -- a bit's cells: the unit's, and then the side's
  pub bit_true : {b : Bool} → b ≡ true → Keeps t p (λ n. store n unit_cell 0 0) q t₁ → Keeps t₁ q (λ n. store n right_cell q.cell 0) r t₂ → Keeps t p (λ n. store_value n (bit b)) r t₂
  bit_true e d g = rw e (keep_right unit (keep_unit d) g)

  pub bit_false : {b : Bool} → b ≡ false → Keeps t p (λ n. store n unit_cell 0 0) q t₁ → Keeps t₁ q (λ n. store n left_cell q.cell 0) r t₂ → Keeps t p (λ n. store_value n (bit b)) r t₂
  bit_false e d g = rw e (keep_left unit (keep_unit d) g)
