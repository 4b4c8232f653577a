-- Laws of the cells before the run: how values are numbered, and how their cells are stored one after another.
-- Assumes nothing.
use Prim.Native.Nat.{ℕ, zero, suc, ◌+◌, ◌≤◌, ◌<◌}
use mathlib.Core.Bool.{Bool, true, false}
use mathlib.Core.List.{List, [], ◌∷◌}
use mathlib.Core.Path.{◌≡◌, refl, sym, ap, subst, ◌∙◌}
use native.Mathlib.Numerals.{add-one}
use native.Mathlib.Omega.{arith}
use borrow.Author.Tests.{le-ltb}
use lib.Dec.{T, eqb, eqb→eq}
use lib.ListN.{length, get_or, set, replicate, length-set, length-replicate}
use lib.Seq.{get_or-set_same, get_or-set_other}
use Rattle.laws.specs.Table.{pick, among, Rest, free}
use Rattle.laws.specs.Order.{by_lt}
use Rattle.book.specs.Format.{VALUE, VU, VL, VR, VP}
use Rattle.book.specs.Index.{mark, kind}
use Rattle.book.specs.Stands.{Stands}
use Rattle.book.proofs.Standing.{stands_mark}
use Rattle.book.proofs.Course.{zeros}
use Rattle.book.proofs.Judging.{up_to}
use Rattle.cells.specs.Cells.{unit_cell, left_cell, right_cell, pair_cell, World, Out, got, halt, add, bind, store}
use Rattle.book.specs.Text.{Text}
use Rattle.nodes.specs.Given.{holds, values_below, cell_of}
use Rattle.cells.specs.Keeping.{leads, Fresh, Keeps}
use Rattle.run.specs.Whole.{part_of, seed, seed_one, seeds}
use Rattle.machine.specs.Machine.{Placed}
use Rattle.run.specs.Calls.{Seeded, Started}
use Rattle.cells.specs.declared.table.Kept.{Kept}
use Rattle.cells.proofs.Outs.{add_none}
use Rattle.nodes.proofs.Checks.{holds_inside}

-- the first r records are numbered: the row has their cells and zeros beyond, and the next value's cell is this
pub record Numbered (b : Text) (row : List ℕ) (next r : ℕ) : Type 0 where
  pub inside : r ≤ b.records
  pub sized : length row ≡ 4096
  pub counts : next ≡ 1 + values_below b r
  pub below : (j : ℕ) → j < r → get_or row j 0 ≡ cell_of b j
  pub above : (j : ℕ) → r ≤ j → get_or row j 0 ≡ 0

-- the row's length
pub zeros_length : (row : List ℕ) → row ≡ replicate 4096 0 → length row ≡ 4096
zeros_length row e = ap length e ∙ length-replicate {A = ℕ} 4096 0

module _ (b : Text) where
  -- no more values than records
  pub few_values : (r : ℕ) → values_below b r ≤ r
  unfolding values_below
  few_values zero = omega arith
  few_values (suc r) = go (few_values r) (eqb (kind b.bytes b.index r) VALUE)
    where
      go : values_below b r ≤ r → (t : Bool) → pick t (values_below b r + 1) (values_below b r) ≤ suc r
      go h true = omega arith
      go h false = omega arith

  -- the cell of a value, and of what is none
  cell_some : (r : ℕ) → holds b VALUE r ≡ true → cell_of b r ≡ 1 + values_below b r
  unfolding cell_of
  cell_some r e = rw e

  cell_none : (r : ℕ) → holds b VALUE r ≡ false → cell_of b r ≡ 0
  unfolding cell_of
  cell_none r e = rw e

  -- one record more counted
  count_some : (r : ℕ) → eqb (kind b.bytes b.index r) VALUE ≡ true → values_below b (r + 1) ≡ values_below b r + 1
  unfolding values_below
  count_some r e = rw (add-one r, e)

  count_none : (r : ℕ) → eqb (kind b.bytes b.index r) VALUE ≡ false → values_below b (r + 1) ≡ values_below b r
  unfolding values_below
  count_none r e = rw (add-one r, e)

  -- a row of zeros has none numbered
  pub number_none : (row : List ℕ) → row ≡ replicate 4096 0 → Numbered b row 1 0
  unfolding values_below
  number_none row e = record {
    inside = omega arith;
    sized = zeros_length row e;
    counts = refl;
    below = λ j h. absurd (omega arith);
    above = λ j h. rw e (zeros 4096 j);
  }

  module _ {row : List ℕ} {next r : ℕ} (h : Numbered b row next r) where
    -- one record more: a value, or not
    module _ (more : r < b.records) where
      pub number_value : r < 4096 → holds b VALUE r ≡ true → Numbered b (set row r next) (next + 1) (r + 1)
      number_value few e = record {
        inside = omega arith;
        sized = length-set row r next ∙ h.sized;
        counts = omega (arith, h.counts, count_some r (sym (holds_inside b VALUE r more) ∙ e));
        below = up_to (λ j. get_or (set row r next) j 0 ≡ cell_of b j) r (λ j l. get_or-set_other row r j next 0 (omega arith) ∙ h.below j l) (get_or-set_same row r next 0 (omega (arith, h.sized)) ∙ h.counts ∙ sym (cell_some r e));
        above = λ j l. get_or-set_other row r j next 0 (omega arith) ∙ h.above j (omega arith);
      }

      pub number_other : holds b VALUE r ≡ false → Numbered b row next (r + 1)
      number_other e = record {
        inside = omega arith;
        sized = h.sized;
        counts = omega (arith, h.counts, count_none r (sym (holds_inside b VALUE r more) ∙ e));
        below = up_to (λ j. get_or row j 0 ≡ cell_of b j) r h.below (h.above r (omega arith) ∙ sym (cell_none r e));
        above = λ j l. h.above j (omega arith);
      }

    -- once all are, the row has each value's cell
    pub number_all : b.records ≤ r → Placed b row
    number_all l = record {
      each = λ j. by_lt j r (h.below j) (λ g. h.above j g ∙ sym (cell_none j (rw (le-ltb j b.records (omega arith)))));
    }

-- a value whose mark is none of the first three is a pair
pub pair_mark : {b i : List ℕ} {r m : ℕ} → Stands b i r VALUE → m ≡ mark b i r → Rest (VU ∷ VL ∷ VR ∷ []) m Unit → mark b i r ≡ VP
pair_mark {b} {i} {r} {m} s e h =
    let t : T (pick (among (VU ∷ VL ∷ VR ∷ []) (mark b i r)) true (eqb (mark b i r) VP)) = stands_mark s (λ j. pick (among (VU ∷ VL ∷ VR ∷ []) j) true (eqb j VP)) tt tt in
    let z : among (VU ∷ VL ∷ VR ∷ []) (mark b i r) ≡ false = rw (sym e) (free (VU ∷ VL ∷ VR ∷ []) m Unit h).1 in
    eqb→eq (mark b i r) VP (subst (λ (u : Bool). T (pick u true (eqb (mark b i r) VP))) z t)

-- what a value record's cell is, by its mark
module _ (b : Text) (r : ℕ) where
  pub seed_unit : mark b.bytes b.index r ≡ VU → store 0 unit_cell 0 0 ≡ seed b r
  unfolding seed
  seed_unit e = rw e

  pub seed_left : {x : ℕ} → mark b.bytes b.index r ≡ VL → x ≡ part_of b r 1 → store 0 left_cell x 0 ≡ seed b r
  unfolding seed
  seed_left e p = rw (e, p)

  pub seed_right : {x : ℕ} → mark b.bytes b.index r ≡ VR → x ≡ part_of b r 1 → store 0 right_cell x 0 ≡ seed b r
  unfolding seed
  seed_right e p = rw (e, p)

  pub seed_pair : {x y : ℕ} → mark b.bytes b.index r ≡ VP → x ≡ part_of b r 1 → y ≡ part_of b r 2 → store 0 pair_cell x y ≡ seed b r
  unfolding seed
  seed_pair e p q = rw (e, p, q)

-- a value's cell that is handed on
bind_same : (o : Out) → o ≡ bind o (λ v w. got 0 v w)
unfolding bind add
bind_same (got s v w) = let z : s + 0 ≡ s = omega arith in rw z
bind_same (halt s e n) = refl

module _ {t t' : List ℕ} {p q : Kept} where
  -- what was stored for any node was stored before the run
  pub seed_kept : {m : ℕ → World → Out} {f : World → Out} → Keeps t p m q t' → m 0 ≡ f → Seeded t p (λ v. f) q t'
  seed_kept k e = record { same = λ hs. k.same 0 hs ∙ ap (λ g. bind (leads 0 t hs p) (λ v. g)) e }

-- of another record nothing is stored
pub one_other : {t : List ℕ} {p : Kept} (b : Text) (r : ℕ) → r < b.records → holds b VALUE r ≡ false → Seeded t p (seed_one b r) p t
one_other {t} {p} b r h e = let z : eqb (kind b.bytes b.index r) VALUE ≡ false = sym (holds_inside b VALUE r h) ∙ e in record { same = λ hs. subst (λ (u : Bool). leads 0 t hs p ≡ bind (leads 0 t hs p) (λ v w. pick u (seed b r w) (got 0 v w))) (sym z) (bind_same (leads 0 t hs p)) }

-- cell 0, then record by record, until all are stored
module _ (b : Text) {t t' : List ℕ} {q : Kept} where
  pub start_unit : {p : Kept} → Fresh 0 p → Keeps t p (λ n. store n unit_cell 0 0) q t' → Started b 0 t q t'
  unfolding seeds leads bind
  start_unit f k = record { same = λ hs. k.same 0 hs ∙ rw (f.room, f.used) (add_none _) }

  pub start_one : (r : ℕ) {p : Kept} {s : List ℕ} → Started b r s p t → Seeded t p (seed_one b r) q t' → Started b (r + 1) s q t'
  unfolding seeds
  start_one r w h = record { same = λ hs. rw (add-one r) (h.same hs ∙ ap (λ o. bind o (seed_one b r)) (w.same hs)) }

  pub start_all : {r n : ℕ} → r ≡ n → Started b r t q t' → Started b n t q t'
  start_all e w = subst (λ (k : ℕ). Started b k t q t') e w
