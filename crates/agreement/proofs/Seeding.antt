-- The cells that a run begins with: the unit, and the cell of each value record.
-- Assumes nothing.
use Prim.Native.Nat.{ℕ, zero, suc, ◌+◌, ◌≤◌, ◌<◌}
use mathlib.Core.Bool.{Bool, true, false}
use mathlib.Core.List.{[], ◌∷◌}
use mathlib.Core.Path.{◌≡◌, refl, ap}
use native.Mathlib.Omega.{arith}
use borrow.Author.Tests.{eqb-true, eqb-false, lt-ltb, eq-eqb}
use lib.ListN.{length, replicate}
use lib.Dec.{eqb}
use Rattle.laws.specs.Order.{by_lt}
use Rattle.laws.specs.Table.{pick, among, every, ◌also◌}
use Rattle.book.specs.Format.{VALUE, VU, VL, VR, VP}
use Rattle.book.specs.Index.{mark, kind, field}
use Rattle.book.specs.Stands.{Stands}
use Rattle.book.specs.Tree.{as_value, value_of}
use Rattle.book.specs.Valid.{Valid}
use Rattle.book.specs.declared.fault.Fault.TheVariants.{Cells}
use Rattle.book.proofs.Standing.{stands_mark, stands_tree, head_stands, head_below}
use Rattle.named.specs.Cut.{room}
use Rattle.cells.specs.Entries.{put}
use Rattle.book.specs.Text.{Text}
use Rattle.nodes.specs.Given.{values_below, cell_of}
use Rattle.cells.specs.Cells.{unit_cell, left_cell, right_cell, pair_cell, World, world, refuses, Out, got, halt, add, bind, store}
use Rattle.run.specs.Whole.{part_of, seed, seed_one, seeds}
use Rattle.agreement.proofs.Reading.{Back, back_unit, back_left, back_right, back_pair}
use Rattle.agreement.proofs.Heaps.{Holds, Heap, heap_keeps, after, after_keeps, by_store}

-- the cell of a value record is the one after those of the values before it
pub cell_of_lem : (b : Text) (r : ℕ) → r < b.records → kind b.bytes b.index r ≡ VALUE → cell_of b r ≡ 1 + values_below b r
unfolding cell_of
cell_of_lem b r l e = rw (lt-ltb r b.records l, eq-eqb (kind b.bytes b.index r) VALUE e)

-- after the cells of the first n records
abbrev pub Seeded : Text → ℕ → Out → Type 0
Seeded b n (got s x w) = Heap b n w [] × (w.used ≡ 1 + values_below b n)
Seeded b n (halt s e p) = e ≡ refuses Cells

seeded_add : (b : Text) (n s : ℕ) (o : Out) → Seeded b n o → Seeded b n (add s o)
unfolding add
seeded_add b n s (got t x w) h = h
seeded_add b n s (halt t e p) h = h

module _ (b : Text) (v : Valid b.bytes b.index b.records) (n : ℕ) (l : n < b.records) (w : World) (p : Heap b n w []) (u : w.used ≡ 1 + values_below b n) where
  -- a record that is no value has no cell
  seeded_none : eqb (kind b.bytes b.index n) VALUE ≡ false → (x : ℕ) → Seeded b (suc n) (got 0 x w)
  unfolding values_below
  seeded_none e x = (
    record {
      first = p.first;
      constants = λ r h k. by_lt r n (λ o. p.constants r o k)
          (λ o. absurd (eqb-false (kind b.bytes b.index n) VALUE e (let z : r ≡ n = omega arith in rw z at k)));
      waiting = p.waiting;
    },
    rw e u,
  )

  -- a value record
  module _ (is : kind b.bytes b.index n ≡ VALUE) where
    stands : Stands b.bytes b.index n VALUE
    stands = record { records = b.records; valid = v; inside = l; is = is }

    -- its cell is stored, if it fits
    seeded_some : (k x y : ℕ) → (w.used < room (length w.table) → Back (put w.table w.used k x y) w.used (value_of b.bytes b.index n)) → Seeded b (suc n) (store 0 k x y w)
    unfolding values_below
    seeded_some k x y f =
        by_store k x y w 0 (Seeded b (suc n)) (λ fit.
        let q : Heap b n (after k x y w) [] = heap_keeps (after_keeps k x y w) p in (
          record {
            first = q.first;
            constants = λ r h e. by_lt r n (λ o. q.constants r o e) (λ o.
                let z : r ≡ n = omega arith in
                rw (z, ← u) (record { below = omega arith; reads = f fit }));
            waiting = q.waiting;
          },
          rw (eq-eqb (kind b.bytes b.index n) VALUE is) (omega arith),
        ))
        refl

    -- a field that names a value: its cell is there
    part_holds : (k : ℕ) → field b.bytes b.index n k < n → Stands b.bytes b.index (field b.bytes b.index n k) VALUE
        → Holds w.table w.used (part_of b n k) (value_of b.bytes b.index (field b.bytes b.index n k))
    part_holds k o s = rw (cell_of_lem b (field b.bytes b.index n k) (omega arith) s.is) (p.constants (field b.bytes b.index n k) o s.is)

    -- by its mark
    seeded_one : Seeded b (suc n) (seed b n w)
    unfolding seed as_value
    seeded_one =
        every (VU ∷ VL ∷ VR ∷ VP ∷ []) (λ m. mark b.bytes b.index n ≡ m → Seeded b (suc n) (seed b n w))
        ((λ e. rw e (seeded_some unit_cell 0 0 (λ fit. rw (ap as_value (stands_tree stands VU e)) (back_unit w.table w.used fit))))
        also (λ e.
        let h = part_holds 1 (head_below stands VL e 1 tt tt) (head_stands stands VL e 1 tt tt) in
        rw e (seeded_some left_cell (part_of b n 1) 0 (λ fit. rw (ap as_value (stands_tree stands VL e)) (back_left w.table w.used fit h.below h.reads))))
        also (λ e.
        let h = part_holds 1 (head_below stands VR e 1 tt tt) (head_stands stands VR e 1 tt tt) in
        rw e (seeded_some right_cell (part_of b n 1) 0 (λ fit. rw (ap as_value (stands_tree stands VR e)) (back_right w.table w.used fit h.below h.reads))))
        also (λ e.
        let h = part_holds 1 (head_below stands VP e 1 tt tt) (head_stands stands VP e 1 tt tt) in
        let i = part_holds 2 (head_below stands VP e 2 tt tt) (head_stands stands VP e 2 tt tt) in
        rw e (seeded_some pair_cell (part_of b n 1) (part_of b n 2) (λ fit. rw (ap as_value (stands_tree stands VP e)) (back_pair w.table w.used fit h.below h.reads i.below i.reads))))
        also tt)
        (mark b.bytes b.index n) (stands_mark stands (among (VU ∷ VL ∷ VR ∷ VP ∷ [])) tt tt) refl

  seeded_next : (x : ℕ) → Seeded b (suc n) (seed_one b n x w)
  seeded_next x = go (eqb (kind b.bytes b.index n) VALUE) refl
    where
      go : (t : Bool) → eqb (kind b.bytes b.index n) VALUE ≡ t → Seeded b (suc n) (pick t (seed b n w) (got 0 x w))
      go true e = seeded_one (eqb-true (kind b.bytes b.index n) VALUE e)
      go false e = seeded_none e x

module _ (b : Text) (v : Valid b.bytes b.index b.records) where
  seeded_bind : (n : ℕ) → n < b.records → (o : Out) → Seeded b n o → Seeded b (suc n) (bind o (seed_one b n))
  unfolding bind
  seeded_bind n l (got s x w) h = seeded_add b (suc n) s (seed_one b n x w) (seeded_next b v n l w h.0 h.1 x)
  seeded_bind n l (halt s e p) h = h

  -- the first n records in an empty table of m bytes
  pub seeded : (m n : ℕ) → n ≤ b.records → Seeded b n (seeds b n (world 0 (replicate m 0) []))
  unfolding seeds values_below
  seeded m zero l =
      let z = world 0 (replicate m 0) [] in
      by_store unit_cell 0 0 z 0 (Seeded b zero) (λ fit. (
        record {
          first = record { below = omega arith; reads = back_unit z.table 0 fit };
          constants = λ r h. absurd (omega arith);
          waiting = tt;
        },
        refl,
      ))
      refl
  seeded m (suc n) l = seeded_bind n (omega arith) (seeds b n (world 0 (replicate m 0) [])) (seeded m n (omega arith))
