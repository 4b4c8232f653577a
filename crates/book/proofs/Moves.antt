-- A step of READ that goes on: what it found, what it did, and that the rows stay ready.
-- Assumes nothing.
use Prim.Native.Nat.{ℕ, ◌+◌, ◌≤◌, ◌<◌}
use mathlib.Core.Bool.{Bool, false}
use mathlib.Core.Path.{◌≡◌, refl, ap, ◌∙◌}
use mathlib.Core.List.{List}
use native.Mathlib.Omega.{arith}
use native.Mathlib.Nat.{pos_of_ne-zero}
use native.Mathlib.Decide.{ℕ_discrete}
use lib.ListN.{length, get_or, set, length-set}
use lib.Seq.{get_or-set_same, get_or-set_other}
use lib.Dec.{ltb}
use borrow.Author.Tests.{ltb-false, leb-false, eqb-false, le-ltb, lt-leb, ne_eqb}
use Rattle.laws.specs.Table.{pick}
use Rattle.book.specs.Read.{mark_at, total_at, end_at, fields, Verdict, good, bad, repeats, State, state, Moved, on, stop, settle, step}
use Rattle.book.specs.Ready.{Framed, Rows, Ready}
use Rattle.book.specs.declared.fault.Fault.{Fault}
use Rattle.book.specs.declared.fault.Fault.TheVariants.{Cut, Mark}
use Rattle.book.proofs.Picks.{second, stop_on}
use Rattle.book.proofs.Judging.{fields_length}

-- a test that stops has failed
went : (t : Bool) (f : Fault) (m : Moved) (u : State) → pick t (stop f) m ≡ on u → (t ≡ false) × (m ≡ on u)
went t f m u e = second t (stop f) m (on u) (stop_on f u) e

-- READ's verdict on the record at s's place
abbrev pub verdict : List ℕ → State → Verdict
verdict b s = fields b s.index s.depths s.number s.place 0 (total_at b s.place) s.named 0

-- the record at s's place is good, and t comes after it
pub record Takes (b : List ℕ) (s t : State) : Type 0 where
  pub framed : Framed b s.place
  pub deep : ℕ
  pub judged : verdict b s ≡ good t.named deep
  pub fresh : repeats b s.index s.number s.place ≡ false
  pub low : deep < 255
  pub place : t.place ≡ end_at b s.place
  pub number : t.number ≡ s.number + 1
  pub index : t.index ≡ set s.index s.number s.place
  pub depths : t.depths ≡ set s.depths s.number (deep + 1)

-- the state after a good record
abbrev pub after : List ℕ → State → List Bool → ℕ → State
after b s nm d = state (end_at b s.place) (s.number + 1) (set s.index s.number s.place) nm (set s.depths s.number (d + 1))

module _ (b : List ℕ) (s t : State) where
  -- the same, once all of it is found
  taken : (nm : List Bool) (d : ℕ) → Framed b s.place → verdict b s ≡ good nm d
      → repeats b s.index s.number s.place ≡ false → d < 255 → on (after b s nm d) ≡ on t → Takes b s t
  taken nm d f z n l e =
      let w : after b s nm d ≡ t = cc in
      record {
        framed = f;
        deep = d;
        judged = z ∙ ap (λ (u : State). good u.named d) w;
        fresh = n;
        low = l;
        place = rw (← w);
        number = rw (← w);
        index = rw (← w);
        depths = rw (← w);
      }

  -- the same, by the verdict on the fields
  settled : Framed b s.place → (v : Verdict) → verdict b s ≡ v → settle b s v ≡ on t → Takes b s t
  unfolding settle
  settled f (bad w) z e = absurd (stop_on w t e)
  settled f (good nm d) z e =
      let g = went _ _ _ t e in
      let h = went _ _ _ t g.1 in
      taken nm d f z g.0 (leb-false _ _ h.0) h.1

  -- a step that goes on has taken a good record
  pub takes : step b s ≡ on t → Takes b s t
  unfolding step
  takes e =
      let g = went (ltb (length b) (s.place + 2)) Cut _ t e in
      let h = went _ Mark _ t g.1 in
      let j = went _ Cut _ t h.1 in
      let k = eqb-false _ _ h.0 in
      settled (record { known = pos_of_ne-zero k; ends = ltb-false _ _ j.0 }) _ refl j.1

-- and a good record is taken
pub step_can : (b : List ℕ) (s : State) (nm : List Bool) (d : ℕ) → Framed b s.place → verdict b s ≡ good nm d
    → repeats b s.index s.number s.place ≡ false → d < 255 → step b s ≡ on (after b s nm d)
unfolding step settle end_at
step_can b s nm d f z n l =
    let e = f.ends in
    let k = f.known in
    rw (le-ltb (length b) (s.place + 2) (omega arith), ne_eqb (mark_at b s.place) 0 (omega arith), le-ltb (length b) (end_at b s.place) e, z, n, lt-leb 255 d l)

-- what a step keeps and brings
pub record Moves (b : List ℕ) (s t : State) : Type 0 where
  pub ready : Ready b t.index t.named t.depths t.number
  pub further : s.place < t.place
  pub inside : t.place ≤ length b
  pub next : t.number ≡ s.number + 1

-- the row of places after one more was set
placed : (b i : List ℕ) (r p j : ℕ) → Rows b i r → r < 4096 → Framed b p → j < r + 1 → Dec (j ≡ r) → Framed b (get_or (set i r p) j 0)
placed b i r p j h l f z (yes e) = rw (e, get_or-set_same i r p 0 (omega arith)) f
placed b i r p j h l f z (no n) = rw (get_or-set_other i r j p 0 n) (h.inside j (omega arith))

-- the records so far and the new one lie in the book
placed_rows : (b i : List ℕ) (r p : ℕ) → Rows b i r → r < 4096 → Framed b p → Rows b (set i r p) (r + 1)
placed_rows b i r p h l f = record {
  size = h.size;
  few = omega arith;
  indexed = simp length-set h.indexed;
  inside = λ j z. placed b i r p j h l f z (ℕ_discrete j r);
}

-- after a step the rows are ready for the next record, which begins further on in the book
pub moves : (b : List ℕ) (s t : State) → Ready b s.index s.named s.depths s.number → s.number < 4096 → step b s ≡ on t → Moves b s t
unfolding end_at
moves b s t h l e =
    let k = takes b s t e in
    let f = k.framed in
    record {
      ready = record {
        rows = rw (k.index, k.number) (placed_rows b _ _ _ h.rows l f);
        noted = fields_length b _ _ _ _ _ _ _ _ _ k.judged ∙ h.noted;
        deep = rw k.depths (simp length-set h.deep);
      };
      further = rw k.place (omega arith);
      inside = rw k.place f.ends;
      next = k.number;
    }
