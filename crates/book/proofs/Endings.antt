-- How a record and a book end, a law for each way through.
-- Assumes nothing.
use Prim.Native.Nat.{ℕ, suc, ◌+◌, ◌*◌, ◌-◌, ◌≤◌, ◌<◌}
use mathlib.Core.Path.{◌≡◌, refl, sym, ap, ◌∙◌}
use mathlib.Core.Bool.{Bool, true, false}
use mathlib.Core.Logic.{⊎_elim}
use mathlib.Core.List.{List}
use native.Mathlib.Nat.{mul-le-mul_left, eq-zero-or-pos}
use native.Mathlib.Omega.{arith}
use borrow.Author.Tests.{eq-eqb, ne_eqb, eqb-false, ltb-false}
use lib.Dec.{eqb, ltb}
use Rattle.std.specs.Prelude.{Result, Ok, Err}
use lib.ListN.{length, get_or}
use Rattle.laws.specs.Table.{pick}
use Rattle.book.specs.Format.{total_of, EXPRESSION}
use Rattle.book.specs.Faults.{refusal}
use Rattle.book.specs.Read.{mark_at, kind_at, layout_at, count_in, count_at, total_at, end_at, fields, Verdict, good, bad, State, Moved, stop, settle, step, done, refused, is_unnamed, loose}
use Rattle.book.specs.Ready.{Opens, frame_at, frame_from, frame_of, verdict_of}
use Rattle.book.specs.declared.fault.Fault.{Fault}
use Rattle.book.specs.declared.fault.Fault.TheVariants.{Cut, Mark, Loose}
use Rattle.book.specs.declared.read.Frame.{Frame}
use Rattle.book.proofs.Picks.{second}

-- the last records: n of them stand before the last
module _ (b : List ℕ) (s : State) (n j : ℕ) where
  pub loose_here : j < n → is_unnamed b (get_or s.index j 0) (get_or s.named j false) ≡ true → refused (refusal Loose j) ≡ loose b s j (n - j)
  unfolding loose
  loose_here h e = let q : n - j ≡ suc (n - (j + 1)) = omega arith in rw (q, e)

  pub loose_on : j < n → is_unnamed b (get_or s.index j 0) (get_or s.named j false) ≡ false → loose b s (j + 1) (n - (j + 1)) ≡ loose b s j (n - j)
  unfolding loose
  loose_on h e = let q : n - j ≡ suc (n - (j + 1)) = omega arith in rw (q, e)

  pub loose_last : n ≤ j → (kind_at b (get_or s.index j 0) ≡ EXPRESSION → ⊥) → refused (refusal Loose j) ≡ loose b s j (n - j)
  unfolding loose
  loose_last h e = let q : n - j ≡ 0 = omega arith in rw (q, ne_eqb (kind_at b (get_or s.index j 0)) EXPRESSION e)

  pub loose_none : n ≤ j → kind_at b (get_or s.index j 0) ≡ EXPRESSION → done s.number s.index ≡ loose b s j (n - j)
  unfolding loose
  loose_none h e = let q : n - j ≡ 0 = omega arith in rw (q, eq-eqb (kind_at b (get_or s.index j 0)) EXPRESSION e)

pub loose_all : (b : List ℕ) (s : State) (n : ℕ) → loose b s 0 (n - 0) ≡ loose b s 0 n
loose_all b s n = let q : n - 0 ≡ n = omega arith in rw q

-- the code's answer on the fields, beside the row of names that it left
module _ (b : List ℕ) (s : State) (v : Result ℕ Fault) (nm : List Bool) (w : Verdict) (is : verdict_of v nm ≡ w) where
  pub settle_bad : (f : Fault) → v ≡ Err f → stop f ≡ settle b s w
  unfolding settle
  settle_bad f e = let q : bad f ≡ w = sym (ap (λ (u : Result ℕ Fault). verdict_of u nm) e) ∙ is in rw (← q)

  pub settle_good : (d : ℕ) → v ≡ Ok d → settle b s (good nm d) ≡ settle b s w
  settle_good d e = ap (settle b s) (sym (ap (λ (u : Result ℕ Fault). verdict_of u nm) e) ∙ is)

-- three tests in a row, as a frame and as a move
bad_is : (t u v : Bool) (x : Moved) (g : Frame) (f : Fault) → pick t (Err Cut) (pick u (Err Mark) (pick v (Err Cut) (Ok g))) ≡ Err f → stop f ≡ pick t (stop Cut) (pick u (stop Mark) (pick v (stop Cut) x))
bad_is true u v x g f q = let z : f ≡ Cut = cc in ap stop z
bad_is false true v x g f q = let z : f ≡ Mark = cc in ap stop z
bad_is false false true x g f q = let z : f ≡ Cut = cc in ap stop z
bad_is false false false x g f q = cc

-- a frame that is there is no refusal
of_frame : (e : Fault) (f : Frame) → Err e ≡ Ok f → ⊥
of_frame e f q = cc

-- what a frame that is there says: the three tests failed, and it is this one
record Whole (t u v : Bool) (g f : Frame) : Type 0 where
  long : t ≡ false
  marked : u ≡ false
  uncut : v ≡ false
  is : f ≡ g

whole_is : (t u v : Bool) (g f : Frame) → pick t (Err Cut) (pick u (Err Mark) (pick v (Err Cut) (Ok g))) ≡ Ok f → Whole t u v g f
whole_is t u v g f q =
    let x = second t _ _ _ (of_frame Cut f) q in
    let y = second u _ _ _ (of_frame Mark f) x.1 in
    let z = second v _ _ _ (of_frame Cut f) y.1 in
    let o : Ok g ≡ Ok f = z.1 in
    record { long = x.0; marked = y.0; uncut = z.0; is = cc }

-- a count is no greater than the record is long
count_within : (b : List ℕ) (p : ℕ) → count_at b p ≤ total_at b p
unfolding total_at total_of count_at count_in
count_within b p =
    let l = layout_at b p in
    ⊎_elim (λ (z : l.eachs ≡ 0). rw (eq-eqb l.eachs 0 z) (omega arith))
    (λ (h : 0 < l.eachs). let w : count_at b p * 1 ≤ count_at b p * l.eachs = mul-le-mul_left (count_at b p) h in omega arith)
    (eq-zero-or-pos l.eachs)

module _ (b : List ℕ) (s : State) where
  pub step_bad : (f : Fault) → Err f ≡ frame_of b s.place → stop f ≡ step b s
  unfolding step frame_of frame_from
  step_bad f q = bad_is (ltb (length b) (s.place + 2)) (eqb (mark_at b s.place) 0) (ltb (length b) (end_at b s.place)) _ _ f (sym q)

  module _ (f : Frame) (q : Ok f ≡ frame_of b s.place) where
    found : Whole (ltb (length b) (s.place + 2)) (eqb (mark_at b s.place) 0) (ltb (length b) (end_at b s.place)) (frame_at b s.place) f
    unfolding frame_of frame_from
    found = whole_is _ _ _ _ _ (sym q)

    -- the record stands where READ has come to
    pub step_place : f.at ≡ s.place
    step_place = ap (λ (g : Frame). g.at) found.is

    pub step_opens : length b < 65536 → Opens b f
    unfolding end_at
    step_opens h =
        let z : end_at b s.place ≤ length b = ltb-false (length b) (end_at b s.place) found.uncut in
        let k : mark_at b s.place ≡ 0 → ⊥ = eqb-false (mark_at b s.place) 0 found.marked in
        rw found.is (record { size = h; framed = record { known = omega arith; ends = z }; mark = refl; count = refl; short = omega (arith, count_within b s.place); end = refl })

    pub step_settles : settle b s (fields b s.index s.depths s.number s.place 0 (total_at b s.place) s.named 0) ≡ step b s
    unfolding step
    step_settles = rw (found.long, found.marked, found.uncut)
