-- READ accepts only books of which the validity record holds.
-- Assumes nothing.
use Rattle.std.specs.declared.result.Result.TheVariants.{Ok}
use Prim.Native.Nat.{ℕ, ◌+◌, ◌-◌, ◌≤◌, ◌<◌}
use mathlib.Core.Bool.{true, false, Bool}
use mathlib.Core.Path.{◌≡◌, refl, sym, subst₂, ◌∙◌}
use mathlib.Core.List.{List}
use native.Mathlib.Omega.{arith}
use native.Mathlib.Nat.{zero-add}
use lib.ListN.{get_or, set}
use Rattle.laws.specs.Table.{true_false}
use Rattle.book.specs.Read.{kind_at, total_at, fields, good, repeats, State, on, step, Outcome, done, refused, is_unnamed, start, reading, answer_of, places_of, read_of, index_of}
use Rattle.book.specs.Ready.{Ready, Rows}
use Rattle.book.specs.Index.{single, depth}
use Rattle.book.specs.Valid.{Sound, Used, Valid}
use Rattle.book.proofs.Judging.{up_to, fields_fit}
use Rattle.book.proofs.Moves.{takes}
use Rattle.book.proofs.Course.{alone, Kept}
use Rattle.book.proofs.Reached.{reading_reached}
use Rattle.book.proofs.Loose.{tightened}
use Rattle.book.proofs.Extends.{Extends, extends, set_row, sound_before, sound_new}
use Rattle.book.proofs.Names.{Roll, earlier, before_first, roll_start, roll_extends}
use Rattle.book.proofs.Fields.{tracks_fields}
use Rattle.book.proofs.Depths.{depth_before, deep_new}
use Rattle.book.proofs.Unlike.{Unlike, unlike_next, unlike_all}

-- what holds of the first n records
record Holds (b i : List ℕ) (nm : List Bool) (ds : List ℕ) (n : ℕ) : Type 0 where
  sound : (r : ℕ) → r < n → Sound b i r
  roll : Roll b i n 0 nm
  deep : (r : ℕ) → r < n → get_or ds r 0 ≡ depth b i r
  shallow : (r : ℕ) → r < n → depth b i r ≤ 255
  unlike : Unlike b i n

-- one more record
module _ (b i : List ℕ) (nm : List Bool) (ds : List ℕ) (r p : ℕ) (ready : Ready b i nm ds r) (few : r < 4096) (nm' : List Bool) (d : ℕ) (e : fields b i ds r p 0 (total_at b p) nm 0 ≡ good nm' d) (fresh : repeats b i r p ≡ false) (low : d < 255) where
  holds_next : Holds b i nm ds r → Holds b (set i r p) nm' (set ds r (d + 1)) (r + 1)
  holds_next h =
      let j = set i r p in
      let x : Extends i j r p = extends i r p (omega arith) in
      let new : d + 1 ≡ depth b j r = deep_new b i j r p x ds h.deep nm nm' d e in
      record {
        sound = up_to (λ s. Sound b j s) r (λ s l. sound_before b i j r p x s l (h.sound s l)) (sound_new b i j r p x (fields_fit b i ds r p _ nm 0 nm' d e));
        roll = (tracks_fields b i j ds r p x few nm nm' d (record { long = ready.noted; roll = roll_extends b i j r p nm x h.roll }) e).roll;
        deep = set_row (λ s. depth b j s) ds r (d + 1) (omega arith) (λ s l. h.deep s l ∙ sym (depth_before b i j r p x s l)) new;
        shallow = up_to (λ s. depth b j s ≤ 255) r (λ s l. rw (depth_before b i j r p x s l) (h.shallow s l)) (omega arith);
        unlike = unlike_next b i j r p x fresh h.unlike;
      }

-- the same of a state
abbrev HoldsOf : List ℕ → State → Type 0
HoldsOf b s = Holds b s.index s.named s.depths s.number

-- every step keeps it
holds_step : (b : List ℕ) (s t : State) → Kept b s → s.number < 4096 → step b s ≡ on t → HoldsOf b s → HoldsOf b t
holds_step b s t ready few e h =
    let k = takes b s t e in
    rw (k.number, k.index, k.depths) (holds_next b _ _ _ _ _ ready few _ _ k.judged k.fresh k.low h)

-- it holds at the start
holds_start : (b : List ℕ) → HoldsOf b start
holds_start b = record {
  sound = λ r l. absurd (omega arith);
  roll = roll_start b _ _ (alone false 4096);
  deep = λ r l. absurd (omega arith);
  shallow = λ r l. absurd (omega arith);
  unlike = λ r s h l. absurd (omega arith);
}

-- what is not loose and may be named once is marked
not_loose : (b : List ℕ) (p : ℕ) (m : Bool) → is_unnamed b p m ≡ false → single (kind_at b p) ≡ true → m ≡ false → ⊥
unfolding is_unnamed
not_loose b p m e o z = true_false (sym o ∙ rw z at e)

-- what may be named once and stands before the last record is named
all_used : (b i : List ℕ) (nm : List Bool) (n x : ℕ) → Roll b i n 0 nm → (get_or nm x false ≡ false → ⊥) → Used b i n x
all_used b i nm n x w h =
    let u = w.used x h in
    record { by = u.by; at = u.at; before = before_first _ _ n u.names.before; uses = u.names.uses }

-- what READ accepts is valid
pub read_valid : (b i : List ℕ) (n : ℕ) → reading b ≡ done n i → Valid b i n
read_valid b i n e =
    let w = reading_reached b i n (λ s. HoldsOf b s) (holds_start b) (holds_step b) e in
    let z = w.last in
    let t = tightened b z 0 (n - 1) n i w.tight in
    let h : Holds b i z.named z.depths n = subst₂ (λ (l : List ℕ) (k : ℕ). Holds b l z.named z.depths k) w.index w.number w.holds in
    record {
      some = w.some;
      rows = subst₂ (λ (l : List ℕ) (k : ℕ). Rows b l k) w.index w.number w.ready.rows;
      sound = h.sound;
      once = λ r k s j x l m u v. h.roll.once r k s j x (record { before = earlier l; uses = u }) (record { before = earlier m; uses = v });
      all = λ x l o. all_used b i z.named n x h.roll (not_loose b (get_or i x 0) _ (rw w.index at (t.named x (omega arith) (omega arith))) o);
      root = rw (w.index, zero-add) at t.root;
      unlike = unlike_all b i n h.unlike;
      shallow = h.shallow;
    }

-- so the code's answer and index are those of a valid book
pub answer_valid : (b : List ℕ) (n : ℕ) → read_of b ≡ Ok n → Valid b (index_of b) n
unfolding read_of index_of
answer_valid b n = go (reading b) refl
  where
    go : (o : Outcome) → reading b ≡ o → answer_of o ≡ Ok n → Valid b (places_of o) n
    go (done m i) e q = let z : m ≡ n = cc in rw z at (read_valid b i m e)
    go (refused w) e q = cc
