-- What READ's steps keep holds of the state that it ends in.
-- Assumes nothing.
use Prim.Native.Nat.{ℕ, zero, suc, ◌+◌, ◌-◌, ◌≤◌, ◌<◌}
use mathlib.Core.Bool.{Bool, true, false}
use mathlib.Core.Path.{◌≡◌, refl, sym, subst, ◌∙◌}
use mathlib.Core.List.{List}
use native.Mathlib.Omega.{arith}
use native.Mathlib.Nat.{pos_of_ne-zero}
use native.Mathlib.Decide.{dec_lt}
use lib.ListN.{length}
use Rattle.book.specs.Faults.{refusal}
use Rattle.book.specs.Read.{State, Moved, on, stop, step, Outcome, done, refused, loose, records, start, sized, reading}
use Rattle.book.specs.declared.fault.Fault.TheVariants.{Size}
use Rattle.book.proofs.Picks.{refused_done}
use Rattle.book.proofs.Going.{sized_is}
use Rattle.book.proofs.Course.{Kept, over, onward, halts, full, ready_start}
use Rattle.book.proofs.Loose.{tightened}
use Rattle.book.proofs.Moves.{moves}

-- the state that READ of b ends in, with n records at the places i, and P holds of it
pub record Reached (b i : List ℕ) (n : ℕ) (P : State → Type 0) : Type 0 where
  pub last : State
  pub holds : P last
  pub ready : Kept b last
  pub whole : last.place ≡ length b
  pub number : last.number ≡ n
  pub index : last.index ≡ i
  pub tight : loose b last 0 (n - 1) ≡ done n i
  pub some : 0 < n

-- P holds at s, where so many more records may begin
record Along (b : List ℕ) (P : State → Type 0) (more : ℕ) (s : State) : Type 0 where
  holds : P s
  ready : Kept b s
  inside : s.place ≤ length b
  left : s.number + more ≡ 4096
  begun : s.number ≡ 0 → s.place ≡ 0

module _ (b : List ℕ) (P : State → Type 0)
    (keeps : (s t : State) → Kept b s → s.number < 4096 → step b s ≡ on t → P s → P t) where
  -- one more record
  along_step : (more : ℕ) (s t : State) → Along b P (suc more) s → step b s ≡ on t → Along b P more t
  along_step more s t a e =
      let l = a.left in
      let m = moves b s t a.ready (omega arith) e in
      let q = m.next in
      record {
        holds = keeps s t a.ready (omega arith) e a.holds;
        ready = m.ready;
        inside = m.inside;
        left = omega arith;
        begun = λ z. absurd (omega arith);
      }

  module _ (n : ℕ) (i : List ℕ) (size : 0 < length b) where
    -- READ ends where no byte is left
    ended : (more : ℕ) (s : State) → Along b P more s → length b ≤ s.place → records more b s ≡ done n i → Reached b i n P
    ended more s a l e =
        let f = sym (over b s more l) ∙ e in
        let w = tightened b s 0 (s.number - 1) n i f in
        let m = a.inside in
        record {
          last = s;
          holds = a.holds;
          ready = a.ready;
          whole = omega arith;
          number = w.number;
          index = w.index;
          tight = subst (λ (k : ℕ). loose b s 0 (k - 1) ≡ done n i) w.number f;
          some = pos_of_ne-zero (λ z. let q = a.begun (w.number ∙ z) in omega arith);
        }

    -- so READ from s on ends in such a state
    reached : (more : ℕ) (s : State) → Along b P more s → records more b s ≡ done n i → Reached b i n P
    reached zero s a e = go (dec_lt s.place (length b))
      where
        go : Dec (s.place < length b) → Reached b i n P
        go (yes h) = absurd (refused_done _ n i (sym (full b s h) ∙ e))
        go (no h) = ended zero s a (omega arith) e
    reached (suc more) s a e = go (λ t f. reached more t (along_step more s t a f)) (dec_lt s.place (length b)) (step b s) refl
      where
        go : ((t : State) → step b s ≡ on t → records more b t ≡ done n i → Reached b i n P) → Dec (s.place < length b) → (m : Moved) → step b s ≡ m → Reached b i n P
        go rest (yes h) (on t) f = rest t f (sym (onward b s more t h f) ∙ e)
        go rest (yes h) (stop w) f = absurd (refused_done _ n i (sym (halts b s more w h f) ∙ e))
        go rest (no h) m f = ended (suc more) s a (omega arith) e

-- what holds at the start and is kept by every step holds where READ ends
pub reading_reached : (b i : List ℕ) (n : ℕ) (P : State → Type 0) → P start
    → ((s t : State) → Kept b s → s.number < 4096 → step b s ≡ on t → P s → P t)
    → reading b ≡ done n i → Reached b i n P
unfolding reading
reading_reached b i n P begin keeps e = go _ refl e
  where
    go : (t : Bool) → sized (length b) ≡ t → elim t as (λ x. Outcome) [ true ↦ records 4096 b start | false ↦ refused (refusal Size 0) ] ≡ done n i → Reached b i n P
    go true f e =
        let h = sized_is (length b) f in
        reached b P keeps n i h.0 4096 start (record { holds = begin; ready = ready_start b h.1; inside = omega arith; left = refl; begun = λ z. z }) e
    go false f e = absurd (refused_done _ n i e)
