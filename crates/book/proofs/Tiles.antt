-- The records of a book that READ accepts lie end to end.
-- Assumes nothing.
use Prim.Native.Nat.{ℕ, zero, suc, ◌+◌, ◌-◌, ◌≤◌, ◌<◌}
use mathlib.Core.Path.{◌≡◌, refl, sym, ap, ◌∙◌}
use mathlib.Core.List.{List}
use native.Mathlib.Omega.{arith}
use native.Mathlib.Numerals.{add-one}
use lib.ListN.{length, get_or, set}
use lib.Seq.{get_or-set_other}
use Rattle.book.specs.Read.{end_at, State, on, step, done, reading}
use Rattle.book.specs.Valid.{Tiles}
use Rattle.book.proofs.Judging.{up_to}
use Rattle.book.proofs.Moves.{takes}
use Rattle.book.proofs.Course.{Kept, zeros}
use Rattle.book.proofs.Reached.{reading_reached}
use Rattle.book.proofs.Extends.{Extends, extends}

-- where the records before r end
abbrev until : List ℕ → List ℕ → ℕ → ℕ
until b i zero = 0
until b i (suc r) = end_at b (get_or i r 0)

-- the first n records lie end to end up to p
record Laid (b i : List ℕ) (n p : ℕ) : Type 0 where
  joins : (r : ℕ) → r < n → get_or i r 0 ≡ until b i r
  place : p ≡ until b i n
  beyond : (r : ℕ) → n ≤ r → get_or i r 0 ≡ 0

-- a later place does not change where earlier records end
until_before : (b i j : List ℕ) (r p : ℕ) → Extends i j r p → (k : ℕ) → k ≤ r → until b j k ≡ until b i k
until_before b i j r p x zero h = refl
until_before b i j r p x (suc k) h = ap (λ (q : ℕ). end_at b q) (x.before k h)

-- one more record
laid_next : (b i : List ℕ) (r p : ℕ) → r < length i → Laid b i r p → Laid b (set i r p) (r + 1) (end_at b p)
laid_next b i r p l h =
    let j = set i r p in
    let x : Extends i j r p = extends i r p l in
    record {
      joins = up_to (λ k. get_or j k 0 ≡ until b j k) r
          (λ k l. x.before k l ∙ h.joins k l ∙ sym (until_before b i j r p x k (omega arith)))
          (x.new ∙ h.place ∙ sym (until_before b i j r p x r (omega arith)));
      place = rw add-one (ap (λ (q : ℕ). end_at b q) (sym x.new));
      beyond = λ k l. get_or-set_other i r k p 0 (omega arith) ∙ h.beyond k (omega arith);
    }

-- the same of a state
abbrev LaidOf : List ℕ → State → Type 0
LaidOf b s = Laid b s.index s.number s.place

-- every step keeps it
laid_step : (b : List ℕ) (s t : State) → Kept b s → s.number < 4096 → step b s ≡ on t → LaidOf b s → LaidOf b t
laid_step b s t ready few e h =
    let k = takes b s t e in
    rw (k.number, k.index, k.place) (laid_next b _ _ _ (omega arith) h)

-- the last record's end
last_end : (b i : List ℕ) (n : ℕ) → 0 < n → until b i n ≡ end_at b (get_or i (n - 1) 0)
last_end b i zero h = absurd (omega arith)
last_end b i (suc n) h = let e : suc n - 1 ≡ n = omega arith in rw e

-- the records of a book that READ accepts lie end to end
pub read_tiles : (b i : List ℕ) (n : ℕ) → reading b ≡ done n i → Tiles b i n
read_tiles b i n e =
    let w = reading_reached b i n (λ s. LaidOf b s) (record { joins = λ r l. absurd (omega arith); place = refl; beyond = λ r l. zeros 4096 r }) (laid_step b) e in
    let h : Laid b i n (length b) = rw (w.index, w.number, w.whole) at w.holds in
    record { begins = h.joins 0 w.some; joins = λ r l. h.joins (suc r) l; ends = sym (h.place ∙ last_end b i n w.some); beyond = h.beyond }
