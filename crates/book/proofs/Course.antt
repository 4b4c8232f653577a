-- READ's course, an equation for each way that it goes on from a state, and the rows that it starts with.
-- Assumes nothing.
use Prim.Native.Nat.{ℕ, zero, suc, ◌-◌, ◌≤◌, ◌<◌}
use mathlib.Core.Path.{◌≡◌, refl}
use mathlib.Core.List.{List}
use mathlib.Core.Bool.{Bool, false}
use native.Mathlib.Omega.{arith}
use lib.ListN.{length, get_or, replicate, length-replicate}
use borrow.Author.Tests.{lt-ltb, le-ltb}
use Rattle.book.specs.Faults.{refusal}
use Rattle.book.specs.Read.{State, on, stop, step, refused, loose, records, start}
use Rattle.book.specs.Ready.{Ready}
use Rattle.book.specs.declared.fault.Fault.{Fault}
use Rattle.book.specs.declared.fault.Fault.TheVariants.{Records}

module _ (b : List ℕ) (s : State) where
  -- the rows are ready for the record that s has come to
  abbrev pub Kept : Type 0
  Kept = Ready b s.index s.named s.depths s.number

  -- no byte is left
  pub over : (more : ℕ) → length b ≤ s.place → records more b s ≡ loose b s 0 (s.number - 1)
  unfolding records
  over zero h = rw (le-ltb _ _ h, records)
  over (suc more) h = rw (le-ltb _ _ h, records)

  -- a record is good
  pub onward : (more : ℕ) (t : State) → s.place < length b → step b s ≡ on t → records (suc more) b s ≡ records more b t
  unfolding records
  onward more t h e = rw (lt-ltb _ _ h, records, e)

  -- a record is not
  pub halts : (more : ℕ) (f : Fault) → s.place < length b → step b s ≡ stop f → records (suc more) b s ≡ refused (refusal f s.number)
  unfolding records
  halts more f h e = rw (lt-ltb _ _ h, records, e)

  -- no record may begin
  pub full : s.place < length b → records zero b s ≡ refused (refusal Records 4096)
  unfolding records
  full h = rw (lt-ltb _ _ h, records)

-- a row of one value, and of zeros
pub alone : {A : Type 0} (a : A) (n x : ℕ) → get_or (replicate n a) x a ≡ a
alone a zero x = refl
alone a (suc n) zero = refl
alone a (suc n) (suc x) = alone a n x

pub zeros : (n x : ℕ) → get_or {A = ℕ} (replicate n 0) x 0 ≡ 0
zeros = alone 0

-- each row has 4,096 entries
pub length_start : length start.index ≡ 4096
length_start = length-replicate {A = ℕ} 4096 0

pub length_unnamed : length start.named ≡ 4096
length_unnamed = length-replicate {A = Bool} 4096 false

-- every row is ready before the first record
pub ready_start : (b : List ℕ) → length b < 65536 → Kept b start
ready_start b h = record {
  rows = record { size = h; few = omega arith; indexed = length_start; inside = λ j z. absurd (omega arith) };
  noted = length_unnamed;
  deep = length_start;
}
