-- What a contract sees of a book that was read: what `Book` of crates/book/src/record.rt holds.
-- Assumes nothing.
use Rattle.std.specs.Prelude.{ℕ, List}

-- a book that READ accepts: its bytes, its index and the number of its records
pub record Text : Type 0 where
  pub bytes : List ℕ
  pub index : List ℕ
  pub records : ℕ

abbrev pub text : List ℕ → List ℕ → ℕ → Text
text b i n = record { bytes = b; index = i; records = n }
