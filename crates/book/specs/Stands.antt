-- A record that stands in a valid book: what every pass after READ asks of the record that it is given.
-- Assumes nothing.
use Rattle.std.specs.Prelude.{ℕ, ◌<◌, ◌≡◌, List}
use Rattle.book.specs.Index.{kind}
use Rattle.book.specs.Valid.{Valid}

-- the book has some number of records and is valid, record r is one of them, and its kind is kd
pub record Stands (b i : List ℕ) (r kd : ℕ) : Type 0 where
  pub records : ℕ
  pub valid : Valid b i records
  pub inside : r < records
  pub is : kind b i r ≡ kd
