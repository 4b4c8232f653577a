-- What contracts say of a book as a whole, in place of its bytes and its index. Most are facts of a book and of a number that is passed apart,
-- so that no type has them as an invariant.
-- Assumes nothing.
use Rattle.std.specs.Prelude.{ℕ}
use Rattle.book.specs.Index.{mark, field, Lies}
use Rattle.book.specs.Valid.{Valid}
use Rattle.book.specs.Stands.{Stands}
use Rattle.book.specs.Text.{Text}

module _ (x : Text) where
  -- it is valid
  abbrev pub ValidIn : Type 0
  ValidIn = Valid x.bytes x.index x.records

  -- record r is of a kind; field k of it is in the book
  abbrev pub StandsIn : ℕ → ℕ → Type 0
  StandsIn r kd = Stands x.bytes x.index r kd

  abbrev pub LiesIn : ℕ → ℕ → Type 0
  LiesIn r k = Lies x.bytes x.index r k

  -- its mark; what field k of it holds
  abbrev pub mark_in : ℕ → ℕ
  mark_in r = mark x.bytes x.index r

  abbrev pub field_in : ℕ → ℕ → ℕ
  field_in r k = field x.bytes x.index r k
