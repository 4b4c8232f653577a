-- What a run is given: a book that READ accepts, the witness list, the nodes.
-- Assumes nothing.
use Rattle.std.specs.Prelude.{ℕ, zero, suc, ◌+◌, ◌*◌, Bool, List, length, eqb, ltb}
use Rattle.laws.specs.Table.{pick, both}
use Rattle.book.specs.Format.{word_at, VALUE}
use Rattle.book.specs.Index.{kind, field}
use Rattle.book.specs.Text.{Text}

-- whether r is a record of the book, and of the kind
abbrev pub holds : Text → ℕ → ℕ → Bool
holds b kd r = both (ltb r b.records) (eqb (kind b.bytes b.index r) kd)

-- whether r is a value record, and its type is record t
abbrev pub typed : Text → ℕ → ℕ → Bool
typed b r t = both (holds b VALUE r) (eqb (field b.bytes b.index r 0) t)

-- how many of the first r records are values
unfoldable pub values_below : Text → ℕ → ℕ
values_below b zero = 0
values_below b (suc r) = pick (eqb (kind b.bytes b.index r) VALUE) (values_below b r + 1) (values_below b r)

-- document 01, CHECK and the meanings: cell 0 is unit, then one per value record: the cell of record r; 0 where that is no value
unfoldable pub cell_of : Text → ℕ → ℕ
cell_of b r = pick (holds b VALUE r) (1 + values_below b r) 0

-- the book, the witness list, the node table
pub record Given : Type 0 where
  pub book : Text
  pub witnesses : List ℕ
  pub nodes : List ℕ

abbrev pub given : Text → List ℕ → List ℕ → Given
given b ws ns = record { book = b; witnesses = ws; nodes = ns }

-- document 01, CHECK and the meanings: a witness list has two bytes an entry, low first; the entry of name x is the number of a value record
abbrev pub entry_of : List ℕ → ℕ → ℕ
entry_of ws x = word_at ws (2 * x)

-- document 01, Refusal 17: the entry of name x is there, a value record, and of the type whose record is t
unfoldable pub supplies : Given → ℕ → ℕ → Bool
supplies g x t = both (ltb (2 * x + 1) (length g.witnesses)) (typed g.book (entry_of g.witnesses x) t)
