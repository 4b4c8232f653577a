-- What the source meaning asks of a book and a witness list, beside CHECK's pass.
-- Assumes nothing.
use Rattle.std.specs.Prelude.{ℕ, ◌<◌, true, List, [], ◌≡◌}
use Rattle.book.specs.Format.{EW, CH}
use Rattle.book.specs.Index.{mark, field}
use Rattle.book.specs.Read.{index_of}
use Rattle.book.specs.Text.{text}
use Rattle.nodes.specs.Given.{given, supplies}

-- document 01, CHECK and the meanings: each witness of the book finds an entry that is a value record of its declared type
abbrev pub Supplied : List ℕ → ℕ → List ℕ → Type 0
Supplied b n ws = (r : ℕ) → r < n → mark b (index_of b) r ≡ EW → supplies (given (text b (index_of b) n) ws []) (field b (index_of b) r 1) (field b (index_of b) r 0) ≡ true

-- document 01, Refusal 20: no hash in the book
abbrev pub Hashless : List ℕ → ℕ → Type 0
Hashless b n = (r : ℕ) → r < n → mark b (index_of b) r ≡ CH → ⊥
