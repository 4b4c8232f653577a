-- The verdicts on a stream of books, from what is known to be left of the stream.
-- Assumes nothing.
use Rattle.std.specs.Prelude.{ℕ, ◌+◌, ◌*◌, ◌≤◌, ◌<◌, Bool, false, List, ◌⊎◌, ◌≡◌, length, get_or}
use Rattle.std.specs.Borrow.{Bor}
use Rattle.std.specs.Io.KnownBytes.{Consumes, IsAtEnd}
use Rattle.book.specs.declared.fault.Numbers.{Numbers}
use Rattle.vectors.specs.Replayed.{Left}

-- the number in two bytes of a head, low first
abbrev pub two_from : List ℕ → ℕ → ℕ
two_from head k = get_or head k 0 + 256 * get_or head (k + 1) 0

-- the answer that a head says is due
abbrev pub due_in : List ℕ → Numbers
due_in head = record { number = get_or head 0 0; place = two_from head 1; count = two_from head 3 }

-- the length that a head says its book has
abbrev pub size_in : List ℕ → ℕ
size_in head = get_or head 5 0 + 256 * get_or head 6 0 + 65536 * get_or head 7 0

-- a book comes from the input, and a call says this verdict of it and of what is due; the book is shorter than it should be only where the
-- input ends
abbrev pub IsJudged : (Bor (List ℕ) → Numbers → Bool → Type 0) → Numbers → ℕ → Left → Bool → Left → Type 0
IsJudged says due size left v left' = (book : Bor (List ℕ)) × says book due v × (length book.now ≤ size) × Consumes left left' book.now × (length book.now < size → IsAtEnd left')

-- a verdict on a book: one that has no room is wrong, and is not read; any other is judged
abbrev pub IsVerdict : (Bor (List ℕ) → Numbers → Bool → Type 0) → Numbers → ℕ → Left → Bool → Left → Type 0
IsVerdict says due size left v left' = ((131072 < size) × (v ≡ false) × (left' ≡ left)) ⊎ IsJudged says due size left v left'

-- a head of 8 bytes comes from the input, and then this verdict is that on its book
abbrev pub BookTurn : (Bor (List ℕ) → Numbers → Bool → Type 0) → Left → Bool → Left → Type 0
BookTurn says left v left' = (head : List ℕ) × (mid : Left) × (length head ≡ 8) × Consumes left mid head × IsVerdict says (due_in head) (size_in head) mid v left'
