-- The records of a book by their numbers: `i` is the index, the row of the places where they begin.
-- Assumes nothing.
use Rattle.std.specs.Prelude.{ℕ, zero, suc, ◌+◌, ◌*◌, ◌≤◌, ◌<◌, Bool, List, [], ◌∷◌, ◌++◌, length, get_or, eqb}
use Rattle.laws.specs.Table.{pick, among}
use Rattle.book.specs.Format.{EXPRESSION, STATEMENT}
use Rattle.book.specs.Read.{mark_at, kind_at, count_at, total_at, role_at, field_at, names, deeper}

-- record r's mark, kind, count of its group, number of fields, and its field k with its role
abbrev pub mark : List ℕ → List ℕ → ℕ → ℕ
mark b i r = mark_at b (get_or i r 0)

abbrev pub kind : List ℕ → List ℕ → ℕ → ℕ
kind b i r = kind_at b (get_or i r 0)

abbrev pub count : List ℕ → List ℕ → ℕ → ℕ
count b i r = count_at b (get_or i r 0)

abbrev pub total : List ℕ → List ℕ → ℕ → ℕ
total b i r = total_at b (get_or i r 0)

abbrev pub role : List ℕ → List ℕ → ℕ → ℕ → ℕ
role b i r k = role_at b (get_or i r 0) k

abbrev pub field : List ℕ → List ℕ → ℕ → ℕ → ℕ
field b i r k = field_at b (get_or i r 0) k

-- record r begins in the book; its field k lies in it
pub record Begins (b i : List ℕ) (r : ℕ) : Type 0 where
  pub listed : r < length i
  pub inside : get_or i r 0 + 2 ≤ length b

pub record Lies (b i : List ℕ) (r k : ℕ) : Type 0 where
  pub listed : r < length i
  pub inside : get_or i r 0 + 2 + 2 * (k + 1) ≤ length b

-- the kind of the record that field k of record r names, 0 where it names none
abbrev pub named : List ℕ → List ℕ → ℕ → ℕ → ℕ
named b i r k = names (role b i r k) (field b i r k)

-- whether a kind's records are named once only
abbrev pub single : ℕ → Bool
single kd = among (EXPRESSION ∷ STATEMENT ∷ []) kd

-- document 01, The book: a record's depth is 1, or 1 more than the deepest it names. The deepest of the fields from k on, of which so many are left, where `ds` has the depths of the earlier records
unfoldable pub deepest : List ℕ → List ℕ → List ℕ → ℕ → ℕ → ℕ → ℕ → ℕ
deepest b i ds r k zero d = d
deepest b i ds r k (suc left) d = deepest b i ds r (k + 1) left (pick (eqb (named b i r k) 0) d (deeper d (get_or ds (field b i r k) 0)))

-- the depths of the first n records
unfoldable pub depths : List ℕ → List ℕ → ℕ → List ℕ
depths b i zero = []
depths b i (suc n) = let ds = depths b i n in ds ++ ((deepest b i ds n 0 (total b i n) 0 + 1) ∷ [])

unfoldable pub depth : List ℕ → List ℕ → ℕ → ℕ
depth b i r = deepest b i (depths b i r) r 0 (total b i r) 0 + 1
