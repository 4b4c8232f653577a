-- READ as a function of a book's bytes, in document 01's order of judgement.
-- Assumes nothing.
use Rattle.std.specs.Prelude.{ℕ, zero, suc, ◌+◌, ◌*◌, ◌-◌, Bool, true, false, not, List, [], ◌∷◌, length, get_or, set, replicate, eqb, leb, ltb, max, Result, Ok, Err}
use Rattle.laws.specs.Table.{pick, both, below, among, some}
use Rattle.book.specs.Format.{Fields, word_at, mark_of, kind_of, layout_of, role_of, total_of, in_range, TYPE, EXPRESSION, STATEMENT, FUNCTION, END}
use Rattle.book.specs.Faults.{refusal}
use Rattle.book.specs.declared.fault.Fault.{Fault}
use Rattle.book.specs.declared.fault.Fault.TheVariants.{Size, Records, Cut, Mark, Number, Reference, Twice, Depth, Loose}
use Rattle.book.specs.declared.fault.Refusal.{Refusal}

-- the record that begins at p: its mark, how often its group stands, its number of fields, where it ends, and its field k with its role
unfoldable pub mark_at : List ℕ → ℕ → ℕ
mark_at b p = mark_of (word_at b p)

unfoldable pub kind_at : List ℕ → ℕ → ℕ
kind_at b p = kind_of (mark_at b p)

abbrev pub layout_at : List ℕ → ℕ → Fields
layout_at b p = layout_of (mark_at b p)

unfoldable pub count_in : List ℕ → ℕ → Fields → ℕ
count_in b p l = pick (eqb l.eachs 0) 0 (word_at b (p + 2 * l.heads))

unfoldable pub count_at : List ℕ → ℕ → ℕ
count_at b p = count_in b p (layout_at b p)

unfoldable pub total_at : List ℕ → ℕ → ℕ
total_at b p = total_of (layout_at b p) (count_at b p)

unfoldable pub end_at : List ℕ → ℕ → ℕ
end_at b p = p + 2 + 2 * total_at b p

unfoldable pub role_at : List ℕ → ℕ → ℕ → ℕ
role_at b p k = role_of (layout_at b p) (count_at b p) k

unfoldable pub field_at : List ℕ → ℕ → ℕ → ℕ
field_at b p k = word_at b (p + 2 + 2 * k)

-- the kind of the record that a field of this role names by x, 0 where it names none: 65535 is a block's missing end
unfoldable pub names : ℕ → ℕ → ℕ
names r x = pick (eqb r END) (pick (eqb x 65535) 0 EXPRESSION) (pick (leb r FUNCTION) r 0)

-- a record's fields so far: which expressions and statements were named, and the depth of the deepest record named; or why not
pub data Verdict : Type 0 where
  good : List Bool → ℕ → Verdict
  bad : Fault → Verdict

abbrev pub and_then : Verdict → (List Bool → ℕ → Verdict) → Verdict
and_then (good nm d) f = f nm d
and_then (bad f) g = bad f

-- the deeper of two
unfoldable pub deeper : ℕ → ℕ → ℕ
deeper d e = max d e

-- an expression or statement is named once only
unfoldable pub once : List Bool → ℕ → ℕ → Verdict
once nm x d = pick (get_or nm x false) (bad Twice) (good (set nm x true) d)

-- document 01, Refusals 6 and 7: what record r names is earlier and of the kind, and not an expression or statement again
unfoldable pub refer : List ℕ → List ℕ → List ℕ → ℕ → ℕ → ℕ → List Bool → ℕ → Verdict
refer b i ds r kind x nm d =
    pick (both (ltb x r) (eqb (kind_at b (get_or i x 0)) kind))
    (pick (among (EXPRESSION ∷ STATEMENT ∷ []) kind) (once nm x (deeper d (get_or ds x 0))) (good nm (deeper d (get_or ds x 0))))
    (bad Reference)

-- field k of record r at p: its number in range, then what it names
unfoldable pub judge : List ℕ → List ℕ → List ℕ → ℕ → ℕ → ℕ → List Bool → ℕ → Verdict
judge b i ds r p k nm d =
    pick (in_range (role_at b p k) (word_at b (p + 2 * k)) (field_at b p k))
    (pick (eqb (names (role_at b p k) (field_at b p k)) 0) (good nm d)
    (refer b i ds r (names (role_at b p k) (field_at b p k)) (field_at b p k) nm d))
    (bad Number)

-- the fields from k on, of which so many are left, from left to right
unfoldable pub fields : List ℕ → List ℕ → List ℕ → ℕ → ℕ → ℕ → ℕ → List Bool → ℕ → Verdict
fields b i ds r p k zero nm d = good nm d
fields b i ds r p k (suc left) nm d = and_then (judge b i ds r p k nm d) (λ nm d. fields b i ds r p (k + 1) left nm d)

-- the records at p and at q have the same letters and the same fields
unfoldable pub alike : List ℕ → ℕ → ℕ → Bool
alike b p q = both (eqb (word_at b p) (word_at b q)) (below (λ k. eqb (field_at b p k) (field_at b q k)) (total_at b p))

-- document 01, Refusal 7: a type alike one of the first r records
unfoldable pub repeats : List ℕ → List ℕ → ℕ → ℕ → Bool
repeats b i r p = both (eqb (kind_at b p) TYPE) (some (λ j. alike b p (get_or i j 0)) r)

-- how far READ has come: the next record's place and number, and for each earlier record its place, whether it was named, and its depth
pub record State : Type 0 where
  pub place : ℕ
  pub number : ℕ
  pub index : List ℕ
  pub named : List Bool
  pub depths : List ℕ

abbrev pub state : ℕ → ℕ → List ℕ → List Bool → List ℕ → State
state p r i nm ds = record { place = p; number = r; index = i; named = nm; depths = ds }

pub data Moved : Type 0 where
  on : State → Moved
  stop : Fault → Moved

-- after its fields a record is new if it is a type, is not too deep, and takes its place
unfoldable pub settle : List ℕ → State → Verdict → Moved
settle b s (bad f) = stop f
settle b s (good nm d) =
    pick (repeats b s.index s.number s.place) (stop Twice)
    (pick (leb 255 d) (stop Depth)
    (on (state (end_at b s.place) (s.number + 1) (set s.index s.number s.place) nm (set s.depths s.number (d + 1)))))

-- document 01, Refusals by number: one record; CUT if one byte is left, MARK, CUT, its fields, a like type, DEPTH
unfoldable pub step : List ℕ → State → Moved
step b s =
    pick (ltb (length b) (s.place + 2)) (stop Cut)
    (pick (eqb (mark_at b s.place) 0) (stop Mark)
    (pick (ltb (length b) (end_at b s.place)) (stop Cut)
    (settle b s (fields b s.index s.depths s.number s.place 0 (total_at b s.place) s.named 0))))

-- READ's outcome: how many records and where each begins; or a refusal
pub data Outcome : Type 0 where
  done : ℕ → List ℕ → Outcome
  refused : Refusal → Outcome

-- an expression or statement that was never named
unfoldable pub is_unnamed : List ℕ → ℕ → Bool → Bool
is_unnamed b p named = both (not named) (among (EXPRESSION ∷ STATEMENT ∷ []) (kind_at b p))

-- document 01, Refusal 9: the first such among the records from j on, of which so many stand before the last; else the last, if it is no expression
unfoldable pub loose : List ℕ → State → ℕ → ℕ → Outcome
loose b s j zero = pick (eqb (kind_at b (get_or s.index j 0)) EXPRESSION) (done s.number s.index) (refused (refusal Loose j))
loose b s j (suc left) = pick (is_unnamed b (get_or s.index j 0) (get_or s.named j false)) (refused (refusal Loose j)) (loose b s (j + 1) left)

-- document 01, Refusal 2: record by record, where so many more may begin
unfoldable pub records : ℕ → List ℕ → State → Outcome
records zero b s = elim (ltb s.place (length b)) [
  | true ↦ refused (refusal Records 4096)
  | false ↦ loose b s 0 (s.number - 1)
]
records (suc more) b s = elim (ltb s.place (length b)) [
  | true ↦ elim (step b s) [ on t ↦ records more b t | stop f ↦ refused (refusal f s.number) ]
  | false ↦ loose b s 0 (s.number - 1)
]

abbrev pub start : State
start = state 0 0 (replicate 4096 0) (replicate 4096 false) (replicate 4096 0)

-- document 01, Refusal 1: a book of 1 to 65,535 bytes
unfoldable pub sized : ℕ → Bool
sized n = both (ltb 0 n) (ltb n 65536)

unfoldable pub reading : List ℕ → Outcome
reading b = elim (sized (length b)) [ true ↦ records 4096 b start | false ↦ refused (refusal Size 0) ]

-- READ's answer, and the index: where each record begins, zeros beyond; after a refusal zeros throughout
abbrev pub answer_of : Outcome → Result ℕ Refusal
answer_of (done n i) = Ok n
answer_of (refused w) = Err w

abbrev pub places_of : Outcome → List ℕ
places_of (done n i) = i
places_of (refused w) = replicate 4096 0

unfoldable pub read_of : List ℕ → Result ℕ Refusal
read_of b = answer_of (reading b)

unfoldable pub index_of : List ℕ → List ℕ
index_of b = places_of (reading b)
