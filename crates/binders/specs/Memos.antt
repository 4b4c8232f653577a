-- What the code holds of patterns beside types: the pairs that are known to fit, the names that were met, the row of live bindings.
-- Assumes nothing.
use Rattle.std.specs.Prelude.{ℕ, zero, suc, ◌+◌, ◌*◌, ◌/◌, ◌%◌, ◌^◌, ◌≤◌, ◌<◌, Bool, true, false, List, [], ◌∷◌, ◌⊎◌, ◌≡◌, eqb, leb, length, get_or, Option, Some, None}
use Rattle.std.proofs.Math.Option.{some, none}
use Rattle.laws.specs.Table.{pick}
use Rattle.array.specs.Path.{Side}
use Rattle.simplicity.specs.Types.{Ty}
use Rattle.book.specs.Format.{TYPE, PATTERN, FUNCTION}
use Rattle.book.specs.Index.{kind}
use Rattle.book.specs.Stands.{Stands}
use Rattle.book.specs.Text.{Text}
use Rattle.book.specs.Tree.{Pat, type_of, pattern_of, fun_of}
use Rattle.pattern.specs.Find.{find, params_of}
use Rattle.pattern.specs.Seeks.{Memo}
use Rattle.shapes.specs.Shapes.{products, leads}
use Rattle.shapes.specs.Views.{type_at}
use Rattle.binders.specs.Binders.{fits, names, param_names, twice, Binding, binding, root_scope, scope_in, type_for}
use Rattle.binders.specs.declared.Binding.{Binding as Entry}
use Rattle.binders.specs.declared.Noted.{Noted}
use Rattle.binders.specs.declared.Noted.TheVariants as notes

-- bit j of a word
unfoldable pub bit_of : ℕ → ℕ → Bool
bit_of v j = eqb (v / 2 ^ j % 2) 1

-- how many words of 32 bits each pattern has in a memo of n words
unfoldable pub width_of : ℕ → ℕ
width_of n = pick (leb n 8192) 16 128

-- the word of the pair of pattern p and type t in a memo of n words: its end, if a pattern has no bit for that type
unfoldable pub word_of : ℕ → ℕ → ℕ → ℕ
word_of n p t = pick (leb (32 * width_of n) t) n (p * width_of n + t / 32)

-- whether a pair is marked: beyond the end no bit is set
unfoldable pub marked : List ℕ → ℕ → ℕ → Bool
marked memo p t = bit_of (get_or memo (word_of (length memo) p t) 0) (t % 32)

-- each pair that is marked fits
pub record Known (b i memo : List ℕ) : Type 0 where
  pub sound : (p t : ℕ) → marked memo p t ≡ true → fits (pattern_of b i p) (type_of b i t) ≡ true

-- no pair but (p, t) is marked newly
pub record Marks (memo : List ℕ) (p t : ℕ) (memo' : List ℕ) : Type 0 where
  pub only : (q s : ℕ) → marked memo' q s ≡ true → (marked memo q s ≡ true) ⊎ ((q ≡ p) × (s ≡ t))

-- v was found to be f, and the pairs that are marked then fit
pub record Fitted (b i : List ℕ) (v f : Bool) (memo' : List ℕ) : Type 0 where
  pub known : Known b i memo'
  pub is : f ≡ v

-- where x stands in a pattern that fits a type: nowhere, or at a place whose type is record s
pub data Seen (b i : List ℕ) (x : ℕ) (p : Pat) (t : Ty) : Option ℕ → Type 0 where
  absent : find x p ≡ none → Seen b i x p t None
  present : {s : ℕ} (ks : List Side) → Stands b i s TYPE → find x p ≡ some ks → leads products ks t ≡ some (type_of b i s) → Seen b i x p t (Some s)

-- and the row of what was sought in vain that the search left
pub record Sights (b i : List ℕ) (x : ℕ) (p : Pat) (t : Ty) (s : Option ℕ) (ms : List Bool) : Type 0 where
  pub memo : Memo b i x ms
  pub seen : Seen b i x p t s

-- a row with an entry for each name there may be: the stamp that it was last met with, none greater than this one
pub record Met (stamp : ℕ) (ns : List ℕ) : Type 0 where
  pub size : length ns ≡ 65536
  pub most : (x : ℕ) → get_or ns x 0 ≤ stamp

-- how often x was met with this stamp
unfoldable pub met : ℕ → List ℕ → ℕ → ℕ
met stamp ns x = pick (eqb (get_or ns x 0) stamp) 1 0

-- a row with an entry for each record there may be, true only where the pattern has no names
pub record Nameless (b i : List ℕ) (ms : List Bool) : Type 0 where
  pub size : length ms ≡ 4096
  pub sound : (r : ℕ) → get_or ms r false ≡ true → names (pattern_of b i r) ≡ []

-- how often x stands in a row of names
unfoldable pub times : ℕ → List ℕ → ℕ
times x [] = 0
times x (y ∷ ys) = pick (eqb x y) 1 0 + times x ys

-- the names xs were met on top of those that ns has with this stamp: one stands there twice, or none does, and ns' has them all
unfoldable pub Tally : ℕ → List ℕ → List ℕ → Noted → List ℕ → Type 0
Tally stamp xs ns notes.Twice ns' = (x : ℕ) × (2 ≤ met stamp ns x + times x xs)
Tally stamp xs ns notes.Named ns' = (x : ℕ) → met stamp ns' x ≡ met stamp ns x + times x xs
Tally stamp xs ns notes.Unnamed ns' = (xs ≡ []) × (ns' ≡ ns)

pub record Notes (stamp : ℕ) (xs ns : List ℕ) (s : Noted) (ns' : List ℕ) : Type 0 where
  pub row : Met stamp ns'
  pub tally : Tally stamp xs ns s ns'

-- and the row of records without names that this left
pub record Tallies (b i : List ℕ) (stamp : ℕ) (xs ns : List ℕ) (s : Noted) (ns' : List ℕ) (ms' : List Bool) : Type 0 where
  pub nameless : Nameless b i ms'
  pub notes : Notes stamp xs ns s ns'

-- the record s has the names of the row p: it is the row, or its one part with names; or there are none
pub data Bears (b i : List ℕ) (p : ℕ) : Option ℕ → Type 0 where
  nobody : names (pattern_of b i p) ≡ [] → Bears b i p None
  somebody : {s : ℕ} → Stands b i s PATTERN → s ≤ p → names (pattern_of b i s) ≡ names (pattern_of b i p) → Bears b i p (Some s)

-- whether a name stands twice: in a pattern, among a function's parameters
abbrev pub pattern_twice : List ℕ → List ℕ → ℕ → Bool
pattern_twice b i r = twice (names (pattern_of b i r))

abbrev pub params_twice : List ℕ → List ℕ → ℕ → Bool
params_twice b i r = twice (param_names (params_of (fun_of b i r)))

-- a row that has for each pattern and each function among the first n records whether a name stands in it twice; behind them it has false
pub record Doubled (b i : List ℕ) (n : ℕ) (ds : List Bool) : Type 0 where
  pub size : length ds ≡ 4096
  pub patterns : (r : ℕ) → r < n → kind b i r ≡ PATTERN → get_or ds r false ≡ pattern_twice b i r
  pub functions : (r : ℕ) → r < n → kind b i r ≡ FUNCTION → get_or ds r false ≡ params_twice b i r
  pub beyond : (r : ℕ) → n ≤ r → get_or ds r false ≡ false

-- what was found of record r, and the rows that the search left: no name was met with a stamp greater than the record's
pub record Repeats (b i : List ℕ) (r : ℕ) (f : Bool) (ns' : List ℕ) (ms' : List Bool) : Type 0 where
  pub pattern : kind b i r ≡ PATTERN → f ≡ pattern_twice b i r
  pub function : kind b i r ≡ FUNCTION → f ≡ params_twice b i r
  pub row : Met (r + 1) ns'
  pub nameless : Nameless b i ms'

-- the root binding of a scope: a function's parameters, or the input
abbrev pub base_of : List ℕ → List ℕ → Option ℕ → List Binding
base_of b i None = root_scope
base_of b i (Some f) = scope_in (fun_of b i f)

-- an entry of a row of live bindings: its pattern's record, and its type's
abbrev pub entry_at : List Entry → ℕ → Entry
entry_at bs k = get_or bs k (record { pattern = 0; of = 0 })

-- the scope of n live bindings
unfoldable pub scope_of : List ℕ → List ℕ → List Entry → ℕ → Option ℕ → List Binding
scope_of b i bs zero base = base_of b i base
scope_of b i bs (suc n) base = binding (pattern_of b i (entry_at bs n).pattern) (type_of b i (entry_at bs n).of) ∷ scope_of b i bs n base

-- what may be bound: a pattern to a type that it fits
pub record Binds (b i : List ℕ) (p t : ℕ) : Type 0 where
  pub pattern : Stands b i p PATTERN
  pub type : Stands b i t TYPE
  pub fit : fits (pattern_of b i p) (type_of b i t) ≡ true

-- a row of n live bindings
pub record Live (b i : List ℕ) (bs : List Entry) (n : ℕ) (base : Option ℕ) : Type 0 where
  pub room : n ≤ length bs
  pub each : (j : ℕ) → j < n → Binds b i (entry_at bs j).pattern (entry_at bs j).of
  pub based : (f : ℕ) → base ≡ Some f → Stands b i f FUNCTION

-- what the live bindings have of the name x: record s's type, or nothing, so that it is for the base to say
pub data Newest (b i : List ℕ) (bs : List Entry) (n : ℕ) (base : Option ℕ) (x : ℕ) : Option ℕ → Type 0 where
  found : {s : ℕ} → Stands b i s TYPE → type_for x (scope_of b i bs n base) ≡ some (type_of b i s) → Newest b i bs n base x (Some s)
  passed : type_for x (scope_of b i bs n base) ≡ type_for x (base_of b i base) → Newest b i bs n base x None

-- a book as contracts see it
module _ (x : Text) where
  -- the pattern of record p; what may be bound
  abbrev pub pattern_at : ℕ → Pat
  pattern_at p = pattern_of x.bytes x.index p

  abbrev pub BindsIn : ℕ → ℕ → Type 0
  BindsIn p t = Binds x.bytes x.index p t

  -- each pair that is marked fits; and f says whether pattern p fits type t
  abbrev pub KnownIn : List ℕ → Type 0
  KnownIn memo = Known x.bytes x.index memo

  abbrev pub FittedIn : ℕ → ℕ → Bool → List ℕ → Type 0
  FittedIn p t f memo' = Fitted x.bytes x.index (fits (pattern_at p) (type_at x t)) f memo'

  -- the row is true only where the pattern has no names; and the names of pattern p were met, which came to s
  abbrev pub NamelessIn : List Bool → Type 0
  NamelessIn ms = Nameless x.bytes x.index ms

  abbrev pub TalliesIn : ℕ → ℕ → List ℕ → Noted → List ℕ → List Bool → Type 0
  TalliesIn p stamp ns s ns' ms' = Tallies x.bytes x.index stamp (names (pattern_at p)) ns s ns' ms'

  -- the row is true only where the name was sought in vain; and it was sought in pattern p, beside type t
  abbrev pub MemoIn : ℕ → List Bool → Type 0
  MemoIn name ms = Memo x.bytes x.index name ms

  abbrev pub SightsIn : ℕ → ℕ → ℕ → Option ℕ → List Bool → Type 0
  SightsIn name p t s ms' = Sights x.bytes x.index name (pattern_at p) (type_at x t) s ms'

  -- a row of live bindings; its scope; and what it has of the name
  abbrev pub LiveIn : List Entry → Option ℕ → Type 0
  LiveIn bs base = Live x.bytes x.index bs (length bs) base

  abbrev pub scope_in_row : List Entry → Option ℕ → List Binding
  scope_in_row bs base = scope_of x.bytes x.index bs (length bs) base

  abbrev pub NewestIn : List Entry → Option ℕ → ℕ → Option ℕ → Type 0
  NewestIn bs base n s = Newest x.bytes x.index bs (length bs) base n s
