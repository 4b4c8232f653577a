-- What a search for a name promises: no path and no node, or the selector of the path, as far as there is room.
-- Assumes nothing.
use Rattle.std.specs.Prelude.{ℕ, ◌≡◌, Bool, true, false, List, length, get_or, Some, None, Result, Ok, Err}
use Rattle.std.specs.Prelude as std
use Rattle.std.proofs.Math.Option.{Option, some, none}
use Rattle.array.specs.Path.{Side}
use Rattle.book.specs.Tree.{pattern_of, fun_of}
use Rattle.book.specs.declared.fault.Refusal.{Refusal}
use Rattle.named.specs.Trace.{Run}
use Rattle.named.specs.Combinators.{TAKE, DROP, kinds, select}
use Rattle.named.specs.Stores.{Done}
use Rattle.named.specs.Table.{Table}
use Rattle.pattern.specs.Find.{find, params_pattern, params_of}
use Rattle.pattern.specs.declared.Near.{Near}
use Rattle.pattern.specs.declared.Near.TheVariants as nears
use Rattle.pattern.specs.declared.Search.{Search}

-- document 01, Scope: the selector of a path, for record r
abbrev pub selector : ℕ → List Side → Run ℕ
selector r ks = select r (kinds TAKE DROP ks)

-- there is no path, and the table is as it was
pub record Absent (w : Option (List Side)) (d d' : Table) : Type 0 where
  pub is : w ≡ none
  pub table : d' ≡ d

-- there is one, and storing its selector gave the answer s
pub record Found (r : ℕ) (d : Table) (w : Option (List Side)) (s : Result ℕ Refusal) (d' : Table) : Type 0 where
  pub along : List Side
  pub is : w ≡ some along
  pub stored : Done d (selector r along) s d'

-- what a search answers, and what one without a row of vain searches answers
abbrev pub Sought : Type 0
Sought = Result (std.Option ℕ) Refusal

abbrev pub NearSought : Type 0
NearSought = Result Near Refusal

-- by the answer
unfoldable pub Fate : ℕ → Table → Option (List Side) → Sought → Table → Type 0
Fate r d w (Ok None) d' = Absent w d d'
Fate r d w (Ok (Some a)) d' = Found r d w (Ok a) d'
Fate r d w (Err e) d' = Found r d w (Err e) d'

-- for record r, from the table d, a search that comes to w gave the answer s and left the table d'
pub record Seeks (r : ℕ) (d : Table) (w : Option (List Side)) (s : Sought) (d' : Table) : Type 0 where
  pub kept : length d'.bytes.now ≡ length d.bytes.now
  pub fate : Fate r d w s d'

-- a row with an entry for each record there may be, true only where the pattern has no place of the name x
pub record Memo (b i : List ℕ) (x : ℕ) (ms : List Bool) : Type 0 where
  pub size : length ms ≡ 4096
  pub sound : (r : ℕ) → get_or ms r false ≡ true → find x (pattern_of b i r) ≡ none

-- a search for the name x that comes to w, with such a row; it leaves the row ms
pub record Searches (b i : List ℕ) (x : ℕ) (w : Option (List Side)) (r : ℕ) (d : Table) (s : Sought) (d' : Table) (ms : List Bool) : Type 0 where
  pub memo : Memo b i x ms
  pub sought : Seeks r d w s d'

-- by the answer of a search without such a row: where it found a row within a row, the table is as it was and nothing is said of w
unfoldable pub NearFate : ℕ → Table → Option (List Side) → NearSought → Table → Type 0
NearFate r d w (Ok nears.Missing) d' = Absent w d d'
NearFate r d w (Ok nears.Nested) d' = d' ≡ d
NearFate r d w (Ok (nears.Found a)) d' = Found r d w (Ok a) d'
NearFate r d w (Err e) d' = Found r d w (Err e) d'

-- the promise of a search without such a row
pub record Nears (r : ℕ) (d : Table) (w : Option (List Side)) (s : NearSought) (d' : Table) : Type 0 where
  pub kept : length d'.bytes.now ≡ length d.bytes.now
  pub fate : NearFate r d w s d'

-- of what a search is for: its book, its name and its record
module _ (q : Search) where
  -- the path to its name in the pattern of record p, and in the parameter tuple of record f
  abbrev pub find_for : ℕ → Option (List Side)
  find_for p = find q.name (pattern_of q.book.now.bytes q.book.now.index p)

  abbrev pub find_param : ℕ → Option (List Side)
  find_param f = find q.name (params_pattern (params_of (fun_of q.book.now.bytes q.book.now.index f)))

  -- a row of what its name was sought in vain in
  abbrev pub MemoFor : List Bool → Type 0
  MemoFor ms = Memo q.book.now.bytes q.book.now.index q.name ms

  -- the promise of such a search that comes to w: with that row, without it, and of one that needs none
  abbrev pub SearchesFor : Option (List Side) → Table → Sought → Table → List Bool → Type 0
  SearchesFor w d s d' ms = Searches q.book.now.bytes q.book.now.index q.name w q.place d s d' ms

  abbrev pub NearsFor : Option (List Side) → Table → NearSought → Table → Type 0
  NearsFor w d s d' = Nears q.place d w s d'

  abbrev pub SeeksFor : Option (List Side) → Table → Sought → Table → Type 0
  SeeksFor w d s d' = Seeks q.place d w s d'
