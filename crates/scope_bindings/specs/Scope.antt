-- A scope: its bindings, and the path from the environment to a name.
-- Assumes nothing.
use Rattle.std.specs.Prelude.{ℕ, zero, suc, ◌+◌, ◌-◌, ◌<◌, ◌≤◌, List, [], ◌∷◌, ◌++◌, ◌≡◌, eqb, length, get_or, set, replicate}
use Rattle.std.proofs.Math.Option.{Option, some, none}
use Rattle.laws.specs.Table.{pick}
use Rattle.array.specs.Path.{Side, on_left, on_right}
use Rattle.book.specs.Format.{PATTERN, FUNCTION}
use Rattle.book.specs.Index.{kind}
use Rattle.book.specs.Stands.{Stands}
use Rattle.book.specs.Tree.{Pat, ignore, pattern_of, fun_of}
use Rattle.named.specs.Trace.{Run, stop, undefined}
use Rattle.pattern.specs.Find.{find, params_pattern, params_of}
use Rattle.pattern.specs.Seeks.{selector}
use Rattle.pattern.specs.declared.Search.{Search}
use Rattle.scope_bindings.specs.declared.ScopeBindings.{ScopeBindings}

-- document 01, Scope: the path to a binding: one right for each newer binding, then one left unless the binding is the root, which none is older than
unfoldable pub reach : ℕ → ℕ → List Side
reach newer zero = replicate newer on_right
reach newer (suc older) = replicate newer on_right ++ (on_left ∷ [])

-- the path found in a binding, from the environment on; where there is none, what the older bindings have
unfoldable pub through : ℕ → ℕ → Option (List Side) → Option (List Side) → Option (List Side)
through newer older (some ks) rest = some (reach newer older ++ ks)
through newer older none rest = rest

-- document 01, Scope: a name belongs to its newest binding. A scope is the patterns of its bindings, the newest first, the root last
unfoldable pub lookup_from : ℕ → ℕ → List Pat → Option (List Side)
lookup_from newer x [] = none
lookup_from newer x (p ∷ ps) = through newer (length ps) (find x p) (lookup_from (suc newer) x ps)

abbrev pub lookup : ℕ → List Pat → Option (List Side)
lookup = lookup_from 0

-- document 01, Scope and Refusal 10: what record r, a variable, stores: the selector of the name's path, or nothing where the name is not in scope
unfoldable pub fetch : ℕ → Option (List Side) → Run ℕ
fetch r (some ks) = selector r ks
fetch r none = stop undefined r

abbrev pub variable : ℕ → ℕ → List Pat → Run ℕ
variable r x ps = fetch r (lookup x ps)

-- an entry of the row: a record's number, or this for the ignore pattern
abbrev pub IGNORED : ℕ
IGNORED = 65535

-- what an entry stands for: a pattern, or a function's parameter tuple
unfoldable pub bound : List ℕ → List ℕ → ℕ → Pat
bound b i x = pick (eqb x IGNORED) ignore (pick (eqb (kind b i x) FUNCTION) (params_pattern (params_of (fun_of b i x))) (pattern_of b i x))

-- what the first n entries stand for, the newest first
unfoldable pub newest : List ℕ → List ℕ → List ℕ → ℕ → List Pat
newest b i bs zero = []
newest b i bs (suc n) = bound b i (get_or bs n 0) ∷ newest b i bs n

-- the path to the name x in the first k of n entries, where the others are newer
abbrev pub lookup_below : List ℕ → List ℕ → List ℕ → ℕ → ℕ → ℕ → Option (List Side)
lookup_below b i bs n k x = lookup_from (n - k) x (newest b i bs k)

abbrev pub scope_of : List ℕ → List ℕ → ScopeBindings → List Pat
scope_of b i s = newest b i s.bindings s.count

-- what may be bound
pub data Binds (b i : List ℕ) (x : ℕ) : Type 0 where
  ignored : x ≡ IGNORED → Binds b i x
  of_pattern : Stands b i x PATTERN → Binds b i x
  of_function : Stands b i x FUNCTION → Binds b i x

-- document 01, Refusal 12: a scope has from 1 to 256 bindings, the root counted
pub record ScopeStands (b i : List ℕ) (s : ScopeBindings) : Type 0 where
  pub some : 0 < s.count
  pub most : s.count ≤ 256
  pub row : length s.bindings ≡ 256
  pub each : (j : ℕ) → j < s.count → Binds b i (get_or s.bindings j 0)

-- a scope of one binding, the root x; a scope s with one more, x
pub record Roots (x : ℕ) (s : ScopeBindings) : Type 0 where
  pub row : s.bindings ≡ set (replicate 256 IGNORED) 0 x
  pub count : s.count ≡ 1

pub record Inserts (s : ScopeBindings) (x : ℕ) (s' : ScopeBindings) : Type 0 where
  pub row : s'.bindings ≡ set s.bindings s.count x
  pub count : s'.count ≡ s.count + 1

-- of what a search is for: its book and its name
module _ (q : Search) where
  -- in its book a scope stands; a record may be bound
  abbrev pub ScopeFor : ScopeBindings → Type 0
  ScopeFor s = ScopeStands q.book.now.bytes q.book.now.index s

  abbrev pub BindsFor : ℕ → Type 0
  BindsFor x = Binds q.book.now.bytes q.book.now.index x

  -- the path to its name in the entry x, in a scope, and in the first k bindings of a scope, where the others are newer
  abbrev pub find_bound : ℕ → Option (List Side)
  find_bound x = find q.name (bound q.book.now.bytes q.book.now.index x)

  abbrev pub lookup_for : ScopeBindings → Option (List Side)
  lookup_for s = lookup q.name (scope_of q.book.now.bytes q.book.now.index s)

  abbrev pub lookup_first : ScopeBindings → ℕ → Option (List Side)
  lookup_first s k = lookup_below q.book.now.bytes q.book.now.index s.bindings s.count k q.name
