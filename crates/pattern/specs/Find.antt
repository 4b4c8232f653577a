-- A name's place in a pattern, and in a function's parameter tuple.
-- Assumes nothing.
use Rattle.std.specs.Prelude.{ℕ, zero, suc, List, [], ◌∷◌, ◌++◌, eqb}
use Rattle.std.proofs.Math.Option.{Option, some, none}
use Rattle.laws.specs.Table.{pick}
use Rattle.array.specs.Path.{Side, path}
use Rattle.book.specs.Tree.{Pat, name, ignore, pat_row, Pats, no_pats, more_pats, Param, Fun, fun}

-- how many patterns a row has
unfoldable pub size : Pats → ℕ
size no_pats = zero
size (more_pats p ps) = suc (size ps)

-- the path found in element k of n, from the whole row on; where there is none, what the rest of the row has
unfoldable pub within : ℕ → ℕ → Option (List Side) → Option (List Side) → Option (List Side)
within n k (some ks) rest = some (path n k ++ ks)
within n k none rest = rest

-- document 01, Scope: within one pattern a name belongs to its first place from the left
unfoldable mutual
  pub find : ℕ → Pat → Option (List Side)
  find x (name y) = pick (eqb y x) (some []) none
  find x ignore = none
  find x (pat_row ps) = find_from x (size ps) zero ps

  -- in a row of n patterns, those from element k on
  pub find_from : ℕ → ℕ → ℕ → Pats → Option (List Side)
  find_from x n k no_pats = none
  find_from x n k (more_pats p ps) = within n k (find x p) (find_from x n (suc k) ps)

-- document 01, Scope: a function's parameter tuple is a row of names
unfoldable pub called : List Param → Pats
called [] = no_pats
called (p ∷ ps) = more_pats (name p.called) (called ps)

abbrev pub params_pattern : List Param → Pat
params_pattern ps = pat_row (called ps)

-- a function's parameters
unfoldable pub params_of : Fun → List Param
params_of (fun r t ps e) = ps
