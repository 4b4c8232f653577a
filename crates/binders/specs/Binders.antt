-- Patterns beside types: which pattern fits, what type a name has, and which names stand twice.
-- Assumes nothing.
use Rattle.std.specs.Prelude.{ℕ, zero, suc, Bool, true, false, List, [], ◌∷◌, ◌++◌, eqb}
use Rattle.std.proofs.Math.Option.{Option, some, none}
use Rattle.laws.specs.Table.{pick, both, among}
use Rattle.array.specs.Path.{Side}
use Rattle.simplicity.specs.Types.{Ty, one, same}
use Rattle.book.specs.Tree.{Pat, name, ignore, pat_row, Pats, no_pats, more_pats, Param, Fun, fun}
use Rattle.pattern.specs.Find.{size, find, params_pattern}
use Rattle.shapes.specs.Shapes.{products, leads, place_of, row_type, param_types}

-- document 01, Refusals by number: a pattern fits a type if each element of a row fits the type at its place; an empty row fits unit only
unfoldable mutual
  pub fits : Pat → Ty → Bool
  fits (name x) t = true
  fits ignore t = true
  fits (pat_row ps) t = pick (eqb (size ps) 0) (same t one) (fits_from (size ps) zero ps t)

  -- in a row of n patterns, those from element k on
  pub fits_from : ℕ → ℕ → Pats → Ty → Bool
  fits_from n k no_pats t = true
  fits_from n k (more_pats p ps) t = both (elim (place_of products n k t) [ some s ↦ fits p s | none ↦ false ]) (fits_from n (suc k) ps t)

-- document 01, Refusal 14: the names of a pattern, from the left; of a parameter list; one that stands twice
unfoldable mutual
  pub names : Pat → List ℕ
  names (name x) = x ∷ []
  names ignore = []
  names (pat_row ps) = names_row ps

  pub names_row : Pats → List ℕ
  names_row no_pats = []
  names_row (more_pats p ps) = names p ++ names_row ps

unfoldable pub param_names : List Param → List ℕ
param_names [] = []
param_names (p ∷ ps) = p.called ∷ param_names ps

unfoldable pub twice : List ℕ → Bool
twice [] = false
twice (x ∷ xs) = pick (among xs x) true (twice xs)

-- a binding: a pattern, and the type that it takes apart. A scope is its bindings, the newest first
pub record Binding : Type 0 where
  pub pattern : Pat
  pub type : Ty

abbrev pub binding : Pat → Ty → Binding
binding p t = record { pattern = p; type = t }

-- document 01, Scope: the root binding is the input, which has no name and is unit; a function's is its parameter tuple
abbrev pub root_scope : List Binding
root_scope = binding ignore one ∷ []

unfoldable pub scope_in : Fun → List Binding
scope_in (fun r t ps e) = binding (params_pattern ps) (row_type (param_types ps)) ∷ []

-- the type at a name's place; where the pattern has not the name, what the older bindings have
unfoldable pub seek : Option (List Side) → Ty → Option Ty → Option Ty
seek (some ks) t rest = leads products ks t
seek none t rest = rest

-- document 01, Scope: a name belongs to its newest binding, and there to its first place from the left
unfoldable pub type_for : ℕ → List Binding → Option Ty
type_for x [] = none
type_for x (d ∷ sc) = seek (find x d.pattern) d.type (type_for x sc)
