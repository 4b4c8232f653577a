-- The pattern of a record by its mark, and a function's parameters: where a name is found in them, and the fields that a search reads.
-- Assumes nothing.
use Prim.Native.Nat.{ℕ, zero, suc, ◌+◌, ◌*◌, ◌≤◌, ◌<◌}
use mathlib.Core.Bool.{Bool, true, false}
use mathlib.Core.List.{List}
use mathlib.Core.Option.{none}
use mathlib.Core.Path.{◌≡◌, refl, sym, ap, ◌∙◌}
use native.Mathlib.Omega.{arith}
use borrow.Author.Tests.{eqb-true, eqb-false, ne_eqb}
use lib.Dec.{T, eqb, eqb→eq}
use Rattle.laws.specs.Table.{pick}
use Rattle.book.specs.Format.{PATTERN, FUNCTION, PI, PN, PT, FN}
use Rattle.book.specs.Index.{mark, field, Lies}
use Rattle.book.specs.Stands.{Stands}
use Rattle.book.specs.Tree.{Pat, name, ignore, pat_row, more_pats, Tree, as_pattern, as_fun, group, pattern_of, fun_of, tree, params_at}
use Rattle.book.proofs.Standing.{stands_mark, stands_tree, head_lies, head_most, each_lies, each_stands, each_below, function_mark}
use Rattle.named.specs.Combinators.{iden}
use Rattle.std.specs.Prelude.{Result}
use Rattle.book.specs.declared.fault.Refusal.{Refusal}
use Rattle.named.specs.Stores.{Done}
use Rattle.named.specs.Table.{Table}
use Rattle.pattern.specs.Find.{find, called, params_pattern, params_of}
use Rattle.pattern.specs.Seeks.{Found}
use Rattle.pattern.proofs.Selectors.{found_here}
use Rattle.pattern.proofs.Passes.{row_at, left, left_all, name_is, name_not}

-- a function's parameters as a row of names
called_row : (x : ℕ → ℕ) (a : ℕ → Tree) (h m : ℕ) → called (params_at x a h m) ≡ row_at 2 (λ j. name (x j)) h m
unfolding called group
called_row x a h zero = refl
called_row x a h (suc m) = ap (more_pats (name (x h))) (called_row x a (h + 2) m)

-- a record's pattern by its mark
module _ {b i : List ℕ} {p : ℕ} (s : Stands b i p PATTERN) where
  pub finds_name : (x : ℕ) → mark b i p ≡ PI → find x (pattern_of b i p) ≡ find x (name (field b i p 0))
  unfolding as_pattern
  finds_name x e = ap (λ t. find x (as_pattern t)) (stands_tree s PI e)

  pub name_lies : (m : ℕ) → m ≡ mark b i p → m ≡ PI → Lies b i p 0
  name_lies m is e = head_lies s PI (sym is ∙ e) 0 tt

  -- what is neither a row nor a name ignores
  pub ignores : (mark b i p ≡ PT → ⊥) → (mark b i p ≡ PI → ⊥) → mark b i p ≡ PN
  ignores row one =
      let t : T (pick (eqb (mark b i p) PT) true (pick (eqb (mark b i p) PI) true (eqb (mark b i p) PN))) = stands_mark s (λ m. pick (eqb m PT) true (pick (eqb m PI) true (eqb m PN))) tt tt in
      eqb→eq (mark b i p) PN (rw (ne_eqb (mark b i p) PT row, ne_eqb (mark b i p) PI one) at t)

  -- what is the same for every name and where nothing is named, is so of every pattern but a row
  pub but_row : {A : Type 0} (f : Pat → A) (a : A) → ((x : ℕ) → f (name x) ≡ a) → f ignore ≡ a → (mark b i p ≡ PT → ⊥) → f (pattern_of b i p) ≡ a
  unfolding as_pattern
  but_row f a named blank row = go (eqb (mark b i p) PI) refl
    where
      go : (t : Bool) → eqb (mark b i p) PI ≡ t → f (pattern_of b i p) ≡ a
      go true e = ap (λ u. f (as_pattern u)) (stands_tree s PI (eqb-true (mark b i p) PI e)) ∙ named (field b i p 0)
      go false e = ap (λ u. f (as_pattern u)) (stands_tree s PN (ignores row (eqb-false (mark b i p) PI e))) ∙ blank

  pub finds_row : (x n : ℕ) → mark b i p ≡ PT → n ≡ field b i p 0 → find x (pattern_of b i p) ≡ left x 1 (λ j. pattern_of b i (field b i p j)) 1 n 0
  unfolding as_pattern
  finds_row x n e z = ap (λ t. find x (as_pattern t)) (stands_tree s PT e) ∙ rw z (left_all x 1 (λ j. pattern_of b i (field b i p j)) 1 (field b i p 0))

  -- the count of a row, and its elements
  pub row_count : mark b i p ≡ PT → Lies b i p 0
  row_count e = head_lies s PT e 0 tt

  module _ (n k j : ℕ) (e : mark b i p ≡ PT) (z : n ≡ field b i p 0) (h : k < n) (y : j ≡ 1 + k) where
    pub row_lies : Lies b i p j
    row_lies = each_lies s PT e j k 0 (omega arith) (rw z at h) tt

    pub row_part : (u : ℕ) → u ≡ field b i p j → Stands b i u PATTERN × (u < p)
    row_part u f = (rw f (each_stands s PT e j k 0 (omega arith) (rw z at h) tt tt), rw f (each_below s PT e j k 0 (omega arith) (rw z at h) tt tt))

  pub row_most : (n : ℕ) → mark b i p ≡ PT → n ≡ field b i p 0 → n ≤ 256
  row_most n e z = rw z (head_most s PT e 0 tt refl)

  pub finds_none : (x : ℕ) → (mark b i p ≡ PT → ⊥) → (mark b i p ≡ PI → ⊥) → find x (pattern_of b i p) ≡ none
  unfolding as_pattern find
  finds_none x row one = ap (λ u. find x (as_pattern u)) (stands_tree s PN (ignores row one))

  -- so a search in it that enters no row: the name is found, or is missing
  module _ (m : ℕ) (is : m ≡ mark b i p) where
    pub name_found : {x r : ℕ} {d d' : Table} {s : Result ℕ Refusal} (y : ℕ) → m ≡ PI → y ≡ field b i p 0 → y ≡ x → Done d (iden r) s d' → Found r d (find x (pattern_of b i p)) s d'
    name_found {x} y e f o d = found_here (finds_name x (sym is ∙ e) ∙ name_is x _ y f o) d

    pub name_missing : {x : ℕ} (y : ℕ) → m ≡ PI → y ≡ field b i p 0 → (y ≡ x → ⊥) → find x (pattern_of b i p) ≡ none
    name_missing {x} y e f o = finds_name x (sym is ∙ e) ∙ name_not x _ y f o

    pub all_missing : (x : ℕ) → (m ≡ PT → ⊥) → (m ≡ PI → ⊥) → find x (pattern_of b i p) ≡ none
    all_missing x f g = finds_none x (λ e. f (is ∙ e)) (λ e. g (is ∙ e))

-- a function's parameters
module _ {b i : List ℕ} {f : ℕ} (s : Stands b i f FUNCTION) where
  pub params_count : Lies b i f 1
  params_count = head_lies s FN (function_mark s) 1 tt

  pub params_most : (n : ℕ) → n ≡ field b i f 1 → n ≤ 256
  params_most n z = rw z (head_most s FN (function_mark s) 1 tt refl)

  pub params_lie : (n k j : ℕ) → n ≡ field b i f 1 → k < n → j ≡ 2 + 2 * k → Lies b i f j
  params_lie n k j z h y = each_lies s FN (function_mark s) j k 0 (omega arith) (rw z at h) tt

  pub finds_params : (x n : ℕ) → n ≡ field b i f 1 → find x (params_pattern (params_of (fun_of b i f))) ≡ left x 2 (λ j. name (field b i f j)) 2 n 0
  unfolding as_fun params_of
  finds_params x n z =
      ap (λ t. find x (params_pattern (params_of (as_fun t)))) (stands_tree s FN (function_mark s))
      ∙ ap (λ ps. find x (pat_row ps)) (called_row (field b i f) (λ k. tree b i (field b i f k)) 2 (field b i f 1))
      ∙ rw z (left_all x 2 (λ j. name (field b i f j)) 2 (field b i f 1))
