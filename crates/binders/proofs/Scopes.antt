-- Laws of a name's type in a scope: in a function's parameters, in the live bindings from the newest on, and in the base.
-- Assumes nothing.
use Prim.Native.Nat.{ℕ, zero, suc, ◌+◌, ◌*◌, ◌-◌, ◌≤◌, ◌<◌}
use mathlib.Core.List.{List, []}
use mathlib.Core.Bool.{true, false}
use mathlib.Core.Option.{none, some}
use mathlib.Core.Path.{◌≡◌, refl, sym, ap, ◌∙◌}
use native.Mathlib.Omega.{arith}
use lib.ListN.{length, get_or}
use Rattle.simplicity.specs.Types.{Ty, one}
use Rattle.book.specs.Format.{TYPE, FUNCTION, FN}
use Rattle.book.specs.Index.{field, Lies}
use Rattle.book.specs.Stands.{Stands}
use Rattle.book.specs.Tree.{Pat, name, Fun, fun, Tree, as_type, as_fun, group, params_at, type_of, pattern_of, fun_of, tree}
use Rattle.book.proofs.Standing.{stands_tree, each_lies, each_stands, function_mark}
use Rattle.pattern.specs.Find.{find, params_pattern, params_of}
use Rattle.pattern.proofs.Passes.{name_is, name_not}
use Rattle.pattern.proofs.Records.{finds_params}
use Rattle.shapes.specs.Shapes.{products, leads, place_of, row_type, param_types}
use Rattle.shapes.specs.Views.{Gives, nowhere, record_of}
use Rattle.std.specs.Prelude.{Option as Answer, Some, None, is_some}
use Rattle.laws.specs.Table.{true_false}
use Rattle.shapes.proofs.Places.{places_row}
use Rattle.binders.specs.Binders.{type_for, seek, scope_in}
use Rattle.binders.specs.declared.Binding.{Binding as Entry}
use Rattle.binders.specs.Memos.{Seen, absent, present, entry_at, scope_of, base_of, Newest, found, passed}
use Rattle.binders.proofs.Sights.{Skips, seen_none, skips_all, skips_next, skips_found}

-- parameters have as many types, each what its second field names
types_length : (x : ℕ → ℕ) (a : ℕ → Tree) (h m : ℕ) → length (param_types (params_at x a h m)) ≡ m
unfolding param_types group
types_length x a h zero = refl
types_length x a h (suc m) = ap suc (types_length x a (h + 2) m)

types_at_lem : (x : ℕ → ℕ) (a : ℕ → Tree) (h m k : ℕ) → k < m → get_or (param_types (params_at x a h m)) k one ≡ as_type (a (h + 2 * k + 1))
unfolding param_types group
types_at_lem x a h zero k o = absurd (omega arith)
types_at_lem x a h (suc m) zero o = let z : h + 2 * 0 + 1 ≡ h + 1 = omega arith in rw z
types_at_lem x a h (suc m) (suc k) o =
    let z : h + 2 * suc k + 1 ≡ h + 2 + 2 * k + 1 = omega arith in
    rw z (types_at_lem x a (h + 2) m k (omega arith))

-- what a search in the one binding of a scope found
seen_gives : {b i : List ℕ} {x : ℕ} {p : Pat} {t : Ty} {s : Answer ℕ} → Seen b i x p t s → Gives b i (seek (find x p) t none) s
unfolding seek
seen_gives (absent e) = nowhere (rw e)
seen_gives (present ks h e l) = record_of h (rw e l)

-- a function's scope
in_scope : (x : ℕ) (f : Fun) → type_for x (scope_in f) ≡ seek (find x (params_pattern (params_of f))) (row_type (param_types (params_of f))) none
unfolding type_for scope_in params_of
in_scope x (fun r t ps e) = refl

module _ {b i : List ℕ} {f : ℕ} (s : Stands b i f FUNCTION) where
  -- a parameter's type: its field, its record, and its place
  module _ (n k l : ℕ) (z : n ≡ field b i f 1) (o : k < n) (y : l ≡ 3 + 2 * k) where
    pub type_lies : Lies b i f l
    type_lies = each_lies s FN (function_mark s) l k 1 (omega arith) (rw z at o) tt

    type_stands : Stands b i (field b i f l) TYPE
    type_stands = each_stands s FN (function_mark s) l k 1 (omega arith) (rw z at o) tt tt

    type_place : place_of products n k (row_type (param_types (params_of (fun_of b i f)))) ≡ some (type_of b i (field b i f l))
    unfolding as_fun params_of
    type_place =
        let ts : List Ty = param_types (params_at (field b i f) (λ q. tree b i (field b i f q)) 2 n) in
        let many : length ts ≡ n = types_length (field b i f) (λ q. tree b i (field b i f q)) 2 n in
        let at_l : 2 + 2 * k + 1 ≡ l = omega arith in
        let last : get_or ts k one ≡ type_of b i (field b i f l) = rw at_l at (types_at_lem (field b i f) (λ q. tree b i (field b i f q)) 2 n k o) in
        let here : place_of products n k (row_type ts) ≡ some (type_of b i (field b i f l)) = rw (many, last) at (places_row ts k (rw many o)) in
        ap (λ t. place_of products n k (row_type (param_types (params_of (as_fun t))))) (stands_tree s FN (function_mark s)) ∙ rw (← z) here

  -- a search in the parameters: none was looked at yet
  pub params_none : (x n : ℕ) → n ≡ field b i f 1 → Skips x (params_pattern (params_of (fun_of b i f))) 2 (λ j. name (field b i f j)) 2 n 0
  params_none x n z = record { rest = finds_params s x n z }

  module _ {x n k : ℕ} (w : Skips x (params_pattern (params_of (fun_of b i f))) 2 (λ j. name (field b i f j)) 2 n k) where
    -- none has the name
    pub params_all : n ≤ k → Gives b i (type_for x (scope_in (fun_of b i f))) None
    params_all o = rw (in_scope x (fun_of b i f)) (seen_gives (absent (skips_all w o)))

    module _ (j y : ℕ) (z : n ≡ field b i f 1) (o : k < n) (e : j ≡ 2 + 2 * k) (g : y ≡ field b i f j) where
      -- the next has another name
      pub params_next : (u : ℕ) → u ≡ k + 1 → (y ≡ x → ⊥) → Skips x (params_pattern (params_of (fun_of b i f))) 2 (λ j. name (field b i f j)) 2 n u
      params_next u q h = skips_next w j o (omega arith) u q (name_not x _ y g h)

      -- the next has the name
      pub params_found : (l u : ℕ) → y ≡ x → l ≡ 3 + 2 * k → u ≡ field b i f l → Gives b i (type_for x (scope_in (fun_of b i f))) (Some u)
      unfolding leads
      params_found l u h v q =
          let stands : Stands b i u TYPE = rw q (type_stands n k l z o v) in
          rw (in_scope x (fun_of b i f)) (seen_gives (skips_found w j o (omega arith) (rw q (type_place n k l z o v)) (present [] stands (name_is x _ y g h) refl) refl))

-- a search for x in n live bindings: those from `at` on have not the name
pub record Older (b i : List ℕ) (bs : List Entry) (n : ℕ) (base : Answer ℕ) (x at : ℕ) : Type 0 where
  pub low : at ≤ n
  pub rest : type_for x (scope_of b i bs n base) ≡ type_for x (scope_of b i bs at base)

-- no binding was searched yet
pub older_none : (b i : List ℕ) (bs : List Entry) (n : ℕ) (base : Answer ℕ) (x : ℕ) → Older b i bs n base x n
older_none b i bs n base x = record { low = omega arith; rest = refl }

module _ {b i : List ℕ} {bs : List Entry} {n : ℕ} {base : Answer ℕ} {x at : ℕ} (w : Older b i bs n base x at) where
  -- all have not the name
  pub older_all : at ≤ 0 → Newest b i bs n base x None
  unfolding scope_of
  older_all o = let z : at ≡ 0 = omega arith in passed (w.rest ∙ rw z)

  -- the next binding
  module _ (u : ℕ) (o : 0 < at) (e : u ≡ at - 1) where
    older_here : type_for x (scope_of b i bs n base) ≡ seek (find x (pattern_of b i (entry_at bs u).pattern)) (type_of b i (entry_at bs u).of) (type_for x (scope_of b i bs u base))
    unfolding scope_of type_for
    older_here = let z : at ≡ suc u = omega arith in w.rest ∙ ap (λ k. type_for x (scope_of b i bs k base)) z

    pub older_next : {s : Answer ℕ} → Seen b i x (pattern_of b i (entry_at bs u).pattern) (type_of b i (entry_at bs u).of) s → is_some s ≡ false → Older b i bs n base x u
    unfolding seek
    older_next h z = record { low = omega (arith, w.low); rest = older_here ∙ rw (seen_none h z) }

    pub older_found : {s : Answer ℕ} → Seen b i x (pattern_of b i (entry_at bs u).pattern) (type_of b i (entry_at bs u).of) s → is_some s ≡ true → Newest b i bs n base x s
    unfolding seek
    older_found (absent f) there = absurd (true_false (sym there))
    older_found (present ks h f l) there = found h (older_here ∙ rw f l)

-- what the live bindings have of a name, and then the base: none, or a function
module _ {b i : List ℕ} {bs : List Entry} {n x : ℕ} {base : Answer ℕ} where
  pub newest_found : {s : Answer ℕ} → Newest b i bs n base x s → is_some s ≡ true → Gives b i (type_for x (scope_of b i bs n base)) s
  newest_found (found h e) there = record_of h e
  newest_found (passed e) there = absurd (true_false (sym there))

  newest_passed : {s : Answer ℕ} → Newest b i bs n base x s → is_some s ≡ false → type_for x (scope_of b i bs n base) ≡ type_for x (base_of b i base)
  newest_passed (found h e) z = absurd (true_false z)
  newest_passed (passed e) z = e

  pub newest_root : {s : Answer ℕ} → Newest b i bs n base x s → is_some s ≡ false → base ≡ None → Gives b i (type_for x (scope_of b i bs n base)) None
  unfolding type_for find seek
  newest_root h z o = nowhere (newest_passed h z ∙ rw o)

  pub newest_params : {f : ℕ} {s r : Answer ℕ} → Newest b i bs n base x s → is_some s ≡ false → base ≡ Some f → Gives b i (type_for x (scope_in (fun_of b i f))) r → Gives b i (type_for x (scope_of b i bs n base)) r
  newest_params h z o g = rw (newest_passed h z, o) g
