-- The typing of trees: what a book that CHECK passes keeps, and what the meaning of its lowering rests on.
-- Assumes nothing.
use Rattle.std.specs.Prelude.{ℕ, zero, suc, ◌-◌, ◌<◌, true, false, List, ◌∷◌, ◌≡◌, Ok}
use Rattle.std.proofs.Math.Option.{some}
use Rattle.simplicity.specs.Types.{Ty, one}
use Rattle.simplicity.specs.Values.{Of}
use Rattle.book.specs.Format.{VALUE, FUNCTION}
use Rattle.book.specs.Index.{kind}
use Rattle.book.specs.Read.{read_of, index_of}
use Rattle.book.specs.Tree.{Pat, Expr, constant, witness, variable, tuple, list, in_left, in_right, variant, block, match, match_enum, jet, unwrap_left, unwrap_right, debug, assert, panic, is_none, cast, call, list_fold, array_fold, for_while, hash, no_expr, Exprs, no_exprs, more_exprs, Arms, no_arms, more_arms, Parts, no_parts, more_parts, Stmts, assign, does, end, no_end, Fun, fun, expr_of, fun_of}
use Rattle.shapes.specs.Shapes.{type_is, has_places, whole}
use Rattle.shapes.specs.Wholes.{value_agrees}
use Rattle.binders.specs.Binders.{fits, names, param_names, twice, Binding, binding, root_scope, scope_in, type_for}
use Rattle.typing.specs.Check.{variant_type, arm_count}

-- document 01, Refusals 13 and 14: a pattern may be bound to a type: it fits, and has no name twice
pub record Bindable (p : Pat) (t : Ty) : Type 0 where
  pub fit : fits p t ≡ true
  pub once : twice (names p) ≡ false

-- document 01, CHECK and the meanings: an expression is typed in a scope if its parts are, and its declared type is the one that they give (`whole`); a constant's value is of its own declared type; a variable has the type that its name has in the scope; what is called is typed too
unfoldable mutual
  pub Typed : List Binding → Expr → Type 0
  Typed sc (constant r t v u w) = (Of w u) × (whole (constant r t v u w) ≡ true)
  Typed sc (witness r t k x) = Unit {0}
  Typed sc (variable r t x) = type_for x sc ≡ some t
  Typed sc (tuple r t es) = (AllTyped sc es) × (whole (tuple r t es) ≡ true)
  Typed sc (list r t n es) = (AllTyped sc es) × (whole (list r t n es) ≡ true)
  Typed sc (in_left r t e) = (Typed sc e) × (whole (in_left r t e) ≡ true)
  Typed sc (in_right r t e) = (Typed sc e) × (whole (in_right r t e) ≡ true)
  Typed sc (variant r t k n es) = (AllTyped sc es) × (whole (variant r t k n es) ≡ true)
  Typed sc (block r t ss) = (RunTyped sc ss) × (whole (block r t ss) ≡ true)
  Typed sc (match r t e p l q g) =
      (has_places 2 (type_is e) ≡ true)
      × (Bindable p (variant_type 2 0 (type_is e))) × (Typed (binding p (variant_type 2 0 (type_is e)) ∷ sc) l)
      × (Bindable q (variant_type 2 1 (type_is e))) × (Typed (binding q (variant_type 2 1 (type_is e)) ∷ sc) g)
      × (Typed sc e) × (whole (match r t e p l q g) ≡ true)
  Typed sc (match_enum r t e cs) = (has_places (arm_count cs) (type_is e) ≡ true) × (ArmsTyped (arm_count cs) zero (type_is e) sc cs) × (Typed sc e) × (whole (match_enum r t e cs) ≡ true)
  Typed sc (jet r t s j es) = (AllTyped sc es) × (whole (jet r t s j es) ≡ true)
  Typed sc (unwrap_left r t s e) = (Typed sc e) × (whole (unwrap_left r t s e) ≡ true)
  Typed sc (unwrap_right r t s e) = (Typed sc e) × (whole (unwrap_right r t s e) ≡ true)
  Typed sc (debug r t s e) = (Typed sc e) × (whole (debug r t s e) ≡ true)
  Typed sc (assert r t s e) = (Typed sc e) × (whole (assert r t s e) ≡ true)
  Typed sc (panic r t s) = Unit {0}
  Typed sc (is_none r t e) = (Typed sc e) × (whole (is_none r t e) ≡ true)
  Typed sc (cast r t e) = (Typed sc e) × (whole (cast r t e) ≡ true)
  Typed sc (call r t f es) = (AllTyped sc es) × (FunTyped f) × (whole (call r t f es) ≡ true)
  Typed sc (list_fold r t f n e a) = (Typed sc e) × (Typed sc a) × (FunTyped f) × (whole (list_fold r t f n e a) ≡ true)
  Typed sc (array_fold r t f n e a) = (Typed sc e) × (Typed sc a) × (FunTyped f) × (whole (array_fold r t f n e a) ≡ true)
  Typed sc (for_while r t f w a x) = (Typed sc a) × (Typed sc x) × (FunTyped f) × (whole (for_while r t f w a x) ≡ true)
  Typed sc (hash r t s ps) = (WordsTyped sc ps) × (whole (hash r t s ps) ≡ true)
  Typed sc no_expr = ⊥

  pub AllTyped : List Binding → Exprs → Type 0
  AllTyped sc no_exprs = Unit {0}
  AllTyped sc (more_exprs e es) = (Typed sc e) × (AllTyped sc es)

  pub WordsTyped : List Binding → Parts → Type 0
  WordsTyped sc no_parts = Unit {0}
  WordsTyped sc (more_parts w e ps) = (Typed sc e) × (WordsTyped sc ps)

  -- the arms from k of n on, of a match on the type t
  pub ArmsTyped : ℕ → ℕ → Ty → List Binding → Arms → Type 0
  ArmsTyped n k t sc no_arms = Unit {0}
  ArmsTyped n k t sc (more_arms p e cs) = (Bindable p (variant_type n k t)) × (Typed (binding p (variant_type n k t) ∷ sc) e) × (ArmsTyped n (suc k) t sc cs)

  -- a block's statements and its end
  pub RunTyped : List Binding → Stmts → Type 0
  RunTyped sc (assign s p e rest) = (Typed sc e) × (Bindable p (type_is e)) × (RunTyped (binding p (type_is e) ∷ sc) rest)
  RunTyped sc (does s e rest) = (Typed sc e) × (type_is e ≡ one) × (RunTyped sc rest)
  RunTyped sc (end e) = Typed sc e
  RunTyped sc no_end = Unit {0}

  -- document 01, CHECK and the meanings: a function: no parameter's name twice, its body typed in a scope of its parameters only, of the type that it gives
  pub FunTyped : Fun → Type 0
  FunTyped (fun r t ps e) = (twice (param_names ps) ≡ false) × (Typed (scope_in (fun r t ps e)) e) × (type_is e ≡ t)

-- document 01, CHECK and the meanings: a book of n records is typed: READ accepts it, each value's declared type is the one that its parts give, each function is typed, called or not, and the root is typed where the input is all that is bound
pub record TypedBook (b : List ℕ) (n : ℕ) : Type 0 where
  pub reads : read_of b ≡ Ok n
  pub values : (r : ℕ) → r < n → kind b (index_of b) r ≡ VALUE → value_agrees b (index_of b) r ≡ true
  pub functions : (r : ℕ) → r < n → kind b (index_of b) r ≡ FUNCTION → FunTyped (fun_of b (index_of b) r)
  pub root : Typed root_scope (expr_of b (index_of b) (n - 1))
