-- CHECK of trees: the order in which a tree is judged, and the refusal at the first fault.
-- Assumes nothing.
use Rattle.std.specs.Prelude.{ℕ, zero, suc, Bool, not, List, ◌∷◌, Result, Ok, Err}
use Rattle.std.specs.Result.{result_and}
use Rattle.std.proofs.Math.Option.{Option, some, none}
use Rattle.laws.specs.Table.{pick}
use Rattle.simplicity.specs.Types.{Ty, one, same}
use Rattle.book.specs.Faults.{refusal}
use Rattle.book.specs.declared.fault.Refusal.{Refusal}
use Rattle.book.specs.declared.fault.Fault.{Fault}
use Rattle.book.specs.declared.fault.Fault.TheVariants as faults
use Rattle.book.specs.Tree.{Pat, Expr, constant, witness, variable, tuple, list, in_left, in_right, variant, block, match, match_enum, jet, unwrap_left, unwrap_right, debug, assert, panic, is_none, cast, call, list_fold, array_fold, for_while, hash, no_expr, Exprs, no_exprs, more_exprs, Arms, no_arms, more_arms, Parts, no_parts, more_parts, Stmts, assign, does, end, no_end, Fun, fun}
use Rattle.shapes.specs.Shapes.{type_is, sums, place_of, has_places, whole}
use Rattle.binders.specs.Binders.{fits, names, param_names, twice, Binding, binding, scope_in, type_for}

-- what a judgement comes to: nothing, or the first fault, so that what follows is judged where what precedes has passed
abbrev pub Checked : Type 0
Checked = Result (Unit {0}) Refusal

-- a rule that holds, or a refusal at record r
abbrev pub hold : Bool → Fault → ℕ → Checked
hold t f r = pick t (Ok tt) (Err (refusal f r))

-- document 01, Refusal 13: another type or arity
abbrev pub agree : Bool → ℕ → Checked
agree t r = hold t faults.Ty r

-- document 01, Refusals by number: a pattern is judged where its binding is made: TYPE unless it fits, and NAME only if it does
unfoldable pub binds : ℕ → Pat → Ty → Checked
binds r p t = result_and (agree (fits p t) r) (hold (not (twice (names p))) faults.Name r)

-- document 01, Refusals 10 and 13: a variable is in scope, and of its declared type
unfoldable pub known : ℕ → Ty → Option Ty → Checked
known r t (some u) = agree (same t u) r
known r t none = Err (refusal faults.Undefined r)

-- the type at variant k of n
unfoldable pub there : Option Ty → Ty
there (some t) = t
there none = one

abbrev pub variant_type : ℕ → ℕ → Ty → Ty
variant_type n k t = there (place_of sums n k t)

-- how many arms there are
unfoldable pub arm_count : Arms → ℕ
arm_count no_arms = zero
arm_count (more_arms p e cs) = suc (arm_count cs)

-- document 01, Refusals by number: parts in lowering order before the whole, in a scope whose newest binding comes first
unfoldable mutual
  pub check : Expr → List Binding → Checked
  check (constant r t v u w) sc = agree (whole (constant r t v u w)) r
  check (witness r t k x) sc = Ok tt
  check (variable r t x) sc = known r t (type_for x sc)
  check (tuple r t es) sc = result_and (checks es sc) (agree (whole (tuple r t es)) r)
  check (list r t n es) sc = result_and (checks es sc) (agree (whole (list r t n es)) r)
  check (in_left r t e) sc = result_and (check e sc) (agree (whole (in_left r t e)) r)
  check (in_right r t e) sc = result_and (check e sc) (agree (whole (in_right r t e)) r)
  check (variant r t k n es) sc = result_and (checks es sc) (agree (whole (variant r t k n es)) r)
  check (block r t ss) sc = result_and (statements ss sc) (agree (whole (block r t ss)) r)
  -- TYPE before the first arm if the scrutinee's type lacks those arms; the arms come before the scrutinee, as they are lowered
  check (match r t e p l q g) sc =
      result_and (agree (has_places 2 (type_is e)) r)
      (result_and (result_and (binds r p (variant_type 2 0 (type_is e))) (check l (binding p (variant_type 2 0 (type_is e)) ∷ sc)))
      (result_and (result_and (binds r q (variant_type 2 1 (type_is e))) (check g (binding q (variant_type 2 1 (type_is e)) ∷ sc)))
      (result_and (check e sc) (agree (whole (match r t e p l q g)) r))))
  check (match_enum r t e cs) sc =
      result_and (agree (has_places (arm_count cs) (type_is e)) r)
      (result_and (arms r (arm_count cs) zero (type_is e) cs sc)
      (result_and (check e sc) (agree (whole (match_enum r t e cs)) r)))
  check (jet r t s j es) sc = result_and (checks es sc) (agree (whole (jet r t s j es)) r)
  check (unwrap_left r t s e) sc = result_and (check e sc) (agree (whole (unwrap_left r t s e)) r)
  check (unwrap_right r t s e) sc = result_and (check e sc) (agree (whole (unwrap_right r t s e)) r)
  check (debug r t s e) sc = result_and (check e sc) (agree (whole (debug r t s e)) r)
  check (assert r t s e) sc = result_and (check e sc) (agree (whole (assert r t s e)) r)
  check (panic r t s) sc = Ok tt
  check (is_none r t e) sc = result_and (check e sc) (agree (whole (is_none r t e)) r)
  check (cast r t e) sc = result_and (check e sc) (agree (whole (cast r t e)) r)
  -- a function is judged once, where it stands, and not where it is called
  check (call r t f es) sc = result_and (checks es sc) (agree (whole (call r t f es)) r)
  check (list_fold r t f n e a) sc = result_and (result_and (check e sc) (check a sc)) (agree (whole (list_fold r t f n e a)) r)
  check (array_fold r t f n e a) sc = result_and (result_and (check e sc) (check a sc)) (agree (whole (array_fold r t f n e a)) r)
  check (for_while r t f w a x) sc = result_and (result_and (check a sc) (check x sc)) (agree (whole (for_while r t f w a x)) r)
  check (hash r t s ps) sc = result_and (words ps sc) (agree (whole (hash r t s ps)) r)
  -- what no book that READ accepts has
  check no_expr sc = agree (whole no_expr) 0

  pub checks : Exprs → List Binding → Checked
  checks no_exprs sc = Ok tt
  checks (more_exprs e es) sc = result_and (check e sc) (checks es sc)

  pub words : Parts → List Binding → Checked
  words no_parts sc = Ok tt
  words (more_parts w e ps) sc = result_and (check e sc) (words ps sc)

  -- the arms from k of n on, of a match on the type t: each behind its pattern
  pub arms : ℕ → ℕ → ℕ → Ty → Arms → List Binding → Checked
  arms r n k t no_arms sc = Ok tt
  arms r n k t (more_arms p e cs) sc =
      result_and (result_and (binds r p (variant_type n k t)) (check e (binding p (variant_type n k t) ∷ sc))) (arms r n (suc k) t cs sc)

  -- document 01, CHECK and the meanings: a statement e is of type unit (TYPE at the se)
  pub statements : Stmts → List Binding → Checked
  statements (assign s p e rest) sc = result_and (result_and (check e sc) (binds s p (type_is e))) (statements rest (binding p (type_is e) ∷ sc))
  statements (does s e rest) sc = result_and (result_and (check e sc) (agree (same (type_is e) one) s)) (statements rest sc)
  statements (end e) sc = check e sc
  statements no_end sc = Ok tt

-- document 01, Refusals by number: a function's parameter names before its body, which is of the type that it gives
unfoldable pub check_fun : Fun → Checked
check_fun (fun r t ps e) =
    result_and (hold (not (twice (param_names ps))) faults.Name r)
    (result_and (check e (scope_in (fun r t ps e))) (agree (same (type_is e) t) r))
