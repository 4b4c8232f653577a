-- What is typed passes: laws of judgements in a row, and then the trees, each as its relation says.
-- Assumes nothing.
use Prim.Native.Nat.{ℕ, zero, suc}
use mathlib.Core.Bool.{Bool, true, not}
use mathlib.Core.List.{List}
use mathlib.Core.Option.{Option, some}
use mathlib.Core.Path.{◌≡◌, refl, ap}
use Rattle.std.specs.Prelude.{Ok}
use Rattle.std.specs.Result.{result_and}
use Rattle.simplicity.specs.Types.{Ty, one}
use Rattle.simplicity.proofs.Safe.{is_same}
use Rattle.book.specs.declared.fault.Fault.{Fault}
use Rattle.book.specs.Tree.{Pat, Expr, constant, witness, variable, tuple, list, in_left, in_right, variant, block, match, match_enum, jet, unwrap_left, unwrap_right, debug, assert, panic, is_none, cast, call, list_fold, array_fold, for_while, hash, no_expr, Exprs, no_exprs, more_exprs, Arms, no_arms, more_arms, Parts, no_parts, more_parts, Stmts, assign, does, end, no_end, Fun, fun}
use Rattle.shapes.specs.Shapes.{type_is}
use Rattle.binders.specs.Binders.{Binding, scope_in}
use Rattle.typing.specs.Check.{Checked, hold, binds, known, arm_count, check, checks, words, arms, statements, check_fun}
use Rattle.typing.specs.Typed.{Bindable, Typed, AllTyped, WordsTyped, ArmsTyped, RunTyped, FunTyped}

-- two judgements pass together if each passes
pub both_pass : {x v : Checked} → x ≡ Ok tt → v ≡ Ok tt → result_and x v ≡ Ok tt
both_pass p q = rw p q

-- a rule that holds passes
pub holds_pass : {t : Bool} (f : Fault) (r : ℕ) → t ≡ true → hold t f r ≡ Ok tt
holds_pass f r e = rw e

-- a pattern that may be bound
binds_pass : (r : ℕ) {p : Pat} {t : Ty} → Bindable p t → binds r p t ≡ Ok tt
unfolding binds
binds_pass r h = both_pass (holds_pass _ r h.fit) (holds_pass _ r (ap not h.once))

-- a name that has the declared type
known_pass : (r : ℕ) (t : Ty) {o : Option Ty} → o ≡ some t → known r t o ≡ Ok tt
unfolding known
known_pass r t e = rw e (holds_pass _ r (is_same t t refl))

-- an expression that is typed in a scope passes there
mutual
  unfolding Typed check

  pub typed_passes : (e : Expr) (sc : List Binding) → Typed sc e → check e sc ≡ Ok tt
  typed_passes (constant r t v u w) sc h = holds_pass _ r h.1
  typed_passes (witness r t k x) sc h = refl
  typed_passes (variable r t x) sc h = known_pass r t h
  typed_passes (tuple r t es) sc h = both_pass (all_pass es sc h.0) (holds_pass _ r h.1)
  typed_passes (list r t n es) sc h = both_pass (all_pass es sc h.0) (holds_pass _ r h.1)
  typed_passes (in_left r t e) sc h = both_pass (typed_passes e sc h.0) (holds_pass _ r h.1)
  typed_passes (in_right r t e) sc h = both_pass (typed_passes e sc h.0) (holds_pass _ r h.1)
  typed_passes (variant r t k n es) sc h = both_pass (all_pass es sc h.0) (holds_pass _ r h.1)
  typed_passes (block r t ss) sc h = both_pass (run_passes ss sc h.0) (holds_pass _ r h.1)
  typed_passes (match r t e p l q g) sc h =
      both_pass (holds_pass _ r h.0)
      (both_pass (both_pass (binds_pass r h.1) (typed_passes l _ h.2))
      (both_pass (both_pass (binds_pass r h.3) (typed_passes g _ h.4))
      (both_pass (typed_passes e sc h.5) (holds_pass _ r h.6))))
  typed_passes (match_enum r t e cs) sc h =
      both_pass (holds_pass _ r h.0)
      (both_pass (arms_pass r (arm_count cs) zero (type_is e) cs sc h.1)
      (both_pass (typed_passes e sc h.2) (holds_pass _ r h.3)))
  typed_passes (jet r t s j es) sc h = both_pass (all_pass es sc h.0) (holds_pass _ r h.1)
  typed_passes (unwrap_left r t s e) sc h = both_pass (typed_passes e sc h.0) (holds_pass _ r h.1)
  typed_passes (unwrap_right r t s e) sc h = both_pass (typed_passes e sc h.0) (holds_pass _ r h.1)
  typed_passes (debug r t s e) sc h = both_pass (typed_passes e sc h.0) (holds_pass _ r h.1)
  typed_passes (assert r t s e) sc h = both_pass (typed_passes e sc h.0) (holds_pass _ r h.1)
  typed_passes (panic r t s) sc h = refl
  typed_passes (is_none r t e) sc h = both_pass (typed_passes e sc h.0) (holds_pass _ r h.1)
  typed_passes (cast r t e) sc h = both_pass (typed_passes e sc h.0) (holds_pass _ r h.1)
  typed_passes (call r t f es) sc h = both_pass (all_pass es sc h.0) (holds_pass _ r h.2)
  typed_passes (list_fold r t f n e a) sc h = both_pass (both_pass (typed_passes e sc h.0) (typed_passes a sc h.1)) (holds_pass _ r h.3)
  typed_passes (array_fold r t f n e a) sc h = both_pass (both_pass (typed_passes e sc h.0) (typed_passes a sc h.1)) (holds_pass _ r h.3)
  typed_passes (for_while r t f w a x) sc h = both_pass (both_pass (typed_passes a sc h.0) (typed_passes x sc h.1)) (holds_pass _ r h.3)
  typed_passes (hash r t s ps) sc h = both_pass (words_pass ps sc h.0) (holds_pass _ r h.1)
  typed_passes no_expr sc h = absurd h

  all_pass : (es : Exprs) (sc : List Binding) → AllTyped sc es → checks es sc ≡ Ok tt
  all_pass no_exprs sc h = refl
  all_pass (more_exprs e es) sc h = both_pass (typed_passes e sc h.0) (all_pass es sc h.1)

  words_pass : (ps : Parts) (sc : List Binding) → WordsTyped sc ps → words ps sc ≡ Ok tt
  words_pass no_parts sc h = refl
  words_pass (more_parts w e ps) sc h = both_pass (typed_passes e sc h.0) (words_pass ps sc h.1)

  arms_pass : (r n k : ℕ) (t : Ty) (cs : Arms) (sc : List Binding) → ArmsTyped n k t sc cs → arms r n k t cs sc ≡ Ok tt
  arms_pass r n k t no_arms sc h = refl
  arms_pass r n k t (more_arms p e cs) sc h = both_pass (both_pass (binds_pass r h.0) (typed_passes e _ h.1)) (arms_pass r n (suc k) t cs sc h.2)

  run_passes : (ss : Stmts) (sc : List Binding) → RunTyped sc ss → statements ss sc ≡ Ok tt
  run_passes (assign s p e rest) sc h = both_pass (both_pass (typed_passes e sc h.0) (binds_pass s h.1)) (run_passes rest _ h.2)
  run_passes (does s e rest) sc h = both_pass (both_pass (typed_passes e sc h.0) (holds_pass _ s (is_same (type_is e) one h.1))) (run_passes rest sc h.2)
  run_passes (end e) sc h = typed_passes e sc h
  run_passes no_end sc h = refl

-- a function that is typed passes
pub fun_passes : (f : Fun) → FunTyped f → check_fun f ≡ Ok tt
unfolding Typed check_fun
fun_passes (fun r t ps e) h = both_pass (holds_pass _ r (ap not h.0)) (both_pass (typed_passes e (scope_in (fun r t ps e)) h.1) (holds_pass _ r (is_same (type_is e) t h.2)))
