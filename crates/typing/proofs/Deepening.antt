-- What passes is typed: each record of a valid book by its mark, where the values before it are of their types and the functions are typed.
-- Assumes nothing.
use Prim.Native.Nat.{ℕ, zero, suc, ◌+◌, ◌*◌, ◌<◌}
use mathlib.Core.Bool.{Bool, true, false, not}
use mathlib.Core.List.{List, [], ◌∷◌}
use mathlib.Core.Option.{Option, some, none}
use mathlib.Core.Path.{◌≡◌, refl, sym, ap}
use native.Mathlib.Omega.{arith}
use lib.Dec.{T, eqb, ltb}
use lib.ListN.{get_or}
use borrow.Author.Tests.{eqb-false}
use Rattle.std.specs.Prelude.{Ok, Err}
use Rattle.std.specs.Result.{result_and}
use Rattle.laws.specs.Table.{pick, among, every, ◌also◌}
use Rattle.simplicity.specs.Types.{Ty, one}
use Rattle.simplicity.proofs.Safe.{same_is}
use Rattle.book.specs.Format.{VALUE, EXPRESSION, STATEMENT, FUNCTION, EC, EW, EV, ET, EL, E0, E1, EN, EB, SA, SE, EM, EH, CJ, CL, CR, CD, CA, CP, CN, CK, CF, CQ, CY, CW, CH, FN}
use Rattle.book.specs.Index.{mark, field}
use Rattle.book.specs.Stands.{Stands}
use Rattle.book.specs.declared.fault.Fault.{Fault}
use Rattle.book.specs.Tree.{Tree, Pat, Expr, Exprs, no_exprs, more_exprs, Arms, more_arms, Parts, more_parts, Stmts, assign, does, end, no_end, as_expr, as_stmt, as_fun, group, arms_at, parts_at, last_at, stmts_at, maker, tree, expr_of, fun_of}
use Rattle.book.proofs.Roles.{layout, counted}
use Rattle.book.proofs.Standing.{stands_mark, stands_tree, each_stands, each_below, last_stands, last_below, tail_stands, tail_below, function_mark}
use Rattle.shapes.specs.Shapes.{type_is}
use Rattle.binders.specs.Binders.{fits, names, twice, Binding}
use Rattle.typing.specs.Check.{Checked, hold, binds, known, check, checks, words, arms, statements, check_fun}
use Rattle.typing.specs.Typed.{Bindable, Typed, AllTyped, WordsTyped, ArmsTyped, RunTyped, FunTyped}
use Rattle.typing.proofs.Judging.{refused_not, passed_holds}
use Rattle.typing.proofs.Earlier.{Before, each_before, in_head_lem, in_group_lem}
use Rattle.typing.proofs.Valued.{Good}

-- where two judgements pass together each passes
pub passed_both : (x v : Checked) → result_and x v ≡ Ok tt → (x ≡ Ok tt) × (v ≡ Ok tt)
passed_both (Ok u) v e = (refl, e)
passed_both (Err w) v e = refused_not w tt e

-- a part passes and then a rule: what the part's pass shows, and the rule
passed_then : {A : Type 0} {x : Checked} {t : Bool} (f : Fault) (r : ℕ) → (x ≡ Ok tt → A) → result_and x (hold t f r) ≡ Ok tt → A × (t ≡ true)
passed_then {A} {x} {t} f r part e = let h = passed_both x (hold t f r) e in (part h.0, passed_holds t f r h.1)

-- a test that fails, from its negation
not_true : (t : Bool) → not t ≡ true → t ≡ false
not_true true e = sym e
not_true false e = refl

-- a binding that passes may be made
passed_binds : (r : ℕ) (p : Pat) (t : Ty) → binds r p t ≡ Ok tt → Bindable p t
unfolding binds
passed_binds r p t e =
    let h = passed_then _ r (passed_holds (fits p t) _ r) e in
    record { fit = h.0; once = not_true (twice (names p)) h.1 }

-- a name that passes has the declared type
passed_known : (r : ℕ) (t : Ty) (o : Option Ty) → known r t o ≡ Ok tt → o ≡ some t
unfolding known
passed_known r t (some u) e = ap some (sym (same_is t u (passed_holds _ _ r e)))
passed_known r t none e = refused_not _ tt e

-- what holds of the end of a group, and of each more if of what follows it, holds of the group
pub group_all : {A : Type 0} (P : A → Type 0) (s : ℕ) (z : A) (add : ℕ → A → A) (j n : ℕ) → P z → ((k q : ℕ) → k ≡ j + q * s → q < n → (x : A) → P x → P (add k x)) → P (group s z add j n)
unfolding group
group_all P s z add j zero e each = e
group_all P s z add j (suc n) e each = each j 0 (omega arith) (omega arith) _ (group_all P s z add (j + s) n e (λ k q o l. each k (suc q) (omega arith) (omega arith)))

-- wherever it passes it is typed: an expression, a row of them, words, arms from k of n on, a block's run
abbrev Deepens : Expr → Type 0
Deepens e = (sc : List Binding) → check e sc ≡ Ok tt → Typed sc e

abbrev AllDeepen : Exprs → Type 0
AllDeepen es = (sc : List Binding) → checks es sc ≡ Ok tt → AllTyped sc es

abbrev WordsDeepen : Parts → Type 0
WordsDeepen ps = (sc : List Binding) → words ps sc ≡ Ok tt → WordsTyped sc ps

abbrev ArmsDeepen : ℕ → ℕ → Ty → Arms → Type 0
ArmsDeepen r n t cs = (k : ℕ) (sc : List Binding) → arms r n k t cs sc ≡ Ok tt → ArmsTyped n k t sc cs

abbrev RunDeepens : Stmts → Type 0
RunDeepens ss = (sc : List Binding) → statements ss sc ≡ Ok tt → RunTyped sc ss

-- one more of each
more_all : (e : Expr) (es : Exprs) → Deepens e → AllDeepen es → AllDeepen (more_exprs e es)
unfolding Typed check
more_all e es d ds sc h = let p = passed_both _ _ h in (d sc p.0, ds sc p.1)

more_words : (w : ℕ) (e : Expr) (ps : Parts) → Deepens e → WordsDeepen ps → WordsDeepen (more_parts w e ps)
unfolding Typed check
more_words w e ps d ds sc h = let p = passed_both _ _ h in (d sc p.0, ds sc p.1)

more_arms_lem : (r n : ℕ) (t : Ty) (c : Pat) (e : Expr) (cs : Arms) → Deepens e → ArmsDeepen r n t cs → ArmsDeepen r n t (more_arms c e cs)
unfolding Typed check
more_arms_lem r n t c e cs d ds k sc h =
    let p = passed_both _ _ h in
    let q = passed_both _ _ p.0 in
    (passed_binds r _ _ q.0, d _ q.1, ds (suc k) sc p.1)

more_assign : (s : ℕ) (c : Pat) (e : Expr) (ss : Stmts) → Deepens e → RunDeepens ss → RunDeepens (assign s c e ss)
unfolding Typed check
more_assign s c e ss d ds sc h =
    let p = passed_both _ _ h in
    let q = passed_both _ _ p.0 in
    (d sc q.0, passed_binds s _ _ q.1, ds _ p.1)

more_does : (s : ℕ) (e : Expr) (ss : Stmts) → Deepens e → RunDeepens ss → RunDeepens (does s e ss)
unfolding Typed check
more_does s e ss d ds sc h =
    let p = passed_both _ _ h in
    let q = passed_then _ s (d sc) p.0 in
    (q.0, same_is (type_is e) one q.1, ds sc p.1)

-- the expressions before record r deepen; the values before it are of their types; the functions before it are typed
abbrev Deepen : List ℕ → List ℕ → ℕ → Type 0
Deepen b i r = Before b i (λ x. Deepens (expr_of b i x)) EXPRESSION r

abbrev Values : List ℕ → List ℕ → ℕ → Type 0
Values b i r = Before b i (Good b i) VALUE r

abbrev Functions : List ℕ → List ℕ → ℕ → Type 0
Functions b i r = Before b i (λ g. FunTyped (fun_of b i g)) FUNCTION r

-- so those that record r's fields name do, where its mark is m
module _ {b i : List ℕ} {r kd : ℕ} (s : Stands b i r kd) (ih : Deepen b i r) (m : ℕ) (is : mark b i r ≡ m) where
  part : (k : ℕ) → T (ltb k (layout m).heads) → get_or (layout m).head k 0 ≡ EXPRESSION → Deepens (expr_of b i (field b i r k))
  part = in_head_lem (λ x. Deepens (expr_of b i x)) EXPRESSION tt s ih m is

  member : (e : ℕ) → T (ltb e (layout m).eachs) → get_or (layout m).each e 0 ≡ EXPRESSION → (k q : ℕ) → k ≡ (layout m).heads + q * (layout m).eachs + e → q < counted m (field b i r) → Deepens (expr_of b i (field b i r k))
  member = in_group_lem (λ x. Deepens (expr_of b i x)) EXPRESSION tt s ih m is

-- a statement, where what follows it deepens
module _ {b i : List ℕ} {s : ℕ} (st : Stands b i s STATEMENT) (ih : Deepen b i s) (rest : Stmts) (d : RunDeepens rest) where
  stmt_deepens : RunDeepens (as_stmt (tree b i s) rest)
  unfolding as_stmt
  stmt_deepens = every (SA ∷ SE ∷ []) (λ m. mark b i s ≡ m → RunDeepens (as_stmt (tree b i s) rest))
      ((λ is. rw (stands_tree st SA is) (more_assign s _ _ rest (part st ih SA is 1 tt refl) d))
      also (λ is. rw (stands_tree st SE is) (more_does s _ rest (part st ih SE is 0 tt refl) d))
      also tt)
      (mark b i s) (stands_mark st (among (SA ∷ SE ∷ [])) tt tt) refl

-- every expression's mark
abbrev pub expr_marks : List ℕ
expr_marks = EC ∷ EW ∷ EV ∷ ET ∷ EL ∷ E0 ∷ E1 ∷ EN ∷ EB ∷ EM ∷ EH ∷ CJ ∷ CL ∷ CR ∷ CD ∷ CA ∷ CP ∷ CN ∷ CK ∷ CF ∷ CQ ∷ CY ∷ CW ∷ CH ∷ []

-- an expression's record, over those before it
module _ {b i : List ℕ} {r : ℕ} (s : Stands b i r EXPRESSION) (ih : Deepen b i r) (vs : Values b i r) (fs : Functions b i r) where
  abbrev x : ℕ → ℕ
  x = field b i r

  abbrev a : ℕ → Tree
  a k = tree b i (field b i r k)

  -- its tree by its mark
  expr_at : (m : ℕ) → mark b i r ≡ m → expr_of b i r ≡ as_expr (maker m r x a)
  expr_at m is = ap as_expr (stands_tree s m is)

  -- the function that it calls
  callee : (m : ℕ) → mark b i r ≡ m → T (ltb 1 (layout m).heads) → get_or (layout m).head 1 0 ≡ FUNCTION → FunTyped (as_fun (a 1))
  callee m is = in_head_lem (λ g. FunTyped (fun_of b i g)) FUNCTION tt s fs m is 1

  -- a row of expressions, of words, of arms, of statements and their end
  row : (m : ℕ) → mark b i r ≡ m → T (ltb 0 (layout m).eachs) → get_or (layout m).each 0 0 ≡ EXPRESSION → AllDeepen (group (layout m).eachs no_exprs (λ j. more_exprs (as_expr (a j))) (layout m).heads (counted m x))
  unfolding Typed
  row m is t o = group_all AllDeepen _ _ _ (layout m).heads (counted m x) (λ sc h. tt) (λ k q z l es. more_all _ es (member s ih m is 0 t o k q (omega arith) l))

  words_row : mark b i r ≡ CH → WordsDeepen (parts_at x a 3 (x 2))
  unfolding Typed
  words_row is = group_all WordsDeepen _ _ _ 3 (x 2) (λ sc h. tt) (λ k q z l ps. more_words (x k) _ ps (member s ih CH is 1 tt refl (k + 1) q (omega arith) l))

  arms_row : mark b i r ≡ EH → (n : ℕ) (t : Ty) → ArmsDeepen r n t (arms_at a 3 (x 2))
  unfolding Typed
  arms_row is n t = group_all (ArmsDeepen r n t) _ _ _ 3 (x 2) (λ j sc h. tt) (λ k q z l cs. more_arms_lem r n t _ _ cs (member s ih EH is 1 tt refl (k + 1) q (omega arith) l))

  run_end : mark b i r ≡ EB → (k : ℕ) → k ≡ 2 + x 1 → RunDeepens (last_at x a k)
  unfolding Typed check
  run_end is k z = go (eqb (x k) 65535) refl
    where
      go : (t : Bool) → eqb (x k) 65535 ≡ t → RunDeepens (pick t no_end (end (as_expr (a k))))
      go true e = λ sc h. tt
      go false e = ih (x k) (tail_below s EB is k (omega arith) tt refl (eqb-false (x k) 65535 e)) (tail_stands s EB is k (omega arith) tt refl (eqb-false (x k) 65535 e))

  run_row : mark b i r ≡ EB → RunDeepens (stmts_at x a 2 (x 1))
  run_row is = group_all RunDeepens 1 _ _ 2 (x 1) (run_end is (2 + x 1) refl)
      (λ k q z l ss. stmt_deepens (each_stands s EB is k q 0 (omega arith) l tt tt) (λ y o. ih y (omega (arith, each_below s EB is k q 0 (omega arith) l tt tt))) ss)

  -- a fold's or a loop's two parts, and what both show with a rule
  parts_two : {t : Bool} (m : ℕ) (is : mark b i r ≡ m) → T (ltb 4 (layout m).heads) → T (ltb 3 (layout m).heads) → get_or (layout m).head 3 0 ≡ EXPRESSION → get_or (layout m).head 4 0 ≡ EXPRESSION → (f : Fault) (sc : List Binding) → result_and (result_and (check (as_expr (a 3)) sc) (check (as_expr (a 4)) sc)) (hold t f r) ≡ Ok tt → (Typed sc (as_expr (a 3))) × (Typed sc (as_expr (a 4))) × (t ≡ true)
  parts_two m is t u o y f sc h =
      let p = passed_then f r (passed_both _ _) h in
      (part s ih m is 3 u o sc p.0.0, part s ih m is 4 t y sc p.0.1, p.1)

  -- whatever its mark
  expr_step : Deepens (expr_of b i r)
  unfolding as_expr Typed check
  expr_step = every expr_marks (λ m. mark b i r ≡ m → Deepens (expr_of b i r))
      ((λ is. rw (expr_at EC is) (λ sc h. (in_head_lem (Good b i) VALUE tt s vs EC is 1 tt refl, passed_holds _ _ r h)))
      also (λ is. rw (expr_at EW is) (λ sc h. tt))
      also (λ is. rw (expr_at EV is) (λ sc h. passed_known r _ _ h))
      also (λ is. rw (expr_at ET is) (λ sc. passed_then _ r (row ET is tt refl sc)))
      also (λ is. rw (expr_at EL is) (λ sc. passed_then _ r (row EL is tt refl sc)))
      also (λ is. rw (expr_at E0 is) (λ sc. passed_then _ r (part s ih E0 is 1 tt refl sc)))
      also (λ is. rw (expr_at E1 is) (λ sc. passed_then _ r (part s ih E1 is 1 tt refl sc)))
      also (λ is. rw (expr_at EN is) (λ sc. passed_then _ r (row EN is tt refl sc)))
      also (λ is. rw (expr_at EB is) (λ sc. passed_then _ r (run_row is sc)))
      also (λ is. rw (expr_at EM is) (λ sc h.
      let p = passed_both _ _ h in
      let q = passed_both _ _ p.1 in
      let l = passed_both _ _ q.0 in
      let u = passed_both _ _ q.1 in
      let g = passed_both _ _ u.0 in
      let e = passed_then _ r (part s ih EM is 1 tt refl sc) u.1 in
      (passed_holds _ _ r p.0, passed_binds r _ _ l.0, part s ih EM is 3 tt refl _ l.1, passed_binds r _ _ g.0, part s ih EM is 5 tt refl _ g.1, e.0, e.1)))
      also (λ is. rw (expr_at EH is) (λ sc h.
      let p = passed_both _ _ h in
      let q = passed_both _ _ p.1 in
      let e = passed_then _ r (part s ih EH is 1 tt refl sc) q.1 in
      (passed_holds _ _ r p.0, arms_row is _ _ zero sc q.0, e.0, e.1)))
      also (λ is. rw (expr_at CJ is) (λ sc. passed_then _ r (row CJ is tt refl sc)))
      also (λ is. rw (expr_at CL is) (λ sc. passed_then _ r (part s ih CL is 2 tt refl sc)))
      also (λ is. rw (expr_at CR is) (λ sc. passed_then _ r (part s ih CR is 2 tt refl sc)))
      also (λ is. rw (expr_at CD is) (λ sc. passed_then _ r (part s ih CD is 2 tt refl sc)))
      also (λ is. rw (expr_at CA is) (λ sc. passed_then _ r (part s ih CA is 2 tt refl sc)))
      also (λ is. rw (expr_at CP is) (λ sc h. tt))
      also (λ is. rw (expr_at CN is) (λ sc. passed_then _ r (part s ih CN is 1 tt refl sc)))
      also (λ is. rw (expr_at CK is) (λ sc. passed_then _ r (part s ih CK is 1 tt refl sc)))
      also (λ is. rw (expr_at CF is) (λ sc h.
      let p = passed_then _ r (row CF is tt refl sc) h in
      (p.0, callee CF is tt refl, p.1)))
      also (λ is. rw (expr_at CQ is) (λ sc h.
      let p = parts_two CQ is tt tt refl refl _ sc h in
      (p.0, p.1, callee CQ is tt refl, p.2)))
      also (λ is. rw (expr_at CY is) (λ sc h.
      let p = parts_two CY is tt tt refl refl _ sc h in
      (p.0, p.1, callee CY is tt refl, p.2)))
      also (λ is. rw (expr_at CW is) (λ sc h.
      let p = parts_two CW is tt tt refl refl _ sc h in
      (p.0, p.1, callee CW is tt refl, p.2)))
      also (λ is. rw (expr_at CH is) (λ sc. passed_then _ r (words_row is sc)))
      also tt)
      (mark b i r) (stands_mark s (among expr_marks) tt tt) refl

-- an expression's record that passes in a scope is typed there, if the values and the functions before it are
pub passed_typed : {b i : List ℕ} {r : ℕ} → Stands b i r EXPRESSION → Values b i r → Functions b i r → Deepens (expr_of b i r)
passed_typed {b} {i} {r} s = each_before (λ x. Values b i x → Functions b i x → Deepens (expr_of b i x)) EXPRESSION (suc r)
    (λ x l k h vs fs. expr_step k (λ y o u. h y o u (λ v z. vs v (omega arith)) (λ g z. fs g (omega arith))) vs fs)
    r (omega arith) s

-- a function's record that passes is typed, if those and the values before it are
passed_fun : {b i : List ℕ} {g : ℕ} → Stands b i g FUNCTION → Values b i g → Functions b i g → check_fun (fun_of b i g) ≡ Ok tt → FunTyped (fun_of b i g)
unfolding as_fun Typed check_fun
passed_fun {b} {i} {g} s vs fs =
    let is = function_mark s in
    let k = 2 + 2 * field b i g 1 in
    let z : k ≡ (layout FN).heads + counted FN (field b i g) * (layout FN).eachs = omega arith in
    let earlier : field b i g k < g = last_below s FN is k z tt tt in
    let body = passed_typed (last_stands s FN is k z tt tt) (λ v l. vs v (omega arith)) (λ f l. fs f (omega arith)) in
    rw (stands_tree s FN is) (λ h.
    let p = passed_both _ _ h in
    let q = passed_then _ g (body _) p.1 in
    (not_true _ (passed_holds _ _ g p.0), q.0, same_is _ _ q.1))

-- so where every function before record n passes, every one is typed
pub passed_funs : {b i : List ℕ} (n : ℕ) → Values b i n → Before b i (λ g. check_fun (fun_of b i g) ≡ Ok tt) FUNCTION n → Functions b i n
passed_funs {b} {i} n vs h = each_before (λ g. FunTyped (fun_of b i g)) FUNCTION n (λ g o s fs. passed_fun s (λ v l. vs v (omega arith)) fs (h g o s))
