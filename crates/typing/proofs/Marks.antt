-- An expression's judgement by its mark: its parts, and then the whole.
-- Assumes nothing.
use Prim.Native.Nat.{ℕ, zero, suc, ◌+◌, ◌*◌}
use mathlib.Core.Bool.{Bool, true, false}
use mathlib.Core.Path.{◌≡◌, refl, ap, ◌∙◌}
use mathlib.Core.List.{List, [], ◌∷◌}
use native.Mathlib.Omega.{arith}
use native.Mathlib.Nat.{add-zero}
use borrow.Author.Tests.{eq-eqb, ne_eqb}
use lib.Dec.{T, eqb, eqb→eq}
use Rattle.std.specs.Prelude.{Ok}
use Rattle.std.specs.Result.{result_and}
use Rattle.laws.specs.Table.{pick, among, every, ◌also◌}
use Rattle.book.specs.Format.{STATEMENT, EC, EW, EV, ET, EL, E0, E1, EN, EB, SA, SE, EM, EH, CJ, CL, CR, CD, CA, CP, CN, CK, CF, CQ, CY, CW, CH}
use Rattle.book.specs.Index.{mark, field}
use Rattle.book.specs.Stands.{Stands}
use Rattle.book.specs.Tree.{Tree, Stmts, tree, expr_of, type_of, as_expr, as_stmt, group, exprs_at, arms_at, parts_at, maker, last_at}
use Rattle.book.proofs.Standing.{stands_tree, stands_mark}
use Rattle.simplicity.specs.Types.{Ty}
use Rattle.parts.specs.Parts.{Marked, span_at}
use Rattle.shapes.specs.Shapes.{type_is, whole}
use Rattle.binders.specs.Binders.{Binding, type_for}
use Rattle.typing.specs.Check.{Checked, agree, known, arm_count, check, checks, words, arms, statements, variant_type}
use Rattle.typing.specs.Cycle.{checks_at, row_of, arm_of, arms_from, match_of, stmts_of, block_of, statement_of, entered_of, parts_of}
use Rattle.typing.proofs.Judging.{then_pass, then_then}

-- a row's elements, in groups of fields
module _ (sc : List Binding) (x : ℕ → ℕ) (a : ℕ → Tree) where
  abbrev each : ℕ → Checked → Checked
  each j v = result_and (check (as_expr (a j)) sc) v

  checks_group : (k n : ℕ) → checks (exprs_at a k n) sc ≡ group 1 (Ok tt) each k n
  unfolding check group
  checks_group k zero = refl
  checks_group k (suc n) = ap (result_and (check (as_expr (a k)) sc)) (checks_group (k + 1) n)

  words_group : (k n : ℕ) → words (parts_at x a k n) sc ≡ group 2 (Ok tt) each (k + 1) n
  unfolding check group
  words_group k zero = refl
  words_group k (suc n) = let e : k + 2 + 1 ≡ k + 1 + 2 = omega arith in ap (result_and (check (as_expr (a (k + 1))) sc)) (words_group (k + 2) n ∙ rw e)

arm_count_lem : (a : ℕ → Tree) (k n : ℕ) → arm_count (arms_at a k n) ≡ n
unfolding arm_count group
arm_count_lem a k zero = refl
arm_count_lem a k (suc n) = ap suc (arm_count_lem a (k + 2) n)

-- a record's judgement by its mark
module _ (b i : List ℕ) (r : ℕ) (sc : List Binding) where
  abbrev x : ℕ → ℕ
  x = field b i r

  abbrev a : ℕ → Tree
  a k = tree b i (field b i r k)

  expr_at : {m : ℕ} (k : Marked b i r m) → expr_of b i r ≡ as_expr (maker m r x a)
  expr_at {m} k = ap as_expr (stands_tree k.stands m k.is)

  -- the arms from k of n on
  arms_group : (n : ℕ) (t : Ty) (from k m : ℕ) → arms r n k t (arms_at a (from + 2 * k) m) sc ≡ arms_from b i r from n t sc k m
  unfolding check group arms_from arm_of
  arms_group n t from k zero = refl
  arms_group n t from k (suc m) =
      let e : from + 2 * k + 2 ≡ from + 2 * suc k = omega arith in
      ap (result_and (arm_of b i r (from + 2 * k) (variant_type n k t) sc)) (rw e (arms_group n t from (suc k) m))

  -- what holds of a mark's record: its parts, and then the whole
  abbrev PartsIs : ℕ → Type 0
  PartsIs m = Marked b i r m → check (expr_of b i r) sc ≡ result_and (parts_of b i r m sc) (agree (whole (expr_of b i r)) r)

  is_constant : PartsIs EC
  unfolding as_expr check parts_of row_of span_at checks_at group
  is_constant k = rw (expr_at k)

  is_witness : PartsIs EW
  unfolding as_expr check parts_of row_of span_at checks_at group whole
  is_witness k = rw (expr_at k)

  is_tuple : PartsIs ET
  unfolding as_expr check parts_of row_of span_at checks_at
  is_tuple k = rw (expr_at k, checks_group sc x a)

  is_list : PartsIs EL
  unfolding as_expr check parts_of row_of span_at checks_at
  is_list k = rw (expr_at k, checks_group sc x a)

  is_left_lem : PartsIs E0
  unfolding as_expr check parts_of row_of span_at checks_at group
  is_left_lem k = rw (expr_at k, then_pass)

  is_right_lem : PartsIs E1
  unfolding as_expr check parts_of row_of span_at checks_at group
  is_right_lem k = rw (expr_at k, then_pass)

  is_variant : PartsIs EN
  unfolding as_expr check parts_of row_of span_at checks_at
  is_variant k = rw (expr_at k, checks_group sc x a)

  is_block : PartsIs EB
  unfolding as_expr check parts_of block_of stmts_of
  is_block k = rw (expr_at k)

  is_match : PartsIs EM
  unfolding as_expr check parts_of match_of arms_from arm_of
  is_match k = rw (expr_at k) (simp (then_then, then_pass))

  is_match_enum : PartsIs EH
  unfolding as_expr check parts_of match_of
  is_match_enum k = rw (expr_at k, arm_count_lem a, arms_group (x 2) (type_is (as_expr (a 1))) 3 0 (x 2)) (simp then_then)

  is_jet : PartsIs CJ
  unfolding as_expr check parts_of row_of span_at checks_at
  is_jet k = rw (expr_at k, checks_group sc x a)

  is_unwrap_left : PartsIs CL
  unfolding as_expr check parts_of row_of span_at checks_at group
  is_unwrap_left k = rw (expr_at k, then_pass)

  is_unwrap_right : PartsIs CR
  unfolding as_expr check parts_of row_of span_at checks_at group
  is_unwrap_right k = rw (expr_at k, then_pass)

  is_debug : PartsIs CD
  unfolding as_expr check parts_of row_of span_at checks_at group
  is_debug k = rw (expr_at k, then_pass)

  is_assert : PartsIs CA
  unfolding as_expr check parts_of row_of span_at checks_at group
  is_assert k = rw (expr_at k, then_pass)

  is_panic : PartsIs CP
  unfolding as_expr check parts_of row_of span_at checks_at group whole
  is_panic k = rw (expr_at k)

  is_none : PartsIs CN
  unfolding as_expr check parts_of row_of span_at checks_at group
  is_none k = rw (expr_at k, then_pass)

  is_cast : PartsIs CK
  unfolding as_expr check parts_of
  is_cast k = rw (expr_at k)

  is_call_lem : PartsIs CF
  unfolding as_expr check parts_of row_of span_at checks_at
  is_call_lem k = rw (expr_at k, checks_group sc x a)

  is_list_fold : PartsIs CQ
  unfolding as_expr check parts_of row_of span_at checks_at group
  is_list_fold k = rw (expr_at k, then_pass)

  is_array_fold : PartsIs CY
  unfolding as_expr check parts_of row_of span_at checks_at group
  is_array_fold k = rw (expr_at k, then_pass)

  is_loop : PartsIs CW
  unfolding as_expr check parts_of row_of span_at checks_at group
  is_loop k = rw (expr_at k, then_pass)

  is_hash : PartsIs CH
  unfolding as_expr check parts_of row_of span_at checks_at
  is_hash k = rw (expr_at k, words_group sc x a)

  -- so of every mark but a variable's
  abbrev part_marks : List ℕ
  part_marks = EC ∷ EW ∷ ET ∷ EL ∷ E0 ∷ E1 ∷ EN ∷ EB ∷ EM ∷ EH ∷ CJ ∷ CL ∷ CR ∷ CD ∷ CA ∷ CP ∷ CN ∷ CK ∷ CF ∷ CQ ∷ CY ∷ CW ∷ CH ∷ []

  pub parts_is : {m : ℕ} → Marked b i r m → (m ≡ EV → ⊥) → check (expr_of b i r) sc ≡ result_and (parts_of b i r m sc) (agree (whole (expr_of b i r)) r)
  parts_is {m} g h =
      let t : T (pick (eqb m EV) true (among part_marks m)) = rw g.is at (stands_mark g.stands (λ j. pick (eqb j EV) true (among part_marks j)) tt tt) in
      every part_marks PartsIs
      (is_constant
      also is_witness
      also is_tuple
      also is_list
      also is_left_lem
      also is_right_lem
      also is_variant
      also is_block
      also is_match
      also is_match_enum
      also is_jet
      also is_unwrap_left
      also is_unwrap_right
      also is_debug
      also is_assert
      also is_panic
      also is_none
      also is_cast
      also is_call_lem
      also is_list_fold
      also is_array_fold
      also is_loop
      also is_hash
      also tt)
      m (rw (ne_eqb m EV h) at t) g

  -- a variable
  pub variable_is : Marked b i r EV → check (expr_of b i r) sc ≡ known r (type_of b i (x 0)) (type_for (x 1) sc)
  unfolding as_expr check
  variable_is k = rw (expr_at k)

-- a statement of a block, and then the rest
module _ (b i : List ℕ) (s : ℕ) (sc : List Binding) where
  abbrev StmtIs : Stmts → Type 0
  StmtIs rest = statements (as_stmt (tree b i s) rest) sc ≡ result_and (statement_of b i s sc) (statements rest (entered_of b i s sc))

  assign_is : Stands b i s STATEMENT → mark b i s ≡ SA → (rest : Stmts) → StmtIs rest
  unfolding as_stmt check statement_of entered_of
  assign_is k is rest = rw (stands_tree k SA is, is)

  does_is : Stands b i s STATEMENT → mark b i s ≡ SE → (rest : Stmts) → StmtIs rest
  unfolding as_stmt check statement_of entered_of
  does_is k is rest = rw (stands_tree k SE is, is)

  -- whichever it is
  stmt_is : Stands b i s STATEMENT → (rest : Stmts) → StmtIs rest
  stmt_is k rest = go (eqb (mark b i s) SA) refl
    where
      go : (t : Bool) → eqb (mark b i s) SA ≡ t → StmtIs rest
      go true e = assign_is k (eqb→eq (mark b i s) SA (rw e tt)) rest
      go false e = does_is k (eqb→eq (mark b i s) SE (rw e at (stands_mark k (λ j. pick (eqb j SA) true (eqb j SE)) tt tt))) rest

module _ (b i : List ℕ) (r : ℕ) (sc : List Binding) where
  stmts_first : (j n l : ℕ) → n ≡ suc l → stmts_of b i r j n ≡ as_stmt (tree b i (field b i r j)) (stmts_of b i r (j + 1) l)
  unfolding stmts_of group
  stmts_first j n l e =
      let z : j + suc l ≡ j + 1 + l = omega arith in
      rw e (ap (λ q. as_stmt (tree b i (field b i r j)) (group 1 (last_at (field b i r) (λ k. tree b i (field b i r k)) q) (λ k. as_stmt (tree b i (field b i r k))) (j + 1) l)) z)

  -- the statements of a block from field j on: the first, and the rest
  pub stmts_next : (j n l : ℕ) → n ≡ suc l → Stands b i (field b i r j) STATEMENT → statements (stmts_of b i r j n) sc ≡ result_and (statement_of b i (field b i r j) sc) (statements (stmts_of b i r (j + 1) l) (entered_of b i (field b i r j) sc))
  stmts_next j n l e k = rw (stmts_first j n l e) (stmt_is b i (field b i r j) sc k (stmts_of b i r (j + 1) l))

  -- the end of a block
  pub end_none : (k : ℕ) → field b i r k ≡ 65535 → statements (stmts_of b i r k 0) sc ≡ Ok tt
  unfolding check group stmts_of
  end_none k e = rw (add-zero, eq-eqb _ _ e)

  pub end_some : (k : ℕ) → (field b i r k ≡ 65535 → ⊥) → statements (stmts_of b i r k 0) sc ≡ check (expr_of b i (field b i r k)) sc
  unfolding check group stmts_of
  end_some k e = rw (add-zero, ne_eqb _ _ e)
