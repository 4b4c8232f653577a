-- The lowering of a tree by its record: what the functions of the cycle do is, mark by mark, what `lower` says.
-- Assumes nothing.
use Prim.Native.Nat.{ℕ, zero, suc, ◌+◌, ◌*◌, ◌-◌}
use mathlib.Core.Bool.{Bool, true, false}
use mathlib.Core.Path.{◌≡◌, refl, sym, ap, ◌∙◌}
use mathlib.Core.List.{List, [], ◌∷◌}
use native.Mathlib.Omega.{arith}
use native.Mathlib.Nat.{add-zero}
use lib.ListN.{length}
use lib.Dec.{T, eqb, ltb, eqb→eq}
use Rattle.std.specs.Prelude.{Option, None, Some}
use Rattle.laws.specs.Table.{pick, among, every, ◌also◌}
use Rattle.array.specs.Split.{split_of, least_power, not_below}
use Rattle.book.specs.Format.{STATEMENT, FUNCTION, EC, EW, EV, ET, EL, E0, E1, EN, EB, SA, SE, EM, EH, CJ, CL, CR, CD, CA, CP, CN, CK, CF, CQ, CY, CW, CH, FN}
use Rattle.book.specs.Index.{mark, field}
use Rattle.book.specs.Stands.{Stands}
use Rattle.book.specs.Tree.{Tree, Pat, Stmts, tree, expr_of, pattern_of, fun_of, as_expr, as_pattern, as_stmt, as_fun, group, exprs_at, arms_at, parts_at, maker, end, no_end}
use Rattle.book.proofs.Standing.{stands_tree, stands_mark, function_mark}
use Rattle.named.specs.Trace.{Run, pure, graft, bind, stop, bindings}
use Rattle.pattern.specs.Find.{params_of}
use Rattle.scope_bindings.specs.Scope as scope
use Rattle.scope_bindings.proofs.Scopes.{bound_function}
use Rattle.named.specs.Combinators as node
use Rattle.named.proofs.Runs.{bind_bind, bind_pure, bind_done}
use Rattle.named.proofs.Builds.{joins_none, joins_one, joins_step}
use Rattle.parts.specs.Joins.{matched}
use Rattle.parts.specs.Parts.{Marked, row_marks, span_at, is_call, is_functional, symbol_at, gather_run, wrap_run, fold_run, plain_run, widths_row, block_end, close_run}
use Rattle.compile.specs.Lower.{binding, widths, lower, lowers, words, arms, statements, body}
use Rattle.compile.specs.Cycle.{element_run, elements_run, row_run, body_run, call_run, complete_run, begin_run, entered, stmts_of}

-- an element and then the others
abbrev pub next_of : Run ℕ → Run (List ℕ) → Run (List ℕ)
next_of m more = bind m (λ a. bind more (λ xs. pure (a ∷ xs)))

-- a row's elements, in groups of fields
module _ (y : Bool) (sc : List Pat) (x : ℕ → ℕ) (a : ℕ → Tree) where
  pub lowers_group : (j n : ℕ) → lowers y (exprs_at a j n) sc ≡ group 1 (pure []) (λ k more. next_of (lower y (as_expr (a k)) sc) more) j n
  unfolding lower group
  lowers_group j zero = refl
  lowers_group j (suc n) = ap (next_of (lower y (as_expr (a j)) sc)) (lowers_group (j + 1) n)

  pub words_group : (j n : ℕ) → words y (parts_at x a j n) sc ≡ group 2 (pure []) (λ k more. next_of (lower y (as_expr (a k)) sc) more) (j + 1) n
  unfolding lower group
  words_group j zero = refl
  words_group j (suc n) = let e : j + 2 + 1 ≡ j + 1 + 2 = omega arith in ap (next_of (lower y (as_expr (a (j + 1))) sc)) (words_group (j + 2) n ∙ rw e)

  pub arms_group : (r j n : ℕ) → arms y r (arms_at a j n) sc ≡ group 2 (pure []) (λ k more. next_of (binding r sc (lower y (as_expr (a k)) (as_pattern (a (k - 1)) ∷ sc))) more) (j + 1) n
  unfolding lower group
  arms_group r j zero = refl
  arms_group r j (suc n) =
      let e : j + 2 + 1 ≡ j + 1 + 2 = omega arith in
      let z : j + 1 - 1 ≡ j = omega arith in
      rw z (ap (next_of (binding r sc (lower y (as_expr (a (j + 1))) (as_pattern (a j) ∷ sc)))) (arms_group r (j + 2) n ∙ rw e))

  pub widths_group : (b i : List ℕ) (r j n : ℕ) → widths (parts_at (field b i r) a j n) ≡ widths_row b i r j n
  unfolding widths widths_row group
  widths_group b i r j zero = refl
  widths_group b i r j (suc n) = ap (◌∷◌ (field b i r j)) (widths_group b i r (j + 2) n)

-- rows of no, one and two elements
pub row_none : (r : ℕ) → bind (pure []) (λ xs. node.joins r node.PAIR xs) ≡ node.unit r
row_none r = bind_pure [] (λ xs. node.joins r node.PAIR xs) ∙ joins_none r node.PAIR

pub row_single : (r : ℕ) (m : Run ℕ) → bind (next_of m (pure [])) (λ xs. node.joins r node.PAIR xs) ≡ m
row_single r m = simp (bind_bind, bind_pure, joins_one) (bind_done m)

joins_two : (r a b : ℕ) → node.joins r node.PAIR (a ∷ b ∷ []) ≡ node.pair r a b
unfolding split_of least_power not_below
joins_two r a b = joins_step r node.PAIR (a ∷ b ∷ []) (omega arith) ∙ simp (joins_one, bind_pure)

pub row_two : (r : ℕ) (m n : Run ℕ) → bind (next_of m (next_of n (pure []))) (λ xs. node.joins r node.PAIR xs) ≡ node.joined (node.pair r) m n
row_two r m n = simp (bind_bind, bind_pure, joins_two)

-- and what is made of their nodes
abbrev after_row : ℕ → Run (List ℕ) → (ℕ → Run ℕ) → Run ℕ
after_row r m k = bind (bind m (λ xs. node.joins r node.PAIR xs)) k

after_none : (r : ℕ) (k : ℕ → Run ℕ) → bind (node.unit r) k ≡ after_row r (pure []) k
after_none r k = ap (λ (m : Run ℕ). bind m k) (sym (row_none r))

after_one : (r : ℕ) (l : Run ℕ) (k : ℕ → Run ℕ) → bind l k ≡ after_row r (next_of l (pure [])) k
after_one r l k = ap (λ (m : Run ℕ). bind m k) (sym (row_single r l))

after_two : (r : ℕ) (l g : Run ℕ) (k : ℕ → Run ℕ) → bind (node.joined (node.pair r) l g) k ≡ after_row r (next_of l (next_of g (pure []))) k
after_two r l g k = ap (λ (m : Run ℕ). bind m k) (sym (row_two r l g))

-- a record's tree by its mark
module _ (b i : List ℕ) (r : ℕ) (y : Bool) (sc : List Pat) where
  abbrev x : ℕ → ℕ
  x = field b i r

  abbrev a : ℕ → Tree
  a k = tree b i (field b i r k)

  -- what holds of a row mark's record: it is its row, and then what the mark makes of it
  abbrev RowIs : ℕ → Type 0
  RowIs m = Marked b i r m → lower y (expr_of b i r) sc ≡ bind (row_run y b i r m sc) (complete_run y b i r m sc)

  expr_at : {m : ℕ} (k : Marked b i r m) → expr_of b i r ≡ as_expr (maker m r x a)
  expr_at {m} k = ap as_expr (stands_tree k.stands m k.is)

  is_tuple : RowIs ET
  unfolding as_expr lower row_run span_at elements_run element_run gather_run complete_run is_call wrap_run
  is_tuple k = rw (expr_at k, lowers_group y sc x a) (sym (bind_done _))

  is_list : RowIs EL
  unfolding as_expr lower row_run span_at elements_run element_run gather_run complete_run is_call wrap_run
  is_list k = rw (expr_at k, lowers_group y sc x a) (sym (bind_done _))

  is_left_lem : RowIs E0
  unfolding as_expr lower row_run span_at elements_run element_run gather_run complete_run is_call wrap_run group
  is_left_lem k = rw (expr_at k) (after_one r _ _)

  is_right_lem : RowIs E1
  unfolding as_expr lower row_run span_at elements_run element_run gather_run complete_run is_call wrap_run group
  is_right_lem k = rw (expr_at k) (after_one r _ _)

  is_variant : RowIs EN
  unfolding as_expr lower row_run span_at elements_run element_run gather_run complete_run is_call wrap_run
  is_variant k = rw (expr_at k, lowers_group y sc x a)

  is_match : RowIs EH
  unfolding as_expr lower row_run span_at elements_run element_run gather_run complete_run is_call
  is_match k = rw (expr_at k, arms_group y sc x a) (sym (bind_bind _ _ _))

  is_jet : RowIs CJ
  unfolding as_expr lower row_run span_at elements_run element_run gather_run complete_run is_call call_run body_run is_functional plain_run symbol_at
  is_jet k = rw (expr_at k, lowers_group y sc x a)

  is_unwrap_left : RowIs CL
  unfolding as_expr lower row_run span_at elements_run element_run gather_run complete_run is_call call_run body_run is_functional plain_run symbol_at group
  is_unwrap_left k = rw (expr_at k) (after_one r _ _)

  is_unwrap_right : RowIs CR
  unfolding as_expr lower row_run span_at elements_run element_run gather_run complete_run is_call call_run body_run is_functional plain_run symbol_at group
  is_unwrap_right k = rw (expr_at k) (after_one r _ _)

  is_debug : RowIs CD
  unfolding as_expr lower row_run span_at elements_run element_run gather_run complete_run is_call call_run body_run is_functional plain_run symbol_at group
  is_debug k = rw (expr_at k) (after_one r _ _)

  is_assert : RowIs CA
  unfolding as_expr lower row_run span_at elements_run element_run gather_run complete_run is_call call_run body_run is_functional plain_run symbol_at group
  is_assert k = rw (expr_at k) (after_one r _ _)

  is_none : RowIs CN
  unfolding as_expr lower row_run span_at elements_run element_run gather_run complete_run is_call call_run body_run is_functional plain_run symbol_at group
  is_none k = rw (expr_at k) (after_one r _ _)

  is_panic : RowIs CP
  unfolding as_expr lower row_run span_at elements_run element_run gather_run complete_run is_call call_run body_run is_functional plain_run symbol_at group
  is_panic k = rw (expr_at k) (after_none r _)

  is_call_lem : RowIs CF
  unfolding as_expr lower row_run span_at elements_run element_run gather_run complete_run is_call call_run body_run is_functional fold_run symbol_at
  is_call_lem k = rw (expr_at k, lowers_group y sc x a, ← bind_done (body y (as_fun (a 1))))

  is_list_fold : RowIs CQ
  unfolding as_expr lower row_run span_at elements_run element_run gather_run complete_run is_call call_run body_run is_functional fold_run symbol_at group
  is_list_fold k = rw (expr_at k) (after_two r _ _ _)

  is_array_fold : RowIs CY
  unfolding as_expr lower row_run span_at elements_run element_run gather_run complete_run is_call call_run body_run is_functional fold_run symbol_at group
  is_array_fold k = rw (expr_at k) (after_two r _ _ _)

  is_loop : RowIs CW
  unfolding as_expr lower row_run span_at elements_run element_run gather_run complete_run is_call call_run body_run is_functional fold_run symbol_at group
  is_loop k = rw (expr_at k) (after_two r _ _ _)

  is_hash : RowIs CH
  unfolding as_expr lower row_run span_at elements_run element_run gather_run complete_run is_call call_run body_run is_functional plain_run symbol_at
  is_hash k = rw (expr_at k, words_group y sc x a, widths_group y sc x a b i r 3 (x 2))

  -- so of every one
  pub row_is : (m : ℕ) → T (among row_marks m) → RowIs m
  row_is = every row_marks RowIs
      (is_tuple
      also is_list
      also is_left_lem
      also is_right_lem
      also is_variant
      also is_match
      also is_jet
      also is_unwrap_left
      also is_unwrap_right
      also is_debug
      also is_assert
      also is_panic
      also is_none
      also is_call_lem
      also is_list_fold
      also is_array_fold
      also is_loop
      also is_hash
      also tt)

  -- the others: a constant, a witness, a variable, a cast, a block, a match of two arms
  pub constant_is : Marked b i r EC → lower y (expr_of b i r) sc ≡ node.scribe r (x 1)
  unfolding as_expr lower
  constant_is k = rw (expr_at k)

  pub witness_is : Marked b i r EW → lower y (expr_of b i r) sc ≡ node.witness r (x 1) (x 0)
  unfolding as_expr lower
  witness_is k = rw (expr_at k)

  pub variable_is : Marked b i r EV → lower y (expr_of b i r) sc ≡ scope.variable r (x 1) sc
  unfolding as_expr lower
  variable_is k = rw (expr_at k)

  pub cast_is : Marked b i r CK → lower y (expr_of b i r) sc ≡ lower y (expr_of b i (x 1)) sc
  unfolding as_expr lower
  cast_is k = rw (expr_at k)

  pub block_is : Marked b i r EB → lower y (expr_of b i r) sc ≡ statements y r (stmts_of b i r 2 (x 1)) sc
  unfolding as_expr lower stmts_of
  block_is k = rw (expr_at k)

  pub match_is : Marked b i r EM → lower y (expr_of b i r) sc ≡ bind (binding r sc (lower y (expr_of b i (x 3)) (pattern_of b i (x 2) ∷ sc))) (λ l. bind (binding r sc (lower y (expr_of b i (x 5)) (pattern_of b i (x 4) ∷ sc))) (λ g. bind (lower y (expr_of b i (x 1)) sc) (λ s. matched r s l g)))
  unfolding as_expr lower
  match_is k = rw (expr_at k)

-- every expression's mark is one of these, or a row's
abbrev pub other_marks : List ℕ
other_marks = EC ∷ EW ∷ EV ∷ EB ∷ EM ∷ CK ∷ []

pub row_else : {b i : List ℕ} {r m : ℕ} → Marked b i r m → among other_marks m ≡ false → T (among row_marks m)
row_else k e = rw (k.is, e) at (stands_mark k.stands (λ j. pick (among other_marks j) true (among row_marks j)) tt tt)

-- a statement of a block, and then the rest
stop_then : {A B : Type 0} (r : ℕ) (k : A → Run B) → bind (stop bindings r) k ≡ stop bindings r
unfolding bind stop graft
stop_then r k = refl

binding_then : {A B : Type 0} (r : ℕ) (sc : List Pat) (m : Run A) (k : A → Run B) → bind (binding r sc m) k ≡ binding r sc (bind m k)
binding_then r sc m k = go (ltb (length sc) 256)
  where
    go : (t : Bool) → bind (pick t m (stop bindings r)) k ≡ pick t (bind m k) (stop bindings r)
    go true = refl
    go false = stop_then r k

module _ (b i : List ℕ) (s r : ℕ) (y : Bool) (sc : List Pat) where
  abbrev StmtIs : Stmts → Type 0
  StmtIs rest = statements y r (as_stmt (tree b i s) rest) sc ≡ bind (begin_run b i s y sc) (λ a. bind (statements y r rest (entered b i s sc)) (λ e. close_run b i s a e))

  assign_is : Stands b i s STATEMENT → mark b i s ≡ SA → (rest : Stmts) → StmtIs rest
  unfolding as_stmt lower begin_run entered close_run
  assign_is k is rest = rw (stands_tree k SA is, is) (simp (bind_bind, binding_then))

  does_is : Stands b i s STATEMENT → mark b i s ≡ SE → (rest : Stmts) → StmtIs rest
  unfolding as_stmt lower begin_run entered close_run
  does_is k is rest = rw (stands_tree k SE is, is) refl

  -- whichever it is
  pub stmt_is : Stands b i s STATEMENT → (rest : Stmts) → StmtIs rest
  stmt_is k rest = go (eqb (mark b i s) SA) refl
    where
      go : (t : Bool) → eqb (mark b i s) SA ≡ t → StmtIs rest
      go true e = assign_is k (eqb→eq (mark b i s) SA (rw e tt)) rest
      go false e = does_is k (eqb→eq (mark b i s) SE (rw e at (stands_mark k (λ j. pick (eqb j SA) true (eqb j SE)) tt tt))) rest

-- the end of a block
module _ (b i : List ℕ) (r : ℕ) (y : Bool) (sc : List Pat) where
  abbrev pub ended : Option ℕ → Run ℕ
  ended (Some x) = lower y (expr_of b i x) sc
  ended None = node.unit r

  pub end_is : statements y r (stmts_of b i r (2 + field b i r 1) 0) sc ≡ ended (block_end (field b i r))
  unfolding lower group stmts_of block_end
  end_is = rw add-zero (go (eqb (field b i r (2 + field b i r 1)) 65535))
    where
      go : (t : Bool) → statements y r (pick t no_end (end (expr_of b i (field b i r (2 + field b i r 1))))) sc ≡ ended (pick t None (Some (field b i r (2 + field b i r 1))))
      go true = refl
      go false = refl

-- a function's body
pub body_is : (b i : List ℕ) (f : ℕ) (y : Bool) → Stands b i f FUNCTION → body y (fun_of b i f) ≡ lower y (expr_of b i (field b i f (2 + 2 * field b i f 1))) (scope.bound b i f ∷ [])
unfolding as_fun lower params_of
body_is b i f y k = rw (bound_function k, stands_tree k FN (function_mark k))
