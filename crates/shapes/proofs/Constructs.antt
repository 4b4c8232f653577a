-- What each construct asks of its declared type, by the fields of its record: the tests in the order in which the code makes them.
-- Assumes nothing.
use Prim.Native.Nat.{ℕ, zero, suc, ◌+◌, ◌*◌, ◌≤◌, ◌<◌}
use mathlib.Core.Bool.{Bool, false}
use mathlib.Core.List.{List, [], ◌∷◌}
use mathlib.Core.Option.{Option, some, none}
use mathlib.Core.Path.{◌≡◌, refl, sym, ap, ◌∙◌}
use native.Mathlib.Omega.{arith}
use lib.Dec.{T, eqb, ltb, leb, ltb→lt, leb→le}
use lib.ListN.{get_or}
use Rattle.laws.specs.Table.{both, among, both_left, both_right, ◌also◌, every}
use Rattle.array.specs.Split.{top_of}
use Rattle.simplicity.specs.Types.{Ty, one, two, same}
use Rattle.book.specs.Format.{word_at, in_range, TS, TYPE, EXPRESSION, STATEMENT, EC, ET, EL, E0, EN, EB, SA, SE, EM, EH, CL, CD, CA, CN, CK}
use Rattle.book.specs.Index.{mark, field, Lies}
use Rattle.book.specs.Stands.{Stands}
use Rattle.book.specs.Tree.{Stmts, as_expr, as_stmt, maker, tree, type_of, expr_of, declared_of, stmt_of, last_at, group}
use Rattle.book.proofs.Roles.{layout, is_kind, field_before}
use Rattle.book.proofs.Standing.{stands_mark, stands_tree, head_lies, head_stands, head_ranged, each_stands}
use Rattle.parts.specs.Parts.{Spanned, span_at, block_end}
use Rattle.parts.specs.declared.view.Span.{Span}
use Rattle.parts.proofs.Blocks.{unended_last, ended_last}
use Rattle.shapes.specs.Shapes.{type_is, end_type, row_type, list_type, sums, is_there, is_at, place_of, element_of, has_places, all_are, is_list_of, whole}
use Rattle.shapes.specs.Views.{ListBound, Gives, side_is}
use Rattle.shapes.specs.Wholes.{Elements, Declares, types_at}
use Rattle.std.specs.Prelude.{Option as Answer, Some, None}
use Rattle.std.specs.Option.{option_eq}
use Rattle.shapes.proofs.Same.{same_turned, types_same, gives_at}
use Rattle.shapes.proofs.Declared.{expr_declares}
use Rattle.shapes.proofs.Walks.{Tests}
use Rattle.shapes.proofs.Rows.{types_at_lem, arms_at_lem}

module _ {b i : List ℕ} {r m t : ℕ} (g : Declares b i r m t) where
  -- the declared type stands; the head's fields lie, name what the table says, and are in range: at a mark that is written out the tests compute
  pub typed_stands : Stands b i t TYPE
  typed_stands = rw g.is (expr_declares g.marked.stands).stands

  pub typed_lies : (k : ℕ) → T (ltb k (layout m).heads) → Lies b i r k
  typed_lies k o = head_lies g.marked.stands m g.marked.is k o

  pub names : (k : ℕ) → T (ltb k (layout m).heads) → T (is_kind (get_or (layout m).head k 0)) → Stands b i (field b i r k) (get_or (layout m).head k 0)
  names k o w = head_stands g.marked.stands m g.marked.is k o w

  pub ranged : (k : ℕ) → T (ltb k (layout m).heads) → T (in_range (get_or (layout m).head k 0) (word_at b (get_or i r 0 + 2 * k)) (field b i r k))
  ranged k o = head_ranged g.marked.stands m g.marked.is k o

  -- the record's tree
  pub made : expr_of b i r ≡ as_expr (maker m r (field b i r) (λ k. tree b i (field b i r k)))
  made = ap as_expr (stands_tree g.marked.stands m g.marked.is)

-- record p is a type, which is u
abbrev pub Is : List ℕ → List ℕ → ℕ → Ty → Type 0
Is b i p u = Stands b i p TYPE × (type_of b i p ≡ u)

-- the declared type of the expression that field k names is that of record p
abbrev pub Part : List ℕ → List ℕ → ℕ → ℕ → ℕ → Type 0
Part b i r k p = Is b i p (type_is (expr_of b i (field b i r k)))

-- a test of its number against a type's; against what may be none
module _ {b i : List ℕ} {p : ℕ} {u : Ty} where
  pub is_test : {a : ℕ} → Is b i p u → Stands b i a TYPE → eqb p a ≡ same u (type_of b i a)
  is_test e s = rw (← e.1) (types_same e.0 s)

  pub test_is : {a : ℕ} → Stands b i a TYPE → Is b i p u → eqb a p ≡ same (type_of b i a) u
  test_is s e = rw (← e.1) (types_same s e.0)

  pub given_is : {o : Option Ty} {x : Answer ℕ} → Gives b i o x → Is b i p u → option_eq eqb x (Some p) ≡ is_at o u
  given_is g e = rw (← e.1) (gives_at g e.0)

-- so a test of the code's tells of a part
module _ {b i : List ℕ} {p : ℕ} {u : Ty} {t : Bool} (e : Is b i p u) where
  pub is_tells : {a : ℕ} → Stands b i a TYPE → t ≡ eqb p a → t ≡ same u (type_of b i a)
  is_tells s z = z ∙ is_test e s

  pub word_tells : (w : Ty) → t ≡ same (type_of b i p) w → t ≡ same u w
  word_tells w z = z ∙ rw e.1

  pub given_tells : {o : Option Ty} {x : Answer ℕ} → Gives b i o x → t ≡ option_eq eqb x (Some p) → t ≡ is_at o u
  given_tells g z = z ∙ given_is g e

-- what may be no type is u, or it is not
pub at_none : {o : Option Ty} (u : Ty) → o ≡ none → is_at o u ≡ false
unfolding is_at
at_none u e = rw e

pub at_some : {o : Option Ty} {a : Ty} (u : Ty) → o ≡ some a → same a u ≡ is_at o u
unfolding is_at
at_some u e = rw e

-- a constant
pub constant_is : {b i : List ℕ} {r t p : ℕ} → Declares b i r EC t → Is b i p (declared_of b i (field b i r 1)) → Tests (whole (expr_of b i r)) (same (type_of b i p) (type_of b i t) ∷ [])
unfolding whole as_expr
constant_is g e = record { is = ap whole (made g) ∙ rw (g.is, e.1) }

module _ {b i : List ℕ} {r t p : ℕ} where
  -- debug, a cast, assert, IsNone
  pub debug_is : Declares b i r CD t → Part b i r 2 p → Tests (whole (expr_of b i r)) (same (type_of b i p) (type_of b i t) ∷ [])
  unfolding whole as_expr
  debug_is g e = record { is = ap whole (made g) ∙ rw (g.is, e.1) }

  pub cast_is : Declares b i r CK t → Part b i r 1 p → Tests (whole (expr_of b i r)) (same (type_of b i p) (type_of b i t) ∷ [])
  unfolding whole as_expr
  cast_is g e = record { is = ap whole (made g) ∙ rw (g.is, e.1) }

  pub assert_is : Declares b i r CA t → Part b i r 2 p → Tests (whole (expr_of b i r)) (same (type_of b i p) two ∷ same (type_of b i t) one ∷ [])
  unfolding whole as_expr
  assert_is g e = record { is = ap whole (made g) ∙ rw (g.is, e.1) }

  pub is_none_is : Declares b i r CN t → Part b i r 1 p → Tests (whole (expr_of b i r)) (is_there (side_is TS 0 (type_of b i p)) ∷ same (type_of b i t) two ∷ [])
  unfolding whole as_expr
  is_none_is g e = record { is = ap whole (made g) ∙ rw (g.is, e.1) }

  -- left or right of a part; an unwrapped part
  pub injection_is : (k : ℕ) → Declares b i r (E0 + k) t → k < 2 → Part b i r 1 p → Tests (whole (expr_of b i r)) (is_at (side_is TS k (type_of b i t)) (type_of b i p) ∷ [])
  unfolding whole as_expr
  injection_is zero g h e = record { is = ap whole (made g) ∙ rw (g.is, e.1) }
  injection_is (suc zero) g h e = record { is = ap whole (made g) ∙ rw (g.is, e.1) }
  injection_is (suc (suc k)) g h e = absurd (omega arith)

  pub unwrap_is : (k : ℕ) → Declares b i r (CL + k) t → k < 2 → Part b i r 2 p → Tests (whole (expr_of b i r)) (is_at (side_is TS k (type_of b i p)) (type_of b i t) ∷ [])
  unfolding whole as_expr
  unwrap_is zero g h e = record { is = ap whole (made g) ∙ rw (g.is, e.1) }
  unwrap_is (suc zero) g h e = record { is = ap whole (made g) ∙ rw (g.is, e.1) }
  unwrap_is (suc (suc k)) g h e = absurd (omega arith)

-- the part of either
module _ {b i : List ℕ} {r t : ℕ} where
  pub injection_part : (k : ℕ) → Declares b i r (E0 + k) t → k < 2 → Lies b i r 1 × Stands b i (field b i r 1) EXPRESSION
  injection_part zero g h = (typed_lies g 1 tt, names g 1 tt tt)
  injection_part (suc zero) g h = (typed_lies g 1 tt, names g 1 tt tt)
  injection_part (suc (suc k)) g h = absurd (omega arith)

  pub unwrap_part : (k : ℕ) → Declares b i r (CL + k) t → k < 2 → Lies b i r 2 × Stands b i (field b i r 2) EXPRESSION
  unwrap_part zero g h = (typed_lies g 2 tt, names g 2 tt tt)
  unwrap_part (suc zero) g h = (typed_lies g 2 tt, names g 2 tt tt)
  unwrap_part (suc (suc k)) g h = absurd (omega arith)

  -- a match: its two arms are a row
  pub arms_row : Declares b i r EM t → Elements b i r 2 3 2
  arms_row g = record { few = omega arith; low = omega arith; near = omega arith; each = each }
    where
      each : (j : ℕ) → j < 2 → Lies b i r (3 + 2 * j) × Stands b i (field b i r (3 + 2 * j)) EXPRESSION
      each zero h = (typed_lies g 3 tt, names g 3 tt tt)
      each (suc zero) h = (typed_lies g 5 tt, names g 5 tt tt)
      each (suc (suc j)) h = absurd (omega arith)

  pub match_is : Declares b i r EM t → Tests (whole (expr_of b i r)) (all_are (type_of b i t) (types_at b i r 2 3 2) ∷ [])
  unfolding whole as_expr types_at group
  match_is g = record { is = ap whole (made g) ∙ rw g.is }

-- the declared types of the elements of a span
abbrev span_types : List ℕ → List ℕ → ℕ → Span → List Ty
span_types b i r p = types_at b i r p.stride p.from p.count

-- constructs of a row, whose span is p
module _ {b i : List ℕ} {r t : ℕ} where
  pub tuple_is : {p : Span} → Declares b i r ET t → Spanned b i r ET p → Tests (whole (expr_of b i r)) (same (type_of b i t) (row_type (span_types b i r p)) ∷ [])
  unfolding whole as_expr span_at
  tuple_is g s = record { is = ap whole (made g) ∙ rw (g.is, s.is, types_at_lem b i r (field b i r 1) 2) }

  pub arms_is : {p : Span} → Declares b i r EH t → Spanned b i r EH p → Tests (whole (expr_of b i r)) (all_are (type_of b i t) (span_types b i r p) ∷ [])
  unfolding whole as_expr span_at
  arms_is g s = record { is = ap whole (made g) ∙ rw (g.is, s.is, arms_at_lem b i r (field b i r 2) 3 4 refl) }

  -- a list of bound n: no element type, or a
  pub list_none : {n : ℕ} → Declares b i r EL t → n ≡ field b i r 1 → element_of (top_of n) (type_of b i t) ≡ none → false ≡ whole (expr_of b i r)
  unfolding whole as_expr is_list_of
  list_none g z e = sym (ap whole (made g) ∙ rw (← z, ← g.is, e))

  pub list_is : {n : ℕ} {a : Ty} {p : Span} → Declares b i r EL t → n ≡ field b i r 1 → Spanned b i r EL p → element_of (top_of n) (type_of b i t) ≡ some a → Tests (whole (expr_of b i r)) (same (type_of b i t) (list_type a n) ∷ all_are a (span_types b i r p) ∷ [])
  unfolding whole as_expr is_list_of span_at
  list_is g z s e = record { is = ap whole (made g) ∙ rw (s.is, types_at_lem b i r (field b i r 2) 3, ← z, ← g.is, e) }

  -- a variant: place k of n
  pub variant_is : {n k : ℕ} {p : Span} → Declares b i r EN t → n ≡ field b i r 2 → k ≡ field b i r 1 → Spanned b i r EN p → Tests (whole (expr_of b i r)) (has_places n (type_of b i t) ∷ is_at (place_of sums n k (type_of b i t)) (row_type (span_types b i r p)) ∷ [])
  unfolding whole as_expr span_at
  variant_is g z o s = record { is = ap whole (made g) ∙ rw (g.is, s.is, z, o, types_at_lem b i r (field b i r 3) 4) }

  -- the range of a list's bound, of a variant's index and of how many there are
  pub list_bound : {n : ℕ} → Declares b i r EL t → n ≡ field b i r 1 → ListBound n
  unfolding in_range
  list_bound g z = rw z (ranged g 1 tt)

  variant_range : Declares b i r EN t → T (both (ltb (field b i r 1) (field b i r 2)) (leb (field b i r 2) 256))
  unfolding in_range
  variant_range g =
      let o : T (both (ltb (word_at b (get_or i r 0 + 2 * (1 + 1))) (field b i r 2)) (leb (field b i r 2) 256)) = ranged g 2 tt in
      rw (field_before b (get_or i r 0) 1) at o

  pub variant_under : {n k : ℕ} → Declares b i r EN t → n ≡ field b i r 2 → k ≡ field b i r 1 → k < n
  variant_under g z o = rw (z, o) (ltb→lt _ _ (both_left (ltb (field b i r 1) (field b i r 2)) _ (variant_range g)))

  pub variant_most : {n : ℕ} → Declares b i r EN t → n ≡ field b i r 2 → n ≤ 256
  variant_most g z = rw z (leb→le _ _ (both_right (ltb (field b i r 1) (field b i r 2)) _ (variant_range g)))

-- a statement does not change what a block ends in
stmt_end : {b i : List ℕ} {s : ℕ} → Stands b i s STATEMENT → (rest : Stmts) → end_type (stmt_of b i s rest) ≡ end_type rest
unfolding end_type as_stmt
stmt_end {b} {i} {s} h rest = every (SA ∷ SE ∷ []) (λ m. mark b i s ≡ m → end_type (stmt_of b i s rest) ≡ end_type rest)
    ((λ e. rw (stands_tree h SA e)) also (λ e. rw (stands_tree h SE e)) also tt)
    (mark b i s) (stands_mark h (among (SA ∷ SE ∷ [])) tt tt) refl

-- a block: its statements, what it ends in, and where that stands
module _ {b i : List ℕ} {r t : ℕ} (g : Declares b i r EB t) where
  stmts_end : (n k : ℕ) (rest : Stmts) → ((j : ℕ) → j < n → Stands b i (field b i r (k + j)) STATEMENT) → end_type (group 1 rest (λ j. stmt_of b i (field b i r j)) k n) ≡ end_type rest
  unfolding group
  stmts_end zero k rest h = refl
  stmts_end (suc n) k rest h =
      let z : k + 0 ≡ k = omega arith in
      stmt_end (rw z at (h 0 (omega arith))) _ ∙ stmts_end n (k + 1) rest (λ j o. let q : k + suc j ≡ k + 1 + j = omega arith in rw q at (h (suc j) (omega arith)))

  block_whole : whole (expr_of b i r) ≡ same (end_type (last_at (field b i r) (λ k. tree b i (field b i r k)) (2 + field b i r 1))) (type_of b i t)
  unfolding whole as_expr
  block_whole =
      ap whole (made g)
      ∙ rw (g.is, stmts_end (field b i r 1) 2 _ (λ j h. each_stands g.marked.stands EB g.marked.is (2 + j) j 0 (omega arith) h tt tt))

  -- there is no end; e is its end, whose type is record p
  pub block_none : None ≡ block_end (field b i r) → Tests (whole (expr_of b i r)) (same (type_of b i t) one ∷ [])
  unfolding end_type
  block_none o = record { is = block_whole ∙ rw (unended_last g.marked o) (same_turned one (type_of b i t)) }

  pub block_is : {e p : ℕ} → Some e ≡ block_end (field b i r) → Is b i p (type_is (expr_of b i e)) → Tests (whole (expr_of b i r)) (same (type_of b i p) (type_of b i t) ∷ [])
  unfolding end_type
  block_is o w = record { is = block_whole ∙ rw (ended_last g.marked o, w.1) }
