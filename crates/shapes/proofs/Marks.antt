-- Which construct a mark is: what a match has shown, the marks that are left where no arm fits, and what is asked of a value by its mark.
-- Assumes nothing.
use Prim.Native.Nat.{ℕ, ◌≤◌, ◌<◌}
use mathlib.Core.Bool.{Bool, true, false}
use mathlib.Core.List.{List, [], ◌∷◌}
use mathlib.Core.Path.{◌≡◌, refl, sym, ◌∙◌}
use borrow.Author.Tests.{lt-leb}
use lib.Dec.{T, eqb, leb, ltb, eqb→eq}
use lib.ListN.{get_or}
use Rattle.laws.specs.Table.{pick, among, ◌also◌, every}
use Rattle.simplicity.specs.Types.{one, product, same}
use Rattle.book.specs.Format.{TS, TP, TYPE, VALUE, VU, VL, VR, VP, EC, EW, EV, ET, EL, E0, E1, EN, EB, EM, EH, CJ, CL, CR, CD, CA, CP, CN, CK, CF, CQ, CY, CW, CH}
use Rattle.book.specs.Index.{mark, field, Lies}
use Rattle.book.specs.Stands.{Stands}
use Rattle.book.specs.Tree.{as_expr, type_of, expr_of, declared_of}
use Rattle.book.proofs.Roles.{layout, is_kind}
use Rattle.book.proofs.Standing.{stands_mark, stands_tree, head_lies, head_stands}
use Rattle.parts.specs.Parts.{Marked}
use Rattle.shapes.specs.Shapes.{is_at, whole}
use Rattle.shapes.specs.Views.{side_is}
use Rattle.shapes.specs.Wholes.{Declares, value_agrees}
use Rattle.shapes.proofs.Sides.{same_not, same_product}
use Rattle.shapes.proofs.Declared.{value_declares}
use Rattle.shapes.proofs.Walks.{Tests}
use Rattle.shapes.proofs.Constructs.{Is}

-- the mark is n, of a record whose declared type is known and of one whose first field was read
pub typed_at : {b i : List ℕ} {r m t : ℕ} → Declares b i r m t → (n : ℕ) → m ≡ n → Declares b i r n t
typed_at g n e = rw (← e) g

pub typed_as : {b i : List ℕ} {r m t : ℕ} → Marked b i r m → t ≡ field b i r 0 → (n : ℕ) → m ≡ n → Declares b i r n t
typed_as g z n e = rw (← e) (record { marked = g; is = z })

-- the marks of calls and of other expressions, but for those of which nothing is asked
abbrev pub call_marks : List ℕ
call_marks = CJ ∷ CL ∷ CR ∷ CD ∷ CA ∷ CN ∷ CK ∷ CF ∷ CQ ∷ CY ∷ CW ∷ CH ∷ []

abbrev pub other_marks : List ℕ
other_marks = EC ∷ ET ∷ EL ∷ E0 ∷ E1 ∷ EN ∷ EB ∷ EM ∷ EH ∷ []

abbrev free_marks : List ℕ
free_marks = EW ∷ EV ∷ CP ∷ []

-- where none of the marks ks fits, and those that c tells are looked at elsewhere, nothing is asked
abbrev left : List ℕ → (ℕ → Bool) → ℕ → Bool
left ks c m = pick (c m) true (pick (among ks m) true (among free_marks m))

module _ {b i : List ℕ} {r m : ℕ} (g : Marked b i r m) where
  -- at one of the free marks; where no mark of ks fits; after the calls' marks; after the others
  free_whole : T (among free_marks m) → true ≡ whole (expr_of b i r)
  unfolding whole as_expr
  free_whole t = every free_marks (λ n. mark b i r ≡ n → true ≡ whole (expr_of b i r))
      ((λ e. rw (stands_tree g.stands EW e)) also (λ e. rw (stands_tree g.stands EV e)) also (λ e. rw (stands_tree g.stands CP e)) also tt)
      m t g.is

  left_whole : (ks : List ℕ) (c : ℕ → Bool) → T (left ks c (mark b i r)) → c m ≡ false → among ks m ≡ false → true ≡ whole (expr_of b i r)
  left_whole ks c t n f =
      let u : T (left ks c m) = rw g.is at t in
      let v : T (among free_marks m) = rw (n, f) at u in
      free_whole v

  pub call_rest : CJ ≤ m → among call_marks m ≡ false → true ≡ whole (expr_of b i r)
  call_rest h f = left_whole call_marks (λ n. leb n EH) (stands_mark g.stands (left call_marks (λ n. leb n EH)) tt tt) (lt-leb m EH h) f

  pub other_rest : m < CJ → among other_marks m ≡ false → true ≡ whole (expr_of b i r)
  other_rest h f = left_whole other_marks (λ n. leb CJ n) (stands_mark g.stands (left other_marks (λ n. leb CJ n)) tt tt) (lt-leb CJ m h) f

-- a value, and its mark x
module _ {b i : List ℕ} {r x : ℕ} (s : Stands b i r VALUE) (e : x ≡ mark b i r) where
  -- its fields, by the mark
  module _ (m : ℕ) (q : x ≡ m) where
    pub value_lies : (k : ℕ) → T (ltb k (layout m).heads) → Lies b i r k
    value_lies k t = head_lies s m (sym e ∙ q) k t

    pub value_names : (k : ℕ) → T (ltb k (layout m).heads) → T (is_kind (get_or (layout m).head k 0)) → Stands b i (field b i r k) (get_or (layout m).head k 0)
    value_names k t o = head_stands s m (sym e ∙ q) k t o

  -- the mark that is left is a pair's
  pub pair_rest : among (VU ∷ VL ∷ VR ∷ []) x ≡ false → mark b i r ≡ VP
  pair_rest f =
      let t : T (pick (among (VU ∷ VL ∷ VR ∷ []) (mark b i r)) true (eqb (mark b i r) VP)) = stands_mark s (λ m. pick (among (VU ∷ VL ∷ VR ∷ []) m) true (eqb m VP)) tt tt in
      let u : T (pick (among (VU ∷ VL ∷ VR ∷ []) x) true (eqb x VP)) = rw (← e) at t in
      let v : T (eqb x VP) = rw f at u in
      sym e ∙ eqb→eq x VP v

  -- what is asked of its declared type t: of unit, of left and right of a part of type p
  module _ {t : ℕ} (z : t ≡ field b i r 0) where
    pub value_type_stands : Stands b i t TYPE
    value_type_stands = rw z (value_declares s).stands

    pub value_unit : x ≡ VU → Tests (value_agrees b i r) (same (type_of b i t) one ∷ [])
    unfolding value_agrees
    value_unit q = record { is = rw (z, sym e ∙ q) }

    module _ {p : ℕ} (a : Is b i p (declared_of b i (field b i r 1))) where
      pub value_left : x ≡ VL → Tests (value_agrees b i r) (is_at (side_is TS 0 (type_of b i t)) (type_of b i p) ∷ [])
      unfolding value_agrees
      value_left q = record { is = rw (z, sym e ∙ q, a.1) }

      pub value_right : x ≡ VR → Tests (value_agrees b i r) (is_at (side_is TS 1 (type_of b i t)) (type_of b i p) ∷ [])
      unfolding value_agrees
      value_right q = record { is = rw (z, sym e ∙ q, a.1) }

-- a pair of declared type t, and the mark of that
module _ {b i : List ℕ} {r t : ℕ} (v : Stands b i r VALUE) (e : mark b i r ≡ VP) (z : t ≡ field b i r 0) where
  pub pair_type : Stands b i t TYPE
  pair_type = value_type_stands v refl z

  pair_whole : value_agrees b i r ≡ same (type_of b i t) (product (declared_of b i (field b i r 1)) (declared_of b i (field b i r 2)))
  unfolding value_agrees
  pair_whole = rw (z, e)

  pub pair_not : {m : ℕ} → m ≡ mark b i t → (m ≡ TP → ⊥) → false ≡ value_agrees b i r
  pair_not o h = sym (pair_whole ∙ same_not pair_type o (product (declared_of b i (field b i r 1)) (declared_of b i (field b i r 2))) refl h)

  pub pair_is : {m x y : ℕ} → m ≡ mark b i t → m ≡ TP → x ≡ field b i t 0 → y ≡ field b i t 1 → Tests (value_agrees b i r) (same (type_of b i x) (declared_of b i (field b i r 1)) ∷ same (type_of b i y) (declared_of b i (field b i r 2)) ∷ [])
  pair_is o q u w = record { is = pair_whole ∙ same_product pair_type o u w (declared_of b i (field b i r 1)) (declared_of b i (field b i r 2)) q }
