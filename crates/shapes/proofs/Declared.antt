-- An expression's declared type, and a value's, is the type that its record's first field names.
-- Assumes nothing.
use Prim.Native.Nat.{ℕ}
use mathlib.Core.Bool.{Bool}
use mathlib.Core.List.{List, [], ◌∷◌}
use mathlib.Core.Path.{◌≡◌, refl, subst}
use lib.Dec.{T, eqb, ltb, eqb→eq}
use lib.ListN.{get_or}
use Rattle.laws.specs.Table.{both, among, both_left, both_right, ◌also◌, every}
use Rattle.simplicity.specs.Types.{Ty}
use Rattle.book.specs.Format.{TYPE, VALUE, EXPRESSION, VU, VL, VR, VP, EC, EW, EV, ET, EL, E0, E1, EN, EB, EM, EH, CJ, CL, CR, CD, CA, CP, CN, CK, CF, CQ, CY, CW, CH}
use Rattle.book.specs.Index.{mark, field, Lies}
use Rattle.book.specs.Stands.{Stands}
use Rattle.book.specs.Tree.{Tree, as_type, as_expr, declared, maker, tree, type_of, expr_of, declared_of}
use Rattle.book.proofs.Roles.{Field, layout, head_field}
use Rattle.book.proofs.Standing.{stands_mark, stands_tree, field_in, field_stands}
use Rattle.shapes.specs.Shapes.{type_is}

-- the first field of record r lies in the book and names a type, which is t
pub record Declares (b i : List ℕ) (r : ℕ) (t : Ty) : Type 0 where
  pub lies : Lies b i r 0
  pub stands : Stands b i (field b i r 0) TYPE
  pub is : type_of b i (field b i r 0) ≡ t

-- the type that f reads off the tree of a record of mark m is its first field's
abbrev Tells : (Tree → Ty) → ℕ → Type 0
Tells f m = (r : ℕ) (x : ℕ → ℕ) (a : ℕ → Tree) → as_type (a 0) ≡ f (maker m r x a)

-- whether a mark's first field names a type
abbrev first : ℕ → Bool
first m = both (ltb 0 (layout m).heads) (eqb (get_or (layout m).head 0 0) TYPE)

module _ {b i : List ℕ} {r kd : ℕ} (s : Stands b i r kd) where
  declares : (f : Tree → Ty) → T (first (mark b i r)) → Tells f (mark b i r) → Declares b i r (f (tree b i r))
  declares f t o =
      let m = mark b i r in
      let l : Field b i r 0 TYPE = subst (Field b i r 0) (eqb→eq (get_or (layout m).head 0 0) TYPE (both_right (ltb 0 (layout m).heads) _ t)) (head_field b i r m refl 0 (both_left (ltb 0 (layout m).heads) _ t)) in
      record { lies = field_in s l; stands = field_stands s l tt; is = rw (stands_tree s m refl) (o r (field b i r) (λ k. tree b i (field b i r k))) }

-- the marks of expressions; of values
abbrev expr_marks : List ℕ
expr_marks = EC ∷ EW ∷ EV ∷ ET ∷ EL ∷ E0 ∷ E1 ∷ EN ∷ EB ∷ EM ∷ EH ∷ CJ ∷ CL ∷ CR ∷ CD ∷ CA ∷ CP ∷ CN ∷ CK ∷ CF ∷ CQ ∷ CY ∷ CW ∷ CH ∷ []

abbrev value_marks : List ℕ
value_marks = VU ∷ VL ∷ VR ∷ VP ∷ []

expr_tells : (m : ℕ) → T (among expr_marks m) → Tells (λ t. type_is (as_expr t)) m
unfolding type_is as_expr
expr_tells = every expr_marks (Tells (λ t. type_is (as_expr t)))
    ((λ r x a. refl) also (λ r x a. refl) also (λ r x a. refl) also (λ r x a. refl) also (λ r x a. refl) also (λ r x a. refl)
    also (λ r x a. refl) also (λ r x a. refl) also (λ r x a. refl) also (λ r x a. refl) also (λ r x a. refl) also (λ r x a. refl)
    also (λ r x a. refl) also (λ r x a. refl) also (λ r x a. refl) also (λ r x a. refl) also (λ r x a. refl) also (λ r x a. refl)
    also (λ r x a. refl) also (λ r x a. refl) also (λ r x a. refl) also (λ r x a. refl) also (λ r x a. refl) also (λ r x a. refl)
    also tt)

value_tells : (m : ℕ) → T (among value_marks m) → Tells declared m
unfolding declared
value_tells = every value_marks (Tells declared) ((λ r x a. refl) also (λ r x a. refl) also (λ r x a. refl) also (λ r x a. refl) also tt)

-- an expression's declared type; a value's
module _ {b i : List ℕ} {r : ℕ} where
  pub expr_declares : Stands b i r EXPRESSION → Declares b i r (type_is (expr_of b i r))
  expr_declares s = declares s (λ t. type_is (as_expr t)) (stands_mark s first tt tt) (expr_tells (mark b i r) (stands_mark s (among expr_marks) tt tt))

  pub value_declares : Stands b i r VALUE → Declares b i r (declared_of b i r)
  value_declares s = declares s declared (stands_mark s first tt tt) (value_tells (mark b i r) (stands_mark s (among value_marks) tt tt))
