-- Laws of a record's row: each element's field names an earlier expression, each arm of an enum's match has a pattern before it, and a block's fields name earlier statements.
-- Assumes nothing.
use Prim.Native.Nat.{ℕ, ◌+◌, ◌-◌, ◌*◌, ◌≤◌, ◌<◌}
use mathlib.Core.Bool.{Bool, true}
use mathlib.Core.List.{List}
use mathlib.Core.Path.{◌≡◌, subst, ◌∙◌}
use native.Mathlib.Nat.{le_trans, mul_comm, mul-le-mul}
use native.Mathlib.Omega.{arith}
use borrow.Author.Tests.{ne_eqb}
use lib.Dec.{T, eqb, ltb, eqb→eq}
use lib.ListN.{get_or}
use Rattle.laws.specs.Table.{pick, both, below, among, all_below, both_left, both_right, ◌also◌, every}
use Rattle.book.specs.Format.{EXPRESSION, PATTERN, STATEMENT, ET, EL, E0, E1, EN, EB, SA, SE, EH, CJ, CL, CR, CD, CA, CP, CN, CF, CQ, CY, CW, CH}
use Rattle.book.specs.Index.{mark, field, Lies}
use Rattle.book.specs.Stands.{Stands}
use Rattle.book.proofs.Roles.{Field, layout, counted, head_field, each_field}
use Rattle.book.proofs.Standing.{stands_mark, field_in, field_stands, field_below}
use Rattle.parts.specs.Parts.{Marked, Stated, row_marks, span, span_at}
use Rattle.parts.specs.declared.view.Span.{Span}

-- a mark's row in the head; a mark's row in the group, at its e-th place: both tests compute at a mark that is written out
abbrev in_head : ℕ → Span → ℕ → ℕ → Bool
in_head m p w k = let j = p.from + p.stride * k in both (ltb j (layout m).heads) (eqb (get_or (layout m).head j 0) w)

abbrev in_group : ℕ → ℕ → ℕ → ℕ → ℕ → Bool
in_group m f s e w = both (both (eqb f ((layout m).heads + e)) (eqb s (layout m).eachs)) (both (ltb e (layout m).eachs) (eqb (get_or (layout m).each e 0) w))

module _ {b i : List ℕ} {r : ℕ} (m : ℕ) (is : mark b i r ≡ m) where
  by_head : (p : Span) (w : ℕ) → T (below (in_head m p w) p.count) → (k : ℕ) → k < p.count → Field b i r (p.from + p.stride * k) w
  by_head p w t k h =
      let j = p.from + p.stride * k in
      let u = all_below (in_head m p w) p.count t k h in
      let e : get_or (layout m).head j 0 ≡ w = eqb→eq _ _ (both_right (ltb j (layout m).heads) _ u) in
      subst (Field b i r j) e (head_field b i r m is j (both_left (ltb j (layout m).heads) _ u))

  by_group : (f s e w : ℕ) → T (in_group m f s e w) → (k : ℕ) → k < counted m (field b i r) → Field b i r (f + s * k) w
  by_group f s e w t k h =
      let u = both_left (both (eqb f ((layout m).heads + e)) (eqb s (layout m).eachs)) _ t in
      let v = both_right (both (eqb f ((layout m).heads + e)) (eqb s (layout m).eachs)) _ t in
      let from_is : f ≡ (layout m).heads + e = eqb→eq _ _ (both_left (eqb f ((layout m).heads + e)) _ u) in
      let stride_is : s ≡ (layout m).eachs = eqb→eq _ _ (both_right (eqb f ((layout m).heads + e)) _ u) in
      let z : f + s * k ≡ (layout m).heads + k * (layout m).eachs + e = rw (stride_is, mul_comm (layout m).eachs k) (omega arith) in
      subst (Field b i r (f + s * k)) (eqb→eq _ _ (both_right (ltb e (layout m).eachs) _ v)) (each_field b i r m is (f + s * k) k e z h (both_left (ltb e (layout m).eachs) _ v))

-- the places of mark m's row
abbrev Placed : List ℕ → List ℕ → ℕ → ℕ → Type 0
Placed b i r m = let p = span_at m (field b i r) in mark b i r ≡ m → (k : ℕ) → k < p.count → Field b i r (p.from + p.stride * k) EXPRESSION

placed : (b i : List ℕ) (r m : ℕ) → T (among row_marks m) → Placed b i r m
unfolding span_at
placed b i r m t = every row_marks (Placed b i r)
    ((λ is. by_group ET is 2 1 0 EXPRESSION tt)
    also (λ is. by_group EL is 3 1 0 EXPRESSION tt)
    also (λ is. by_head E0 is (span 1 1 1) EXPRESSION tt)
    also (λ is. by_head E1 is (span 1 1 1) EXPRESSION tt)
    also (λ is. by_group EN is 4 1 0 EXPRESSION tt)
    also (λ is. by_group EH is 4 2 1 EXPRESSION tt)
    also (λ is. by_group CJ is 4 1 0 EXPRESSION tt)
    also (λ is. by_head CL is (span 2 1 1) EXPRESSION tt)
    also (λ is. by_head CR is (span 2 1 1) EXPRESSION tt)
    also (λ is. by_head CD is (span 2 1 1) EXPRESSION tt)
    also (λ is. by_head CA is (span 2 1 1) EXPRESSION tt)
    also (λ is. by_head CP is (span 0 1 0) EXPRESSION tt)
    also (λ is. by_head CN is (span 1 1 1) EXPRESSION tt)
    also (λ is. by_group CF is 3 1 0 EXPRESSION tt)
    also (λ is. by_head CQ is (span 3 1 2) EXPRESSION tt)
    also (λ is. by_head CY is (span 3 1 2) EXPRESSION tt)
    also (λ is. by_head CW is (span 3 1 2) EXPRESSION tt)
    also (λ is. by_group CH is 4 2 1 EXPRESSION tt)
    also tt)
    m t

-- element k of the span p of record r
module _ {b i : List ℕ} {r m : ℕ} (g : Marked b i r m) (t : T (among row_marks m)) {p : Span} (e : p ≡ span_at m (field b i r)) (k : ℕ) (h : k < p.count) where
  pub span_field : Field b i r (p.from + p.stride * k) EXPRESSION
  span_field = rw e (placed b i r m t g.is k (rw e at h))

  pub span_lies : Lies b i r (p.from + p.stride * k)
  span_lies = field_in g.stands span_field

  pub span_stands : Stands b i (field b i r (p.from + p.stride * k)) EXPRESSION
  span_stands = field_stands g.stands span_field tt

  pub span_below : field b i r (p.from + p.stride * k) < r
  span_below = field_below g.stands span_field tt

-- the pattern of arm k of an enum's match, which is the field before the arm's expression
module _ {b i : List ℕ} {r m : ℕ} (g : Marked b i r m) (is : m ≡ EH) {p : Span} (e : p ≡ span_at m (field b i r)) (k : ℕ) (h : k < p.count) where
  span_is : p ≡ span 4 2 (field b i r 2)
  unfolding span_at
  span_is = e ∙ rw is

  arm_field : Field b i r (p.from + p.stride * k - 1) PATTERN
  arm_field =
      let z : 3 + 2 * k ≡ 4 + 2 * k - 1 = omega arith in
      let n : k < field b i r 2 = rw span_is at h in
      rw (span_is, ← z) (by_group EH (g.is ∙ is) 3 2 0 PATTERN tt k n)

  pub arm_some : 0 < p.from + p.stride * k
  arm_some = rw span_is (omega arith)

  pub arm_lies : Lies b i r (p.from + p.stride * k - 1)
  arm_lies = field_in g.stands arm_field

  pub arm_stands : Stands b i (field b i r (p.from + p.stride * k - 1)) PATTERN
  arm_stands = field_stands g.stands arm_field tt

-- statement k of a block
module _ {b i : List ℕ} {r : ℕ} (g : Marked b i r EB) (k : ℕ) (h : k < field b i r 1) where
  pub stmt_field : Field b i r (2 + k) STATEMENT
  stmt_field = each_field b i r EB g.is (2 + k) k 0 (omega arith) h tt

  pub stmt_lies : Lies b i r (2 + k)
  stmt_lies = field_in g.stands stmt_field

  pub stmt_stands : {s : ℕ} → s ≡ field b i r (2 + k) → Stated b i s
  stmt_stands e = rw e (field_stands g.stands stmt_field tt)

  pub stmt_below : field b i r (2 + k) < r
  stmt_below = field_below g.stands stmt_field tt

-- a statement's mark
pub does_mark : {b i : List ℕ} {s : ℕ} → Stands b i s STATEMENT → (mark b i s ≡ SA → ⊥) → mark b i s ≡ SE
does_mark {b} {i} {s} k e = eqb→eq (mark b i s) SE (rw (ne_eqb (mark b i s) SA e) at (stands_mark k (λ j. pick (eqb j SA) true (eqb j SE)) tt tt))

-- how far it is to an element
pub near_most : (s k : ℕ) → s ≤ 2 → k ≤ 256 → s * k ≤ 512
near_most s k h l = le_trans (mul-le-mul h l) (omega arith)
