-- What the records of CHECK's cycle name: each part stands, is earlier, and is less deep.
-- Assumes nothing.
use Prim.Native.Nat.{ℕ, zero, suc, ◌+◌, ◌*◌, ◌≤◌, ◌<◌}
use mathlib.Core.Bool.{Bool, true, false}
use mathlib.Core.List.{List}
use mathlib.Core.Path.{◌≡◌, refl, sym, ap, subst, ◌∙◌}
use native.Mathlib.Omega.{arith}
use lib.Dec.{T, eqb, ltb, leb, leb→le, eqb→eq}
use lib.ListN.{get_or}
use Rattle.std.specs.Prelude.{Ok, Some}
use Rattle.std.specs.Result.{result_and}
use Rattle.laws.specs.Table.{pick, both, among, both_left, both_right}
use Rattle.book.specs.Format.{PATTERN, EXPRESSION, STATEMENT, FUNCTION, SA, SE, EB, EM, EH, CK, FN, END, within, in_range}
use Rattle.book.specs.Index.{mark, field, named, depth, Lies}
use Rattle.book.specs.Stands.{Stands}
use Rattle.book.specs.Tree.{expr_of}
use Rattle.book.proofs.Built.{group_next, group_none}
use Rattle.book.proofs.Roles.{Field, layout, is_kind, names_end, head_field, each_field, last_field}
use Rattle.book.proofs.Standing.{stands_mark, field_in, field_stands, field_below, end_stands, end_below, head_lies, head_most, head_ranged, function_mark}
use Rattle.parts.specs.Parts.{Marked, Spanned, row_marks, span_at, block_end}
use Rattle.parts.proofs.Blocks.{ended_is, ended_some}
use Rattle.parts.specs.declared.view.Span.{Span}
use Rattle.parts.proofs.Spans.{span_field, stmt_field, does_mark}
use Rattle.binders.specs.Binders.{Binding}
use Rattle.typing.specs.Check.{check}
use Rattle.typing.specs.Cycle.{ArmAt, ArmsAt, checks_at}
use Rattle.typing.proofs.Depths.{field_shallower, kind_shallower}

-- record x, of kind kd, is a part of record r
pub record Part (b i : List ℕ) (r x kd : ℕ) : Type 0 where
  pub stands : Stands b i x kd
  pub below : x < r
  pub shallower : depth b i x < depth b i r

-- what a field with a kind's role names
pub part_of : {b i : List ℕ} {r kd k w x : ℕ} → Stands b i r kd → Field b i r k w → T (is_kind w) → x ≡ field b i r k → Part b i r x w
part_of s f t e = rw e (record { stands = field_stands s f t; below = field_below s f t; shallower = kind_shallower s f t })

-- field k of the head of a record of mark m, whose role is kd
module _ {b i : List ℕ} {r kd : ℕ} (s : Stands b i r kd) (m : ℕ) (is : mark b i r ≡ m) (k w : ℕ) (t : T (both (ltb k (layout m).heads) (eqb (get_or (layout m).head k 0) w))) where
  pub head_role : Field b i r k w
  head_role = subst (Field b i r k) (eqb→eq _ _ (both_right (ltb k (layout m).heads) _ t)) (head_field b i r m is k (both_left (ltb k (layout m).heads) _ t))

  pub head_part : T (is_kind w) → {x : ℕ} → x ≡ field b i r k → Part b i r x w
  head_part o e = part_of s head_role o e

  pub head_in : Lies b i r k
  head_in = field_in s head_role

-- the elements of a row, in a group of fields
module _ (b i : List ℕ) (r : ℕ) (sc : List Binding) (s : ℕ) where
  pub checks_next : (j n l : ℕ) → n ≡ suc l → checks_at b i r sc s j n ≡ result_and (check (expr_of b i (field b i r j)) sc) (checks_at b i r sc s (j + s) l)
  unfolding checks_at
  checks_next j n l e = group_next s (Ok tt) _ j n (j + s) l e refl

  pub checks_none : (j n : ℕ) → n ≡ 0 → checks_at b i r sc s j n ≡ Ok tt
  unfolding checks_at
  checks_none j n e = group_none s (Ok tt) _ j n e

-- element k of a record's span: a mark that has no row has no elements
module _ {b i : List ℕ} {r m : ℕ} (g : Marked b i r m) {p : Span} (v : Spanned b i r m p) (k : ℕ) (h : k < p.count) where
  row_mark : T (among row_marks m)
  unfolding span_at
  row_mark =
      go (among row_marks m) refl (rw g.is at (stands_mark g.stands (λ j. pick (among row_marks j) true (eqb (span_at j (field b i r)).count 0)) tt tt))
    where
      go : (t : Bool) → among row_marks m ≡ t → T (pick t true (eqb (span_at m (field b i r)).count 0)) → T t
      go true e u = tt
      go false e u = absurd (let z : p.count ≡ 0 = ap (λ (q : Span). q.count) v.is ∙ eqb→eq _ _ u in omega arith)

  in_row : Field b i r (p.from + p.stride * k) EXPRESSION
  in_row = span_field g row_mark v.is k h

  pub row_lies : Lies b i r (p.from + p.stride * k)
  row_lies = field_in g.stands in_row

  pub row_part : {x : ℕ} → x ≡ field b i r (p.from + p.stride * k) → Part b i r x EXPRESSION
  row_part e = part_of g.stands in_row tt e

-- a record and its mark, as it was read
module _ {b i : List ℕ} {r m : ℕ} (k : Stands b i r EXPRESSION) (e : m ≡ mark b i r) where
  pub marked : Marked b i r m
  marked = record { stands = k; is = sym e }

-- a block's statements, and its end
module _ {b i : List ℕ} {r : ℕ} (g : Marked b i r EB) where
  pub block_lies : Lies b i r 1
  block_lies = head_lies g.stands EB g.is 1 tt

  pub block_most : {n : ℕ} → n ≡ field b i r 1 → n ≤ 256
  block_most e = rw e (head_most g.stands EB g.is 1 tt refl)

  pub stmt_part : (k : ℕ) → k < field b i r 1 → {x : ℕ} → x ≡ field b i r (2 + k) → Part b i r x STATEMENT
  stmt_part k h e = part_of g.stands (stmt_field g k h) tt e

  end_field : Field b i r (2 + field b i r 1) END
  end_field = last_field b i r EB g.is (2 + field b i r 1) (omega arith) tt

  pub end_part : {x : ℕ} → Some x ≡ block_end (field b i r) → Part b i r x EXPRESSION
  end_part q =
      let l = end_below g.stands end_field refl (ended_some _ q) in
      let y : named b i r (2 + field b i r 1) ≡ EXPRESSION = rw end_field.is (names_end (field b i r (2 + field b i r 1)) (ended_some _ q)) in
      rw (ended_is (field b i r) q) (record { stands = end_stands g.stands end_field refl (ended_some _ q); below = l; shallower = field_shallower end_field y (λ q. omega arith) l })

-- what a statement names
module _ {b i : List ℕ} {s : ℕ} (k : Stands b i s STATEMENT) where
  module _ (n : mark b i s ≡ SA → ⊥) where
    pub does_lies : Lies b i s 0
    does_lies = head_in k SE (does_mark k n) 0 EXPRESSION tt

    pub does_part : {x : ℕ} → x ≡ field b i s 0 → Part b i s x EXPRESSION
    does_part e = head_part k SE (does_mark k n) 0 EXPRESSION tt tt e

  module _ (is : mark b i s ≡ SA) where
    pub bound_lies : Lies b i s 0
    bound_lies = head_in k SA is 0 PATTERN tt

    pub bound_part : {x : ℕ} → x ≡ field b i s 0 → Part b i s x PATTERN
    bound_part e = head_part k SA is 0 PATTERN tt tt e

    pub value_lies : Lies b i s 1
    value_lies = head_in k SA is 1 EXPRESSION tt

    pub value_part : {x : ℕ} → x ≡ field b i s 1 → Part b i s x EXPRESSION
    value_part e = head_part k SA is 1 EXPRESSION tt tt e

-- an arm, and what it names
arm_of_lem : {b i : List ℕ} {r j : ℕ} → Stands b i r EXPRESSION → Field b i r j PATTERN → Field b i r (j + 1) EXPRESSION → ArmAt b i r j
arm_of_lem s p e = record {
  lies = field_in s p;
  then_lies = field_in s e;
  pattern = field_stands s p tt;
  body = field_stands s e tt;
  below = field_below s e tt;
  shallower = kind_shallower s e tt;
}

-- a match of two arms
module _ {b i : List ℕ} {r : ℕ} (g : Marked b i r EM) where
  two_at : (k : ℕ) → k < 2 → ArmAt b i r (2 + 2 * k)
  two_at zero h = arm_of_lem g.stands (head_role g.stands EM g.is 2 PATTERN tt) (head_role g.stands EM g.is 3 EXPRESSION tt)
  two_at (suc zero) h = arm_of_lem g.stands (head_role g.stands EM g.is 4 PATTERN tt) (head_role g.stands EM g.is 5 EXPRESSION tt)
  two_at (suc (suc k)) h = absurd (omega arith)

  pub two_arms : ArmsAt b i r 2 2
  two_arms = let p = head_part g.stands EM g.is 1 EXPRESSION tt tt refl in record {
    some = omega arith;
    few = omega arith;
    low = omega arith;
    lies = head_in g.stands EM g.is 1 EXPRESSION tt;
    scrutinee = p.stands;
    below = p.below;
    shallower = p.shallower;
    each = two_at;
  }

-- an enum's match
module _ {b i : List ℕ} {r : ℕ} (g : Marked b i r EH) where
  pub arms_count : Lies b i r 2
  arms_count = head_lies g.stands EH g.is 2 tt

  pub enum_arms : (n : ℕ) → n ≡ field b i r 2 → ArmsAt b i r 3 n
  unfolding in_range within
  enum_arms n z =
      let p = head_part g.stands EH g.is 1 EXPRESSION tt tt refl in
      let t : T (within 1 256 (field b i r 2)) = head_ranged g.stands EH g.is 2 tt in
      record {
        some = omega (arith, leb→le 1 (field b i r 2) (both_left (leb 1 (field b i r 2)) _ t));
        few = omega (arith, leb→le (field b i r 2) 256 (both_right (leb 1 (field b i r 2)) _ t));
        low = omega arith;
        lies = head_in g.stands EH g.is 1 EXPRESSION tt;
        scrutinee = p.stands;
        below = p.below;
        shallower = p.shallower;
        each = λ k h. arm_of_lem g.stands
            (each_field b i r EH g.is (3 + 2 * k) k 0 (omega arith) (omega arith) tt)
            (each_field b i r EH g.is (3 + 2 * k + 1) k 1 (omega arith) (omega arith) tt);
      }

-- a cast's part
module _ {b i : List ℕ} {r : ℕ} (g : Marked b i r CK) where
  pub cast_lies : Lies b i r 1
  cast_lies = head_in g.stands CK g.is 1 EXPRESSION tt

  pub cast_part : {x : ℕ} → x ≡ field b i r 1 → Part b i r x EXPRESSION
  cast_part e = head_part g.stands CK g.is 1 EXPRESSION tt tt e

-- a function's body
module _ {b i : List ℕ} {f : ℕ} (k : Stands b i f FUNCTION) where
  pub params_lie : Lies b i f 1
  params_lie = head_lies k FN (function_mark k) 1 tt

  pub gives_lies : Lies b i f 0
  gives_lies = head_lies k FN (function_mark k) 0 tt

  module _ (n : ℕ) (z : n ≡ field b i f 1) where
    body_field : Field b i f (2 + 2 * n) EXPRESSION
    body_field = last_field b i f FN (function_mark k) (2 + 2 * n) (rw z (omega arith)) tt

    pub body_lies : Lies b i f (2 + 2 * n)
    body_lies = field_in k body_field

    pub body_part : {x : ℕ} → x ≡ field b i f (2 + 2 * n) → Part b i f x EXPRESSION
    body_part e = part_of k body_field tt e
