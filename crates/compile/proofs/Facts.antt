-- What the cycle knows of the records and scopes that it goes on to.
-- Assumes nothing.
use Prim.Native.Nat.{ℕ, ◌+◌, ◌*◌, ◌≤◌, ◌<◌}
use mathlib.Core.Bool.{Bool, true}
use mathlib.Core.List.{List, [], ◌∷◌}
use mathlib.Core.Path.{◌≡◌, refl, sym, subst, ◌∙◌}
use native.Mathlib.Omega.{arith}
use borrow.Author.Tests.{eq-eqb, ne_eqb}
use lib.Dec.{T, eqb, ltb, eqb→eq}
use lib.ListN.{length, get_or}
use Rattle.std.specs.Prelude.{Result, Ok}
use Rattle.laws.specs.Order.{by_lt}
use Rattle.laws.specs.Table.{pick, both, among, both_left, both_right, every, ◌also◌}
use Rattle.book.specs.Format.{PATTERN, EXPRESSION, STATEMENT, FUNCTION, SA, SE, CF, CQ, CY, CW, FN}
use Rattle.book.specs.Index.{mark, field, Lies}
use Rattle.book.specs.Stands.{Stands}
use Rattle.book.specs.Tree.{expr_of, pattern_of}
use Rattle.book.specs.declared.fault.Refusal.{Refusal}
use Rattle.book.proofs.Roles.{layout, is_kind}
use Rattle.book.proofs.Standing.{stands_mark, function_mark, head_lies, head_stands, head_below, last_lies, last_stands, last_below}
use Rattle.named.specs.Stores.{Done}
use Rattle.named.specs.Table.{Table}
use Rattle.scope_bindings.specs.Scope.{scope_of, ScopeStands, of_pattern, Inserts}
use Rattle.scope_bindings.specs.declared.ScopeBindings.{ScopeBindings}
use Rattle.scope_bindings.proofs.Scopes.{bound_pattern, scope_count, scope_insert, insert_stands}
use Rattle.parts.specs.Parts.{Marked, Spanned, row_marks, is_functional}
use Rattle.parts.specs.declared.view.Span.{Span}
use Rattle.parts.proofs.Spans.{span_lies, span_stands, span_below, arm_some, arm_lies, arm_stands, does_mark}
use Rattle.compile.specs.Lower.{binding, lower}
use Rattle.compile.specs.Cycle.{begin_run, entered, InSpan, Enters}
use Rattle.compile.proofs.Blocks.{begun_fits}
use Rattle.compile.proofs.Steps.{at_fits}

-- what field k of a record names, where k is in the head of its mark
module _ {b i : List ℕ} {r m x : ℕ} (g : Marked b i r m) (k kd : ℕ) (t : T (both (ltb k (layout m).heads) (both (eqb (get_or (layout m).head k 0) kd) (is_kind kd)))) (e : x ≡ field b i r k) where
  role_is : get_or (layout m).head k 0 ≡ kd
  role_is = eqb→eq _ _ (both_left (eqb (get_or (layout m).head k 0) kd) (is_kind kd) (both_right (ltb k (layout m).heads) _ t))

  kind_is : T (is_kind (get_or (layout m).head k 0))
  kind_is = rw role_is (both_right (eqb (get_or (layout m).head k 0) kd) (is_kind kd) (both_right (ltb k (layout m).heads) _ t))

  pub head_is : Stands b i x kd
  head_is = rw e (subst (Stands b i (field b i r k)) role_is (head_stands g.stands m g.is k (both_left (ltb k (layout m).heads) _ t) kind_is))

  pub head_less : x < r
  head_less = rw e (head_below g.stands m g.is k (both_left (ltb k (layout m).heads) _ t) kind_is)

-- an element of a span
pub in_span : {b i : List ℕ} {r m : ℕ} {p : Span} → Marked b i r m → T (among row_marks m) → Spanned b i r m p → (k : ℕ) → k < p.count → InSpan b i r m (p.from + p.stride * k)
in_span g t s k h = record {
  lies = span_lies g t s.is k h;
  stands = span_stands g t s.is k h;
  below = span_below g t s.is k h;
  after = λ e. arm_some g e s.is k h;
  before = λ e. arm_lies g e s.is k h;
  pattern = λ e. arm_stands g e s.is k h;
}

-- what an assignment binds
pub head_named : {b i : List ℕ} {s x : ℕ} → Stands b i s STATEMENT → mark b i s ≡ SA → x ≡ field b i s 0 → Stands b i x PATTERN
head_named k is e = rw e (head_stands k SA is 0 tt tt)

-- an arm's scope
module _ {b i : List ℕ} {s s' : ScopeBindings} {p : ℕ} (v : ScopeStands b i s) (room : s.count < 256) (k : Stands b i p PATTERN) (n : Inserts s p s') where
  pub inner_is : scope_of b i s' ≡ pattern_of b i p ∷ scope_of b i s
  inner_is = scope_insert v room n ∙ rw (bound_pattern k)

  pub inner_stands : ScopeStands b i s'
  inner_stands = insert_stands v room (of_pattern k) n

  pub arm_done : {t t' : Table} {q : Result ℕ Refusal} (y : Bool) (r e : ℕ) → Done t (lower y (expr_of b i e) (scope_of b i s')) q t' → Done t (binding r (scope_of b i s) (lower y (expr_of b i e) (pattern_of b i p ∷ scope_of b i s))) q t'
  arm_done y r e d = at_fits (length (scope_of b i s)) r (rw scope_count room) (rw inner_is at d)

-- a function's body and scope
module _ {b i : List ℕ} {f n : ℕ} (k : Stands b i f FUNCTION) (e : n ≡ field b i f 1) where
  pub fn_lies : Lies b i f (2 + 2 * n)
  fn_lies = last_lies k FN (function_mark k) (2 + 2 * n) (rw e (omega arith)) tt

  module _ {x : ℕ} (z : x ≡ field b i f (2 + 2 * n)) where
    pub fn_stands : Stands b i x EXPRESSION
    fn_stands = rw z (last_stands k FN (function_mark k) (2 + 2 * n) (rw e (omega arith)) tt tt)

    pub fn_less : x < f
    fn_less = rw z (last_below k FN (function_mark k) (2 + 2 * n) (rw e (omega arith)) tt tt)

-- the scope after a statement
module _ {b i : List ℕ} {s : ℕ} {p : ScopeBindings} (v : ScopeStands b i p) where
  pub enters_does : (mark b i s ≡ SA → ⊥) → Enters b i s p p
  unfolding entered
  enters_does n = record { stands = v; is = λ o. rw (ne_eqb _ _ n) refl }

  pub enters_full : mark b i s ≡ SA → 256 ≤ p.count → Enters b i s p p
  enters_full m h = record { stands = v; is = λ o. absurd (omega (arith, o m)) }

  pub enters_more : {x : ℕ} {q : ScopeBindings} → mark b i s ≡ SA → p.count < 256 → x ≡ field b i s 0 → Stands b i x PATTERN → Inserts p x q → Enters b i s p q
  unfolding entered
  enters_more m h e k n = record { stands = inner_stands v h k n; is = λ o. rw (eq-eqb _ _ m, ← e) (inner_is v h k n) }

-- what a statement works out
module _ {b i : List ℕ} {s x : ℕ} (k : Stands b i s STATEMENT) where
  pub does_stands : (mark b i s ≡ SA → ⊥) → x ≡ field b i s 0 → Stands b i x EXPRESSION
  does_stands n e = rw e (head_stands k SE (does_mark k n) 0 tt tt)

  pub does_below : (mark b i s ≡ SA → ⊥) → x ≡ field b i s 0 → x < s
  does_below n e = rw e (head_below k SE (does_mark k n) 0 tt tt)

  pub value_stands : mark b i s ≡ SA → x ≡ field b i s 1 → Stands b i x EXPRESSION
  value_stands m e = rw e (head_stands k SA m 1 tt tt)

  pub value_below : mark b i s ≡ SA → x ≡ field b i s 1 → x < s
  value_below m e = rw e (head_below k SA m 1 tt tt)

-- the function that a call names
abbrev function_marks : List ℕ
function_marks = CF ∷ CQ ∷ CY ∷ CW ∷ []

abbrev NamesFun : List ℕ → List ℕ → ℕ → ℕ → Type 0
NamesFun b i r m = Marked b i r m → (Lies b i r 1) × (Stands b i (field b i r 1) FUNCTION) × (field b i r 1 < r)

names_at : (b i : List ℕ) (r m : ℕ) → T (both (ltb 1 (layout m).heads) (both (eqb (get_or (layout m).head 1 0) FUNCTION) (is_kind FUNCTION))) → NamesFun b i r m
names_at b i r m t g = (head_lies g.stands m g.is 1 (both_left (ltb 1 (layout m).heads) _ t), head_is g 1 FUNCTION t refl, head_less g 1 FUNCTION t refl)

module _ {b i : List ℕ} {r m : ℕ} (g : Marked b i r m) (f : is_functional m ≡ true) where
  names_fun : (Lies b i r 1) × (Stands b i (field b i r 1) FUNCTION) × (field b i r 1 < r)
  unfolding is_functional
  names_fun = every function_marks (NamesFun b i r)
      (names_at b i r CF tt also names_at b i r CQ tt also names_at b i r CY tt also names_at b i r CW tt also tt)
      m (rw (g.is, f) at (stands_mark g.stands (λ j. pick (is_functional j) (among function_marks j) true) tt tt)) g

  pub functional_lies : Lies b i r 1
  functional_lies = names_fun.0

  pub functional_stands : {x : ℕ} → x ≡ field b i r 1 → Stands b i x FUNCTION
  functional_stands e = rw e names_fun.1

  pub functional_below : {x : ℕ} → x ≡ field b i r 1 → x < r
  functional_below e = rw e names_fun.2

-- a record and its mark, as it was read
module _ {b i : List ℕ} {r m : ℕ} (k : Stands b i r EXPRESSION) (e : m ≡ mark b i r) where
  pub marked_as : Marked b i r m
  marked_as = record { stands = k; is = sym e }

  pub marked : (n : ℕ) → m ≡ n → Marked b i r n
  marked n z = record { stands = k; is = sym e ∙ z }

-- the scope after a statement that was begun
pub enters_is : {b i : List ℕ} {s : ℕ} {p o : ScopeBindings} (y : Bool) {t t' : Table} {a : ℕ} → Enters b i s p o → Done t (begin_run b i s y (scope_of b i p)) (Ok a) t' → scope_of b i o ≡ entered b i s (scope_of b i p)
enters_is {b} {i} {s} {p} y n d = n.is (λ is. by_lt p.count 256 (λ h. h) (λ h. absurd (begun_fits b i s y (scope_of b i p) is d (rw scope_count h))))
