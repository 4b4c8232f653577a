-- What the parts of CHECK that judge no expression come to: a variable, a binding, a function, a value.
-- Assumes nothing.
use Prim.Native.Nat.{ℕ, ◌+◌, ◌*◌, ◌<◌}
use mathlib.Core.Bool.{Bool, true, false, not}
use mathlib.Core.List.{List, ◌∷◌}
use mathlib.Core.Path.{◌≡◌, refl, sym, ap, subst, ◌∙◌}
use native.Mathlib.Omega.{arith}
use borrow.Author.Tests.{ne_eqb}
use lib.Dec.{eqb}
use lib.ListN.{length, get_or}
use Rattle.std.specs.Prelude.{Ok, Err, Option as Answer, Some, None}
use Rattle.std.specs.Result.{result_and}
use Rattle.simplicity.specs.Types.{same}
use Rattle.book.specs.Faults.{refusal}
use Rattle.book.specs.Format.{TYPE, PATTERN, EXPRESSION, FUNCTION, SA, EV, FN}
use Rattle.book.specs.Index.{mark, field}
use Rattle.book.specs.Stands.{Stands}
use Rattle.book.specs.Tree.{type_of, pattern_of, expr_of, fun_of, as_fun}
use Rattle.book.specs.declared.fault.Fault.TheVariants as faults
use Rattle.book.proofs.Standing.{stands_tree, head_stands, function_mark}
use Rattle.parts.specs.Parts.{Marked}
use Rattle.pattern.specs.Find.{params_of}
use Rattle.shapes.specs.Shapes.{type_is}
use Rattle.shapes.specs.Views.{Gives}
use Rattle.binders.specs.Binders.{fits, names, binding, twice, param_names, scope_in, type_for}
use Rattle.binders.specs.declared.Binding.{Binding as Entry}
use Rattle.binders.specs.Memos.{Known, Fitted, Live, entry_at, scope_of}
use Rattle.typing.specs.Check.{Checked, hold, agree, binds, known, check, check_fun}
use Rattle.typing.specs.Cycle.{Rows, Scoped, Enough, Stays, Holds, Bound, live_after}
use Rattle.typing.specs.declared.cycle.Judge.{Judge}
use Rattle.shapes.proofs.Same.{types_same, gives_none, gives_stands, gives_some}
use Rattle.typing.proofs.Marks.{variable_is}
use Rattle.typing.proofs.Judging.{passed_holds, Handed, handed_not, first_halts, first_passes, at_once}
use Rattle.typing.proofs.Scopes.{wider, wider_before, wider_length, wider_holds}
use Rattle.typing.proofs.Steps.{stays_of, both_halt, both_last}

-- a variable that is in scope, and one that is not: the search has written into the row of what was sought in vain
module _ {b i : List ℕ} {q : Judge} {n : ℕ} {base : Answer ℕ} (s : Scoped b i q n base) {r : ℕ} (g : Marked b i r EV) (x : ℕ) (z : x ≡ field b i r 1) where
  sought : {a : Checked} {ms : List Bool} → a ≡ check (expr_of b i r) (scope_of b i q.bindings n base) → length ms ≡ 4096 → Stays b i (check (expr_of b i r) (scope_of b i q.bindings n base)) n q a (record q { vain = ms })
  sought e l = record { is = e; doubled = refl; lent = refl; known = s.rows.known; missing = l; kept = refl; before = λ j h. refl }

  pub variable_none : {ms : List Bool} → Gives b i (type_for x (scope_of b i q.bindings n base)) None → length ms ≡ 4096 → Stays b i (check (expr_of b i r) (scope_of b i q.bindings n base)) n q (Err (refusal faults.Undefined r)) (record q { vain = ms })
  unfolding known
  variable_none d = sought (sym (variable_is b i r (scope_of b i q.bindings n base) g ∙ rw (← z, gives_none d)))

  pub variable_some : {y : ℕ} (t : ℕ) {a : Checked} {ms : List Bool} → Gives b i (type_for x (scope_of b i q.bindings n base)) (Some y) → t ≡ field b i r 0 → a ≡ agree (eqb t y) r → length ms ≡ 4096 → Stays b i (check (expr_of b i r) (scope_of b i q.bindings n base)) n q a (record q { vain = ms })
  unfolding known
  variable_some t d o l =
      let k : Stands b i t TYPE = rw o (head_stands g.stands EV g.is 0 tt tt) in
      sought (l ∙ sym (variable_is b i r (scope_of b i q.bindings n base) g ∙ rw (← z, gives_some d, ← o, ← types_same k (gives_stands d))))

-- another memo and another row of bindings, and the rest as it was
pub record Beside (q : Judge) (m : List ℕ) (bs : List Entry) (q' : Judge) : Type 0 where
  pub doubled : q'.doubled.now ≡ q.doubled.now
  pub lent : q'.memo.ghost_name ≡ q.memo.ghost_name
  pub memo : q'.memo.now ≡ m
  pub vain : q'.vain ≡ q.vain
  pub bindings : q'.bindings ≡ bs

-- a binding: its pattern doesn't fit, or has a name twice, or is bound
module _ {b i : List ℕ} {q : Judge} {n : ℕ} {base : Answer ℕ} (s : Scoped b i q n base) (r : ℕ) {p : ℕ} (t : ℕ) (k : Stands b i p PATTERN) {f : Bool} {m₁ : List ℕ} (d : Fitted b i (fits (pattern_of b i p) (type_of b i t)) f m₁) {x : Checked} (e : x ≡ agree f r) where
  fit_told : x ≡ agree (fits (pattern_of b i p) (type_of b i t)) r
  fit_told = e ∙ ap (λ z. agree z r) d.is

  -- where the row of bindings stays as it is
  unbound : {a : Checked} {q' : Judge} → a ≡ binds r (pattern_of b i p) (type_of b i t) → (a ≡ Ok tt → ⊥) → Beside q m₁ q.bindings q' → Bound b i (binds r (pattern_of b i p) (type_of b i t)) p t n base q a q'
  unbound z w o = record {
    stays = record { is = z; doubled = o.doubled; lent = o.lent; known = subst (Known b i) (sym o.memo) d.known; missing = ap length o.vain ∙ s.rows.missing; kept = ap length o.bindings; before = λ j h. ap (λ bs. entry_at bs j) o.bindings };
    newer = λ u. absurd (w u);
  }

  pub bind_unfit : {a : Checked} {q' : Judge} → Handed x a → Beside q m₁ q.bindings q' → Bound b i (binds r (pattern_of b i p) (type_of b i t)) p t n base q a q'
  unfolding binds
  bind_unfit h = unbound (first_halts _ h fit_told) (handed_not h)

  module _ (u : x ≡ Ok tt) {y : Checked} (w : y ≡ hold (not (get_or q.doubled.now p false)) faults.Name r) where
    once_is : y ≡ hold (not (twice (names (pattern_of b i p)))) faults.Name r
    once_is = w ∙ ap (λ z. hold (not z) faults.Name r) (s.rows.patterns p k)

    bind_is : y ≡ binds r (pattern_of b i p) (type_of b i t)
    unfolding binds
    bind_is = once_is ∙ sym (first_passes _ u fit_told)

    pub bind_twice : {a : Checked} {q' : Judge} → Handed y a → Beside q m₁ q.bindings q' → Bound b i (binds r (pattern_of b i p) (type_of b i t)) p t n base q a q'
    bind_twice h = unbound (h.is ∙ sym h.met ∙ bind_is) (handed_not h)

    pub bind_passed : {q' : Judge} → y ≡ Ok tt → (h : n < 65280) → Stands b i t TYPE → Beside q m₁ (wider s h p t) q' → Bound b i (binds r (pattern_of b i p) (type_of b i t)) p t n base q (Ok tt) q'
    bind_passed {q'} z h l o =
        let fit : fits (pattern_of b i p) (type_of b i t) ≡ true = sym d.is ∙ passed_holds f _ r (sym e ∙ u) in
        record {
          stays = record {
            is = sym z ∙ bind_is;
            doubled = o.doubled;
            lent = o.lent;
            known = subst (Known b i) (sym o.memo) d.known;
            missing = ap length o.vain ∙ s.rows.missing;
            kept = ap length o.bindings ∙ wider_length s h p t;
            before = λ j v. ap (λ bs. entry_at bs j) o.bindings ∙ wider_before s h p t j v;
          };
          newer = λ v. subst (λ bs. Holds b i bs (n + 1) base (binding (pattern_of b i p) (type_of b i t) ∷ scope_of b i q.bindings n base)) (sym o.bindings) (wider_holds s h p t (record { pattern = k; type = l; fit = fit }));
        }

-- how many are live after a statement
module _ (b i : List ℕ) (s n : ℕ) {m : ℕ} (e : m ≡ mark b i s) where
  pub after_assign : m ≡ SA → n + 1 ≡ live_after b i s n
  unfolding live_after
  after_assign q = rw (← e, q)

  pub after_does : (m ≡ SA → ⊥) → n ≡ live_after b i s n
  unfolding live_after
  after_does q = rw (← e, ne_eqb m SA q)

-- where no bindings are live there is room for all
pub no_enough : {b i : List ℕ} {x : ℕ} → Stands b i x EXPRESSION → Enough b i x 0
no_enough {x = x} s = record { room = omega (arith, s.valid.shallow x s.inside) }

-- a function
module _ {b i : List ℕ} {f : ℕ} (k : Stands b i f FUNCTION) where
  fun_is : (n e : ℕ) → n ≡ field b i f 1 → e ≡ field b i f (2 + 2 * n) → check_fun (fun_of b i f) ≡ result_and (hold (not (twice (param_names (params_of (fun_of b i f))))) faults.Name f) (result_and (check (expr_of b i e) (scope_in (fun_of b i f))) (agree (same (type_is (expr_of b i e)) (type_of b i (field b i f 0))) f))
  unfolding as_fun check_fun params_of
  fun_is n e z y = rw (y, z, stands_tree k FN (function_mark k))

  base_is : (bs : List Entry) → scope_of b i bs 0 (Some f) ≡ scope_in (fun_of b i f)
  unfolding scope_of
  base_is bs = refl

  pub fun_live : {bs : List Entry} → Live b i bs 0 (Some f)
  fun_live = record { room = omega arith; each = λ j h. absurd (omega arith); based = λ g e. let z : f ≡ g = cc in subst (λ h. Stands b i h FUNCTION) z k }

  module _ {q : Judge} (o : Rows b i q) {y : Checked} (w : y ≡ hold (not (get_or q.doubled.now f false)) faults.Name f) where
    once_of : y ≡ hold (not (twice (param_names (params_of (fun_of b i f))))) faults.Name f
    once_of = w ∙ ap (λ z. hold (not z) faults.Name f) (o.functions f k)

    pub fun_twice : {a : Checked} → Handed y a → Stays b i (check_fun (fun_of b i f)) 0 q a q
    fun_twice h = at_once o (first_halts _ h once_of ∙ sym (fun_is _ _ refl refl))

    module _ (e : y ≡ Ok tt) {n x : ℕ} (z : n ≡ field b i f 1) (l : x ≡ field b i f (2 + 2 * n)) {c : Checked} {q₁ : Judge} (d : Stays b i (check (expr_of b i x) (scope_of b i q.bindings 0 (Some f))) 0 q c q₁) where
      body_of : check_fun (fun_of b i f) ≡ result_and (check (expr_of b i x) (scope_of b i q.bindings 0 (Some f))) (agree (same (type_is (expr_of b i x)) (type_of b i (field b i f 0))) f)
      body_of = fun_is n x z l ∙ first_passes _ e once_of ∙ rw (base_is q.bindings)

      pub fun_halt : {a : Checked} → Handed c a → Stays b i (check_fun (fun_of b i f)) 0 q a q₁
      fun_halt h = stays_of (both_halt d _ h) body_of

      pub fun_then : (t v : ℕ) {a : Checked} → c ≡ Ok tt → Stands b i t TYPE → type_of b i t ≡ type_is (expr_of b i x) → v ≡ field b i f 0 → a ≡ agree (eqb t v) f → Stays b i (check_fun (fun_of b i f)) 0 q a q₁
      fun_then t v g h j r a =
          let s : Stands b i v TYPE = rw r (head_stands k FN (function_mark k) 0 tt tt) in
          stays_of (both_last d g (a ∙ rw (types_same h s, j, r))) body_of
