-- Demand 3: the theorem, and what follows for those who quote it.
-- Assumes nothing.
use Rattle.std.specs.declared.result.Result.TheVariants.{Ok, Err}
use Prim.Native.Nat.{ℕ, ◌-◌, ◌<◌}
use mathlib.Core.Bool.{Bool, false}
use mathlib.Core.List.{List, [], ◌∷◌}
use mathlib.Core.Logic.{◌⊎◌, inl, inr}
use mathlib.Core.Path.{◌≡◌, refl, sym, ap, ◌∙◌}
use native.Mathlib.Omega.{arith}
use Rattle.simplicity.specs.Types.{Ty}
use Rattle.simplicity.specs.Values.{unit}
use Rattle.simplicity.specs.Outcomes.{Outcome, value, failed, stuck, missing}
use Rattle.simplicity.specs.Terms.{Term}
use Rattle.simplicity.specs.Meaning.{eval}
use Rattle.simplicity.specs.Typing.{Good}
use Rattle.book.specs.Faults.{fault_number}
use Rattle.book.specs.Format.{CH}
use Rattle.book.specs.Index.{mark}
use Rattle.book.specs.Read.{index_of}
use Rattle.book.specs.Tree.{Expr, ignore, expr_of}
use Rattle.book.specs.declared.fault.Refusal.{Refusal}
use Rattle.compile.specs.Whole.{lower_of}
use Rattle.compile.specs.Whole as lowered
use Rattle.typing.specs.Whole.{check_of}
use Rattle.typing.specs.Typed.{TypedBook}
use Rattle.typing.proofs.Exactly.{passes_exactly}
use Rattle.book.specs.Text.{Text, text}
use Rattle.nodes.specs.Given.{Given, given}
use Rattle.run.specs.Whole.{run_of}
use Rattle.run.specs.Whole as ran
use Rattle.run.specs.Whole.{RunAnswer}
use Rattle.agreement.specs.Unfold.{term_at, value_at}
use Rattle.agreement.specs.Agreement.{witnesses_of, meaning_of, Short}
use Rattle.agreement.proofs.Meaning.{Accepts, meant, ComesOut, form_of, comes_out}
use Rattle.meaning.specs.Premises.{Supplied, Hashless}
use Rattle.meaning.specs.Demand.{source_of, root_type, AsMeant, Demand3}
use Rattle.meaning.proofs.Terms.{compile}
use Rattle.meaning.proofs.Agreeing.{Fine, Agrees}
use Rattle.meaning.proofs.Environments.{root_matches}
use Rattle.meaning.proofs.Sounding.{Constantly, Witnessed, sound_root}
use Rattle.meaning.proofs.Stored.{stored}
use Rattle.meaning.proofs.Tables as tables
use Rattle.meaning.proofs.Agreement.{agree}

module _ (b ws : List ℕ) (n : ℕ) (checked : check_of b ≡ Ok n) (supplied : Supplied b n ws) where
  abbrev book : Text
  book = text b (index_of b) n

  abbrev root : Expr
  root = expr_of b (index_of b) (n - 1)

  typed : TypedBook b n
  typed = (passes_exactly b n).0 checked

  -- what the root is lowered to agrees with the source meaning, where M allows for a hash
  agreed : (M : Type 0) → ((r : ℕ) → r < n → mark b (index_of b) r ≡ CH → M) → (y : Bool) → Agrees M (witnesses_of book ws) (compile y root (ignore ∷ [])) unit (source_of b n ws) (root_type b n)
  unfolding source_of root_type
  agreed M h y = agree (Constantly book) (Witnessed book ws) (λ t k x w. w.2) y root root_matches typed.root (sound_root b n ws M typed supplied h)

  -- a book without a hash reaches none
  pub no_hash_reached : Hashless b n → source_of b n ws ≡ missing → ⊥
  no_hash_reached h e = rw e at (agreed ⊥ h false).fine

  module _ (y : Bool) (m c : ℕ) (accepted : lower_of b y m ≡ Ok c) where
    abbrev table : List ℕ
    table = lowered.table_of b y m

    abbrev given_it : Given
    given_it = given book ws table

    -- LOWER's table is well formed, and its last node unfolds to what the root is lowered to
    unfolded : (Accepts b table c n) × (term_at given_it (c - 1) ≡ compile y root (ignore ∷ []))
    unfolded =
        tables.lowered b n typed.reads y m c accepted ws (compile y root (ignore ∷ []))
        (stored (Unit {0}) given_it (λ v w i. i) (λ t k x i. (i.0, i.1)) y root (ignore ∷ []) 0 (sound_root b n ws (Unit {0}) typed supplied (λ r l q. tt)))

    -- so the published meaning of the table is the source meaning
    source_meant : meant b ws table c n ≡ source_of b n ws
    unfolding meaning_of
    source_meant = ap (λ (t : Term). eval (witnesses_of book ws) t unit) unfolded.1 ∙ (agreed (Unit {0}) (λ r l q. tt) y).same

    -- what RUN says of the published meaning it says of the source meaning
    came_out : (k : ℕ) → ComesOut (run_of b ws table c k) (ran.table_of b ws table c k) (source_of b n ws) ⊎ Short (run_of b ws table c k)
    came_out k = rw source_meant at (comes_out b ws table c k n unfolded.0)

-- an outcome's way, by number
abbrev pub way_of : Outcome → ℕ
way_of (value v) = 0
way_of failed = 1
way_of stuck = 2
way_of missing = 3

-- a fine outcome that is not missing is good
fine_good : (o : Outcome) (d : Ty) → Fine (Unit {0}) o d → (o ≡ missing → ⊥) → Good o d
fine_good (value v) d h k = h
fine_good failed d h k = tt
fine_good stuck d h k = absurd h
fine_good missing d h k = absurd (k refl)

-- an answer for want of depth or cells is a refusal, by 16 or 18
short_form : (a : RunAnswer) → Short a → form_of a ≡ 2
short_form a (inl h) = ap form_of h.1
short_form a (inr h) = ap form_of h.1

short_number : (a : RunAnswer) (w : Refusal) → a ≡ Err w → Short a → (fault_number w.fault ≡ 16) ⊎ (fault_number w.fault ≡ 18)
short_number a w e (inl h) = let z : h.0 ≡ w = cc in inl (rw (← z) (ap fault_number h.2))
short_number a w e (inr h) = let z : h.0 ≡ w = cc in inr (rw (← z) (ap fault_number h.2))

short_meant : (a : RunAnswer) (t : List ℕ) (o : Outcome) (d : Ty) → Good o d → Short a → AsMeant a t o d
short_meant a t o d g h =
    let refused : form_of a ≡ 2 = short_form a h in
    record {
      good = g;
      value_is = λ v u e. absurd (let z = ap form_of e in omega arith);
      failed_is = λ e. absurd (let z = ap form_of e in omega arith);
      value_comes = λ z e. inr h;
      failed_comes = λ e. inr h;
      refused_is = λ w e. short_number a w e h;
    }

-- what comes out of a good outcome, or of a run that was short, is as meant
as_meant : (a : RunAnswer) (t : List ℕ) (o : Outcome) (d : Ty) → Good o d → ComesOut a t o ⊎ Short a → AsMeant a t o d
as_meant a t (value x) d g (inl h) = record {
  good = g;
  value_is = λ v u e. let z : h.0 ≡ v = cc in ap value (sym h.3 ∙ ap (value_at t) z);
  failed_is = λ e. absurd (let z = ap form_of (sym e ∙ h.2) in omega arith);
  value_comes = λ z e. inl (h.0, h.1, h.2, let q : x ≡ z = cc in h.3 ∙ q);
  failed_comes = λ e. absurd (let z = ap way_of e in omega arith);
  refused_is = λ w e. absurd (let z = ap form_of (sym e ∙ h.2) in omega arith);
}
as_meant a t failed d g (inl h) = record {
  good = g;
  value_is = λ v u e. absurd (let z = ap form_of (sym e ∙ h) in omega arith);
  failed_is = λ e. refl;
  value_comes = λ x e. absurd (let z = ap way_of e in omega arith);
  failed_comes = λ e. inl h;
  refused_is = λ w e. absurd (let z = ap form_of (sym e ∙ h) in omega arith);
}
as_meant a t (value x) d g (inr h) = short_meant a t (value x) d g h
as_meant a t failed d g (inr h) = short_meant a t failed d g h
as_meant a t stuck d g h = absurd g
as_meant a t missing d g h = absurd g

-- WHAT YOU SEE IS WHAT RUNS
pub what_you_see_is_what_runs : Demand3
what_you_see_is_what_runs b ws n m c k y checked accepted supplied reached =
    as_meant _ _ (source_of b n ws) (root_type b n)
    (fine_good (source_of b n ws) (root_type b n) (agreed b ws n checked supplied (Unit {0}) (λ r l q. tt) y).fine reached)
    (came_out b ws n checked supplied y m c accepted k)
