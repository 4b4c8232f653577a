-- Laws of judgements one after another: the first fault ends them, and the live bindings stay.
-- Assumes nothing.
use Prim.Native.Nat.{ℕ, ◌≤◌}
use mathlib.Core.Bool.{Bool, true, false}
use mathlib.Core.Path.{◌≡◌, refl, sym, ap, ◌∙◌}
use mathlib.Core.List.{List}
use native.Mathlib.Omega.{arith}
use Rattle.std.specs.Prelude.{Ok, Err}
use Rattle.std.specs.Result.{result_and, IsErrAnd}
use Rattle.book.specs.declared.fault.Fault.{Fault}
use Rattle.book.specs.declared.fault.Refusal.{Refusal}
use Rattle.typing.specs.declared.cycle.Judge.{Judge}
use Rattle.typing.specs.Check.{Checked, hold}
use Rattle.typing.specs.Cycle.{Rows, Stays}

-- what refuses does not pass
pub refused_not : {P : Type 0} (w : Refusal) (u : Unit {0}) → ◌≡◌ {A = Checked} (Err w) (Ok u) → P
refused_not w u e = absurd (let z : ◌≡◌ {A = ℕ} 0 1 = cc in omega arith)

-- a rule that passes holds
pub passed_holds : (t : Bool) (f : Fault) (r : ℕ) → hold t f r ≡ Ok tt → t ≡ true
passed_holds true f r e = refl
passed_holds false f r e = refused_not _ tt e

-- nothing follows; one judgement, then two more
pub then_pass : (v : Checked) → result_and v (Ok tt) ≡ v
then_pass (Ok u) = refl
then_pass (Err w) = refl

pub then_then : (u v w : Checked) → result_and (result_and u v) w ≡ result_and u (result_and v w)
then_then (Ok x) v w = refl
then_then (Err x) v w = refl

-- a judgement c was refused, and `?` gave that refusal as a
pub record Handed (c a : Checked) : Type 0 where
  pub refusal : Refusal
  pub met : c ≡ Err refusal
  pub is : a ≡ Err refusal

pub handed : {w : Refusal} {c a : Checked} → c ≡ Err w → IsErrAnd a (λ x. x ≡ w) → Handed c a
handed {a = Ok u} e h = absurd h
handed {w} {a = Err x} e h = record { refusal = w; met = e; is = ap Err h }

pub handed_not : {c a : Checked} → Handed c a → a ≡ Ok tt → ⊥
handed_not h e = refused_not _ tt (sym h.is ∙ e)

-- of two judgements the first was refused, or it passed
pub first_halts : {c a v : Checked} (y : Checked) → Handed c a → c ≡ v → a ≡ result_and v y
first_halts y h e = h.is ∙ sym (rw (sym e ∙ h.met))

pub first_passes : {c v : Checked} (y : Checked) → c ≡ Ok tt → c ≡ v → result_and v y ≡ y
first_passes y h e = rw (sym e ∙ h)

-- what is judged at once
pub at_once : {b i : List ℕ} {q : Judge} {n : ℕ} {c v : Checked} → Rows b i q → c ≡ v → Stays b i v n q c q
at_once o e = record { is = e; doubled = refl; lent = refl; known = o.known; missing = o.missing; kept = refl; before = λ j h. refl }

module _ {b i : List ℕ} {v : Checked} {n : ℕ} {q : Judge} {w : Checked} {q₁ : Judge} (s : Stays b i v n q w q₁) where
  -- the same by another name
  pub stays_as : {u : Checked} → u ≡ w → Stays b i v n q u q₁
  stays_as e = record { is = e ∙ s.is; doubled = s.doubled; lent = s.lent; known = s.known; missing = s.missing; kept = s.kept; before = s.before }

  -- what is left was judged, where at least as many bindings are live
  pub stays_on : {k : ℕ} {c : Checked} {q₂ : Judge} → Stays b i w k q₁ c q₂ → n ≤ k → Stays b i v n q c q₂
  stays_on d h = record {
    is = d.is ∙ s.is;
    doubled = d.doubled ∙ s.doubled;
    lent = d.lent ∙ s.lent;
    known = d.known;
    missing = d.missing;
    kept = d.kept ∙ s.kept;
    before = λ j o. d.before j (omega arith) ∙ s.before j o;
  }

-- of what is left, the first part was judged: it passed, and the others are left; or it was refused
module _ {b i : List ℕ} {x : Checked} {k : ℕ} {q₁ : Judge} {c : Checked} {q₂ : Judge} (d : Stays b i x k q₁ c q₂) (y : Checked) {v : Checked} {n : ℕ} {q : Judge} (s : Stays b i v n q (result_and x y) q₁) (h : n ≤ k) where
  first : {a : Checked} → a ≡ result_and x y → Stays b i v n q a q₂
  first e = record {
    is = e ∙ s.is;
    doubled = d.doubled ∙ s.doubled;
    lent = d.lent ∙ s.lent;
    known = d.known;
    missing = d.missing;
    kept = d.kept ∙ s.kept;
    before = λ j o. d.before j (omega arith) ∙ s.before j o;
  }

  pub stays_next : c ≡ Ok tt → Stays b i v n q y q₂
  stays_next e = first (sym (first_passes y e d.is))

  pub stays_halt : {a : Checked} → Handed c a → Stays b i v n q a q₂
  stays_halt g = first (first_halts y g d.is)
