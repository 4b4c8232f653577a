-- What the panel's owner may quote: the arm that runs, the refusals that never come, and that symbols change nothing.
-- Assumes nothing.
use Rattle.std.specs.declared.result.Result.TheVariants.{Ok, Err}
use Prim.Native.Nat.{ℕ, zero, suc, ◌<◌}
use mathlib.Core.Bool.{Bool}
use mathlib.Core.List.{List}
use mathlib.Core.Logic.{◌⊎◌, inl, inr}
use mathlib.Core.Path.{◌≡◌, refl, sym, ap, ◌∙◌}
use native.Mathlib.Omega.{arith}
use lib.ListN.{length, get_or}
use Rattle.array.specs.Path.{path}
use Rattle.simplicity.specs.Types.{Ty}
use Rattle.simplicity.specs.Values.{Value, pair}
use Rattle.simplicity.specs.Outcomes.{value, stuck, missing}
use Rattle.simplicity.specs.Terms.{unit}
use Rattle.simplicity.specs.Meaning.{Witnesses, eval}
use Rattle.book.specs.Faults.{fault_number}
use Rattle.book.specs.Tree.{Pat, Expr, match_enum, Arms, no_arms, more_arms}
use Rattle.book.specs.declared.fault.Refusal.{Refusal}
use Rattle.compile.specs.Whole.{lower_of}
use Rattle.compile.specs.Whole as lowered
use Rattle.typing.specs.Check.{arm_count}
use Rattle.typing.specs.Whole.{check_of}
use Rattle.run.specs.Whole.{run_of}
use Rattle.run.specs.Whole as ran
use Rattle.run.specs.declared.Outcome.TheVariants as outcomes
use Rattle.agreement.specs.Unfold.{value_at}
use Rattle.meaning.specs.Source.{Held, behind, choose, mean, arms}
use Rattle.meaning.specs.Premises.{Supplied}
use Rattle.meaning.specs.Demand.{source_of}
use Rattle.meaning.proofs.Terms.{compile, compile_arms}
use Rattle.meaning.proofs.Arms.{arm_chosen, arm_runs}
use Rattle.meaning.proofs.Agreement.{arms_count}
use Rattle.meaning.proofs.Demand.{way_of, what_you_see_is_what_runs}

terms_count : (y : Bool) (cs : Arms) (sc : List Pat) → length (compile_arms y cs sc) ≡ arm_count cs
unfolding compile arm_count
terms_count y no_arms sc = refl
terms_count y (more_arms p e cs) sc = ap suc (terms_count y cs sc)

-- an eh with these arms, whose scrutinee's value is variant k with payload a
module _ (ws : Witnesses) (r : ℕ) (t : Ty) (e : Expr) (cs : Arms) (k : ℕ) (inside : k < arm_count cs) (a : Value) where
  -- the source works out arm k on the payload
  pub source_takes_arm : (env : List Held) → mean ws e env ≡ value (behind (path (arm_count cs) k) a) → mean ws (match_enum r t e cs) env ≡ get_or (arms ws cs env) k (λ v. stuck) a
  unfolding mean
  source_takes_arm env h =
      let z = arms_count ws cs env in
      rw h (ap (λ (n : ℕ). choose (length (arms ws cs env)) zero (arms ws cs env) (behind (path n k) a)) (sym z) ∙ arm_chosen (arms ws cs env) k (rw z inside) a)

  -- and what it is lowered to does what arm k is lowered to, on the payload beside the input
  pub lowered_takes_arm : (y : Bool) (sc : List Pat) (input : Value) → eval ws (compile y e sc) input ≡ value (behind (path (arm_count cs) k) a) → eval ws (compile y (match_enum r t e cs) sc) input ≡ eval ws (get_or (compile_arms y cs sc) k unit) (pair a input)
  unfolding compile eval
  lowered_takes_arm y sc input h =
      let z = terms_count y cs sc in
      rw h (rw z at (arm_runs ws (compile_arms y cs sc) k (rw z inside) a input))

-- a book that CHECK passes, with its witnesses and no hash that is reached
module _ (b ws : List ℕ) (n : ℕ) (checked : check_of b ≡ Ok n) (supplied : Supplied b n ws) (reached : source_of b n ws ≡ missing → ⊥) where
  -- what LOWER makes of it, with symbols or without, is never refused for its nodes, for a witness, as stuck, or for a jet
  pub never_refused : (y : Bool) (m c k : ℕ) → lower_of b y m ≡ Ok c → (w : Refusal) → run_of b ws (lowered.table_of b y m) c k ≡ Err w
      → (fault_number w.fault ≡ 15 → ⊥) × (fault_number w.fault ≡ 17 → ⊥) × (fault_number w.fault ≡ 19 → ⊥) × (fault_number w.fault ≡ 20 → ⊥)
  never_refused y m c k accepted w e = go ((what_you_see_is_what_runs b ws n m c k y checked accepted supplied reached).refused_is w e)
    where
      go : (fault_number w.fault ≡ 16) ⊎ (fault_number w.fault ≡ 18) → (fault_number w.fault ≡ 15 → ⊥) × (fault_number w.fault ≡ 17 → ⊥) × (fault_number w.fault ≡ 19 → ⊥) × (fault_number w.fault ≡ 20 → ⊥)
      go (inl h) = (λ q. omega arith, λ q. omega arith, λ q. omega arith, λ q. omega arith)
      go (inr h) = (λ q. omega arith, λ q. omega arith, λ q. omega arith, λ q. omega arith)

  -- LOWER twice, each with symbols or without, in whatever room, and RUN with whatever cells: the values that come out are equal, and neither fails where the other gives a value
  module _ (y y' : Bool) (m c k m' c' k' : ℕ) (one : lower_of b y m ≡ Ok c) (other : lower_of b y' m' ≡ Ok c') where
    pub symbols_change_no_value : (v u v' u' : ℕ) → run_of b ws (lowered.table_of b y m) c k ≡ Ok (outcomes.Value v u) → run_of b ws (lowered.table_of b y' m') c' k' ≡ Ok (outcomes.Value v' u')
        → value_at (ran.table_of b ws (lowered.table_of b y m) c k) v ≡ value_at (ran.table_of b ws (lowered.table_of b y' m') c' k') v'
    symbols_change_no_value v u v' u' e f =
        let p = (what_you_see_is_what_runs b ws n m c k y checked one supplied reached).value_is v u e in
        let q = (what_you_see_is_what_runs b ws n m' c' k' y' checked other supplied reached).value_is v' u' f in
        cc (sym p ∙ q)

    pub symbols_change_no_failure : run_of b ws (lowered.table_of b y m) c k ≡ Ok outcomes.Failed → (v u : ℕ) → run_of b ws (lowered.table_of b y' m') c' k' ≡ Ok (outcomes.Value v u) → ⊥
    symbols_change_no_failure e v u f =
        let p = (what_you_see_is_what_runs b ws n m c k y checked one supplied reached).failed_is e in
        let q = (what_you_see_is_what_runs b ws n m' c' k' y' checked other supplied reached).value_is v u f in
        let z = ap way_of (sym p ∙ q) in
        omega arith
