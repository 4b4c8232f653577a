-- Tests and choices: which of two was picked, where only one can be the answer; and READ's answers told apart.
-- Assumes nothing.
use Prim.Native.Nat.{ℕ}
use mathlib.Core.Bool.{Bool, true, false}
use mathlib.Core.Path.{◌≡◌, refl}
use mathlib.Core.List.{List}
use Rattle.std.proofs.lemmas.Bool.{false_from_ne_true}
use Rattle.laws.specs.Table.{pick, both, true_false}
use Rattle.book.specs.Read.{good, bad, State, on, stop, done, refused}
use Rattle.book.specs.declared.fault.Fault.{Fault}
use Rattle.book.specs.declared.fault.Refusal.{Refusal}

-- the second cannot be c, so the test held
pub first : {A : Type 0} (t : Bool) (a b c : A) → (b ≡ c → ⊥) → pick t a b ≡ c → (t ≡ true) × (a ≡ c)
first true a b c n e = (refl, e)
first false a b c n e = absurd (n e)

-- the first cannot be c, so the test failed
pub second : {A : Type 0} (t : Bool) (a b c : A) → (a ≡ c → ⊥) → pick t a b ≡ c → (t ≡ false) × (b ≡ c)
second true a b c n e = absurd (n e)
second false a b c n e = (refl, e)

-- two tests that hold together
pub both_true : (s t : Bool) → both s t ≡ true → (s ≡ true) × (t ≡ true)
both_true true t e = (refl, e)
both_true false t e = absurd (let z : true ≡ false = cc in true_false z)

-- two tests that cannot hold together
pub both_false : (s t : Bool) → (s ≡ true → t ≡ true → ⊥) → both s t ≡ false
both_false true t h = false_from_ne_true t (h refl)
both_false false t h = refl

-- a refusal is no success
pub bad_good : (f : Fault) (nm : List Bool) (d : ℕ) → bad f ≡ good nm d → ⊥
bad_good f nm d e = cc

pub stop_on : (f : Fault) (s : State) → stop f ≡ on s → ⊥
stop_on f s e = cc

pub refused_done : (w : Refusal) (n : ℕ) (i : List ℕ) → refused w ≡ done n i → ⊥
refused_done w n i e = cc
