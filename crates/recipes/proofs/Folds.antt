-- Laws of the list fold: how a loop of doublings goes on and ends.
-- Assumes nothing.
use Prim.Native.Nat.{ℕ, zero, suc, ◌-◌, ◌≤◌, ◌<◌}
use mathlib.Core.Path.{◌≡◌}
use mathlib.Core.List.{[], ◌∷◌}
use native.Mathlib.Omega.{arith}
use Rattle.std.specs.Prelude.{Result, Ok}
use Rattle.book.specs.declared.fault.Refusal.{Refusal}
use Rattle.array.specs.Split.{top_of}
use Rattle.named.specs.Trace.{bind}
use Rattle.named.specs.Combinators.{DROP, case, select}
use Rattle.named.specs.Stores.{Done}
use Rattle.named.specs.Table.{Table}
use Rattle.named.proofs.Storing.{then, done_pure}
use Rattle.recipes.specs.ListFold.{next_array, next_fold, doubled, list_fold}

-- begun at the table d₀ with k₀ doublings from f₀ and g₀: what is left of them, k from f and g at the table d, makes all of them
pub record Doubling (r : ℕ) (d₀ : Table) (k₀ f₀ g₀ : ℕ) (d : Table) (k f g : ℕ) : Type 0 where
  pub onto : (s : Result ℕ Refusal) (u : Table) → Done d (doubled r k f g) s u → Done d₀ (doubled r k₀ f₀ g₀) s u

pub doubling_first : (r : ℕ) (d : Table) (k f g : ℕ) → Doubling r d k f g d k f g
doubling_first r d k f g = record { onto = λ s u p. p }

module _ {r k₀ f₀ g₀ f g : ℕ} {d₀ d : Table} where
  -- one doubling, and what comes after it
  pub doubling_on : {s : Result ℕ Refusal} {u : Table} (j k : ℕ) → Doubling r d₀ k₀ f₀ g₀ d k f g → 0 < k → j ≡ k - 1 → Done d (bind (next_array r f) (λ f'. bind (next_fold r f' g) (λ g'. doubled r j f' g'))) s u → Done d₀ (doubled r k₀ f₀ g₀) s u
  unfolding doubled
  doubling_on j zero o h z p = absurd (omega arith)
  doubling_on {s} {u} j (suc k) o h z p = let e : j ≡ k = omega arith in o.onto s u (rw e at p)

  pub doubling_next : {d₁ d₂ : Table} {f' g' : ℕ} (j k : ℕ) → Doubling r d₀ k₀ f₀ g₀ d k f g → 0 < k → j ≡ k - 1 → Done d (next_array r f) (Ok f') d₁ → Done d₁ (next_fold r f' g) (Ok g') d₂ → Doubling r d₀ k₀ f₀ g₀ d₂ j f' g'
  doubling_next j k o h z a b = record { onto = λ s u p. doubling_on j k o h z (then _ a (then _ b p)) }

  -- none is left
  pub doubling_last : (k : ℕ) → Doubling r d₀ k₀ f₀ g₀ d k f g → k ≤ 0 → Done d₀ (doubled r k₀ f₀ g₀) (Ok g) d
  unfolding doubled
  doubling_last zero o h = o.onto (Ok g) d (done_pure d g)
  doubling_last (suc k) o h = absurd (omega arith)

-- the first two nodes come before
pub list_whole : {k a g : ℕ} {d₁ d₂ d₃ d : Table} {s : Result ℕ Refusal} (r n f : ℕ) → k ≡ top_of n - 1 → Done d₁ (select r (DROP ∷ [])) (Ok a) d₂ → Done d₂ (case r a f) (Ok g) d₃ → Done d₃ (doubled r k f g) s d → Done d₁ (list_fold r n f) s d
unfolding list_fold
list_whole r n f e a b p = then _ a (then _ b (rw e at p))
