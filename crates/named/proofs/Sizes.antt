-- How many nodes a run stores, of runs that never stop and store for one record; and that such a run is refused where it lacks room.
-- Assumes nothing.
use Prim.Native.Nat.{ℕ, zero, suc, ◌+◌, ◌-◌, ◌<◌}
use mathlib.Core.Bool.{Bool, true, false}
use mathlib.Core.Path.{◌≡◌, refl, ap, ◌∙◌}
use mathlib.Core.List.{List, [], ◌∷◌}
use native.Mathlib.Nat.{zero-add, suc-add}
use native.Mathlib.Omega.{arith}
use lib.ListN.{length}
use Rattle.book.specs.Faults.{refusal}
use Rattle.book.specs.declared.fault.Fault.TheVariants.{Room}
use Rattle.named.specs.Trace.{Trace, done, stopped, store, Run, pure, graft, bind, emit}
use Rattle.named.specs.Combinators.{bit, wraps, select, applied}
use Rattle.named.specs.Cut.{refused, after, cut, size, room}
use Rattle.std.specs.Prelude.{Err}
use Rattle.named.specs.Stores.{Stops, Fate, Done}
use Rattle.named.specs.Table.{Table}

-- a trace that ends with a result, each node of it for record r
abbrev Whole : {A : Type 0} → ℕ → Trace A → Type 0
Whole r (done a) = Unit {0}
Whole r (stopped s q) = ⊥
Whole r (store x τ) = (x.source ≡ r) × Whole r τ

-- from whatever node on, the run m ends with a result, and stores n nodes, each for record r
pub record Stores {A : Type 0} (r n : ℕ) (m : Run A) : Type 0 where
  pub whole : (c : ℕ) → Whole r (m c)
  pub count : (c : ℕ) → size (m c) ≡ n

module _ {r : ℕ} where
  pub stores_pure : {A : Type 0} (a : A) → Stores r 0 (pure a)
  unfolding pure size
  stores_pure a = record { whole = λ c. tt; count = λ c. refl }

  pub stores_emit : (k a b : ℕ) → Stores r 1 (emit r k a b)
  unfolding emit size
  stores_emit k a b = record { whole = λ c. (refl, tt); count = λ c. refl }

  module _ {A B : Type 0} {n : ℕ} (k : A → Run B) (rest : (a : A) → Stores r n (k a)) where
    whole_then : (τ : Trace A) (c : ℕ) → Whole r τ → Whole r (graft τ k c)
    unfolding graft
    whole_then (done a) c w = (rest a).whole c
    whole_then (stopped s q) c w = absurd w
    whole_then (store x τ) c w = (w.0, whole_then τ (suc c) w.1)

    size_then : (τ : Trace A) (c : ℕ) → Whole r τ → size (graft τ k c) ≡ size τ + n
    unfolding graft size
    size_then (done a) c w = rw zero-add ((rest a).count c)
    size_then (stopped s q) c w = absurd w
    size_then (store x τ) c w = rw suc-add (ap suc (size_then τ (suc c) w.1))

  -- one run after another
  pub stores_then : {A B : Type 0} {j n : ℕ} {m : Run A} {k : A → Run B} → Stores r j m → ((a : A) → Stores r n (k a)) → Stores r (j + n) (bind m k)
  unfolding bind
  stores_then {n = n} {m = m} {k = k} d e = record {
    whole = λ c. whole_then k e (m c) c (d.whole c);
    count = λ c. size_then k e (m c) c (d.whole c) ∙ ap (λ (i : ℕ). i + n) (d.count c);
  }

  pub stores_bit : (b : Bool) → Stores r 2 (bit r b)
  unfolding bit
  stores_bit true = stores_then (stores_emit _ _ _) (λ u. stores_emit _ _ _)
  stores_bit false = stores_then (stores_emit _ _ _) (λ u. stores_emit _ _ _)

  stores_wraps : (ks : List ℕ) (a : ℕ) → Stores r (length ks) (wraps r ks a)
  unfolding wraps
  stores_wraps [] a = stores_pure a
  stores_wraps (k ∷ ks) a =
      let e : length ks + 1 ≡ suc (length ks) = omega arith in
      rw e at (stores_then (stores_wraps ks a) (λ b. stores_emit k b 0))

  pub stores_select : (ks : List ℕ) → Stores r (1 + length ks) (select r ks)
  unfolding select
  stores_select ks = stores_then (stores_emit _ _ _) (λ a. stores_wraps ks a)

  pub stores_applied : (f a b : ℕ) → Stores r 2 (applied r f a b)
  unfolding applied
  stores_applied f a b = stores_then (stores_emit _ _ _) (λ p. stores_emit _ _ _)

cut_short : {A : Type 0} {r : ℕ} (τ : Trace A) (l : ℕ) → Whole r τ → l < size τ → cut l τ ≡ refused (refusal Room r)
unfolding cut size after
cut_short (done a) l w h = absurd (omega arith)
cut_short (stopped s q) l w h = absurd w
cut_short (store x τ) zero w h = rw w.0
cut_short (store x τ) (suc l) w h = rw (cut_short τ l w.1 (omega arith))

-- with more nodes than there is room for, a run is refused at its record
pub stops_short : {A : Type 0} {r n : ℕ} {m : Run A} (t : List ℕ) (c : ℕ) → Stores r n m → room (length t) - c < n → Stops t c m (refusal Room r)
stops_short {m = m} t c d h = record { is = cut_short (m c) (room (length t) - c) (d.whole c) (omega (arith, d.count c)) }

pub done_short : {r n : ℕ} {m : Run ℕ} (d : Table) → Stores r n m → room (length d.bytes.now) - d.next < n → Done d m (Err (refusal Room r)) d
unfolding Fate
done_short d s h = record { lent = refl; kept = refl; fate = stops_short d.bytes.now d.next s h }
