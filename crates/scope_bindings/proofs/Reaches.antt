-- Laws of a search from the newest binding on, and of the steps to what it finds.
-- Assumes nothing.
use Rattle.std.proofs.Common.{ℕ, zero, suc, ◌+◌, ◌-◌, ◌<◌, ◌≤◌, List, [], ◌∷◌, ◌≡◌, refl, ap, ◌∙◌, arith, get_or, replicate, Some, None, Result, Ok, Err}
use mathlib.Core.List.{map-append}
use mathlib.Core.Option.{Option}
use Rattle.std.specs.Prelude as std
use Rattle.std.specs.Option.{ok_or}
use Rattle.array.specs.Path.{Side, on_left, on_right}
use Rattle.book.specs.Faults.{refusal}
use Rattle.book.specs.declared.fault.Fault.TheVariants.{Undefined}
use Rattle.book.specs.declared.fault.Refusal.{Refusal}
use Rattle.named.specs.Trace.{bind, emit}
use Rattle.named.specs.Combinators.{TAKE, DROP, kinds, wraps}
use Rattle.named.specs.Stores.{Done}
use Rattle.named.specs.Table.{Table}
use Rattle.named.proofs.Runs.{bind_pure}
use Rattle.named.proofs.Storing.{then, halt, handed, done_pure, done_stop}
use Rattle.pattern.specs.Find.{find}
use Rattle.pattern.specs.Seeks.{Absent, Found, Sought, Fate, Seeks}
use Rattle.pattern.proofs.Selectors.{wraps_more, found_on, found_halt, seeks_found, seeks_full, sought_found, sought_full}
use Rattle.scope_bindings.specs.Scope.{reach, through, lookup_from, lookup, lookup_below, fetch, bound, newest}
use Rattle.scope_bindings.proofs.Scopes.{newest_length}

-- a search that comes to w, for x in the first n bindings, has passed those from `at` on, and stored nothing
pub record Misses (w : Option (List Side)) (b i : List ℕ) (bs : List ℕ) (n x at : ℕ) (d d₁ : Table) : Type 0 where
  pub low : at ≤ n
  pub table : d₁ ≡ d
  pub rest : w ≡ lookup_below b i bs n at x

-- none passed yet, of all there are
pub misses_whole : (b i : List ℕ) (bs : List ℕ) (n x : ℕ) (d : Table) → Misses (lookup x (newest b i bs n)) b i bs n x n d d
misses_whole b i bs n x d = let z : n - n ≡ 0 = omega arith in record { low = omega arith; table = refl; rest = rw z }

module _ {w : Option (List Side)} {b i : List ℕ} {bs : List ℕ} {n x at : ℕ} {d d₁ : Table} (m : Misses w b i bs n x at d d₁) where
  -- all passed: the name is not in scope
  pub misses_all : at ≤ 0 → Absent w d d₁
  unfolding newest lookup_from
  misses_all o = record { is = let z : at ≡ 0 = omega arith in m.rest ∙ rw z; table = m.table }

  -- another search goes on from here
  pub misses_far : {r : ℕ} {d₂ d₃ : Table} {s : Sought} (u : ℕ) → u ≡ at → d₂ ≡ d₁ → Seeks r d₂ (lookup_below b i bs n u x) s d₃ → Seeks r d w s d₃
  misses_far u e same h = rw (m.rest, ← m.table, ← same, ← e) h

  -- the next binding to search
  module _ (u : ℕ) (o : 0 < at) (e : u ≡ at - 1) where
    misses_here : w ≡ through (n - at) u (find x (bound b i (get_or bs u 0))) (lookup_from (suc (n - at)) x (newest b i bs u))
    unfolding newest lookup_from
    misses_here = let z : at ≡ suc u = omega arith in m.rest ∙ ap (λ k. lookup_from (n - at) x (newest b i bs k)) z ∙ rw (newest_length b i bs u)

    pub misses_next : {d₂ : Table} → Absent (find x (bound b i (get_or bs u 0))) d₁ d₂ → Misses w b i bs n x u d d₂
    unfolding through
    misses_next f = record {
      low = omega (arith, m.low);
      table = f.table ∙ m.table;
      rest = let z : suc (n - at) ≡ n - u = omega (arith, m.low) in misses_here ∙ rw (f.is, z);
    }

    pub misses_found : {r : ℕ} {d₂ d₃ : Table} {a : ℕ} {s : Result ℕ Refusal} (newer : ℕ) → newer ≡ n - 1 - u → Found r d₁ (find x (bound b i (get_or bs u 0))) (Ok a) d₂ → Done d₂ (wraps r (kinds TAKE DROP (reach newer u)) a) s d₃ → Found r d w s d₃
    unfolding through
    misses_found {r = r} {d₂ = d₂} {a = a} newer y f p =
        let z : n - at ≡ newer = omega (arith, m.low) in
        let g : Found r d (find x (bound b i (get_or bs u 0))) (Ok a) d₂ = rw m.table at f in
        found_on (reach newer u) g (misses_here ∙ rw (g.is, z)) p

    -- there is no room for what was found in it
    pub misses_full : {r : ℕ} {d₂ : Table} {e : Refusal} → Found r d₁ (find x (bound b i (get_or bs u 0))) (Err e) d₂ → Found r d w (Err e) d₂
    unfolding through
    misses_full {r = r} {d₂ = d₂} {e = e} f =
        let g : Found r d (find x (bound b i (get_or bs u 0))) (Err e) d₂ = rw m.table at f in
        found_halt (reach (n - at) u) g (misses_here ∙ rw g.is)

-- drops, one after another
module _ (r a : ℕ) {d : Table} where
  pub drops_none : Done d (wraps r (replicate 0 DROP) a) (Ok a) d
  unfolding wraps
  drops_none = done_pure d a

  pub drops_next : {d₁ d₂ : Table} {c : ℕ} {s : Result ℕ Refusal} (k u : ℕ) → u ≡ k + 1 → Done d (wraps r (replicate k DROP) a) (Ok c) d₁ → Done d₁ (emit r DROP c 0) s d₂ → Done d (wraps r (replicate u DROP) a) s d₂
  unfolding wraps
  drops_next k u e p q = let z : u ≡ suc k = omega arith in rw z (then (λ b. emit r DROP b 0) p q)

  pub drops_all : {d₁ : Table} {c : ℕ} (k n : ℕ) → k ≤ n → n ≤ k → Done d (wraps r (replicate k DROP) a) (Ok c) d₁ → Done d (wraps r (replicate n DROP) a) (Ok c) d₁
  drops_all k n l o p = let z : n ≡ k = omega arith in rw z p

  drops_stop : {d₁ : Table} {w : Refusal} (k n : ℕ) → k ≤ n → Done d (wraps r (replicate k DROP) a) (Err w) d₁ → Done d (wraps r (replicate n DROP) a) (Err w) d₁
  unfolding wraps
  drops_stop {d₁} {w} k n o p = go (n - k) n (omega arith)
    where
      go : (m u : ℕ) → u ≡ m + k → Done d (wraps r (replicate u DROP) a) (Err w) d₁
      go zero u z = let y : u ≡ k = omega arith in rw y p
      go (suc m) zero z = absurd (omega arith)
      go (suc m) (suc u) z = halt (λ b. emit r DROP b 0) (go m u (omega arith))

  -- where one is refused, so are all
  pub drops_halt : {d₁ d₂ : Table} {c : ℕ} {w : Refusal} (k n : ℕ) → k < n → Done d (wraps r (replicate k DROP) a) (Ok c) d₁ → Done d₁ (emit r DROP c 0) (Err w) d₂ → Done d (wraps r (replicate n DROP) a) (Err w) d₂
  drops_halt k n o p q = drops_stop (k + 1) n (omega arith) (drops_next k (k + 1) refl p q)

kinds_drops : (n : ℕ) → kinds TAKE DROP (replicate n on_right) ≡ replicate n DROP
kinds_drops zero = refl
kinds_drops (suc n) = ap (◌∷◌ DROP) (kinds_drops n)

-- the steps to the root are drops; those to another binding are drops around a take
module _ (r a newer older : ℕ) where
  pub reach_root : older ≡ 0 → wraps r (kinds TAKE DROP (reach newer older)) a ≡ wraps r (replicate newer DROP) a
  unfolding reach
  reach_root e = rw (e, kinds_drops newer)

  pub reach_other : (older ≡ 0 → ⊥) → wraps r (kinds TAKE DROP (reach newer older)) a ≡ bind (emit r TAKE a 0) (wraps r (replicate newer DROP))
  unfolding reach wraps
  reach_other h =
      let z : older ≡ suc (older - 1) = omega (arith, h) in
      rw (z, map-append _ (replicate newer on_right) (on_left ∷ []), kinds_drops newer, wraps_more r (replicate newer DROP) (TAKE ∷ []) a, bind_pure a (λ b. emit r TAKE b 0))

-- a variable's node, or its refusal
module _ {r : ℕ} {d d' : Table} {w : Option (List Side)} where
  pub fetch_full : {e : Refusal} → Seeks r d w (Err e) d' → Done d (fetch r w) (Err e) d'
  unfolding fetch Fate
  fetch_full h = rw h.fate.is h.fate.stored

  pub fetch_answer : {o : std.Option ℕ} {s : Result ℕ Refusal} → Seeks r d w (Ok o) d' → s ≡ ok_or o (refusal Undefined r) → Done d (fetch r w) s d'
  unfolding fetch Fate
  fetch_answer {o} h e = rw e (go o h)
    where
      go : (o : std.Option ℕ) → Seeks r d w (Ok o) d' → Done d (fetch r w) (ok_or o (refusal Undefined r)) d'
      go None h = rw (h.fate.is, h.fate.table) (done_stop d r _)
      go (Some a) h = rw h.fate.is h.fate.stored

-- what the check is given to prove the steps, and to prove what a search finds in a binding
pub ruleset reaches = (then, halt, handed, drops_none, drops_next, drops_all, drops_halt, reach_root, reach_other)

pub ruleset passes = (handed, seeks_found, seeks_full, sought_found, sought_full, misses_found, misses_full)
