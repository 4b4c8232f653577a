-- Laws of selectors and of searches that store them.
-- Assumes nothing.
use Prim.Native.Nat.{ℕ}
use mathlib.Core.List.{List, [], ◌∷◌, ◌++◌, map-append}
use mathlib.Core.Option.{Option, some, none}
use mathlib.Core.Path.{◌≡◌, refl, sym, ap, ◌∙◌}
use lib.ListN.{length}
use Rattle.std.specs.Prelude.{Some, None, Result, Ok, Err}
use Rattle.std.specs.Prelude as std
use Rattle.array.specs.Path.{Side, path}
use Rattle.book.specs.declared.fault.Refusal.{Refusal}
use Rattle.named.specs.Trace.{bind, emit}
use Rattle.named.specs.Combinators.{TAKE, DROP, iden, kinds, wraps, select}
use Rattle.named.specs.Stores.{Done}
use Rattle.named.specs.Table.{Table}
use Rattle.named.proofs.Runs.{bind_bind, bind_done}
use Rattle.named.proofs.Storing.{then, halt}
use Rattle.pattern.specs.Find.{within}
use Rattle.pattern.specs.Seeks.{selector, Absent, Found, Fate, Seeks, NearFate, Nears}
use Rattle.pattern.specs.declared.Near.{Near}
use Rattle.pattern.specs.declared.Near.TheVariants as nears

-- wraps one around the other
pub wraps_more : (r : ℕ) (js ks : List ℕ) (a : ℕ) → wraps r (js ++ ks) a ≡ bind (wraps r ks a) (wraps r js)
unfolding wraps
wraps_more r [] ks a = sym (bind_done (wraps r ks a))
wraps_more r (j ∷ js) ks a = ap (λ m. bind m (λ b. emit r j b 0)) (wraps_more r js ks a) ∙ bind_bind (wraps r ks a) (wraps r js) (λ b. emit r j b 0)

select_more : (r : ℕ) (js ks : List ℕ) → select r (js ++ ks) ≡ bind (select r ks) (wraps r js)
unfolding select
select_more r js ks = ap (bind (iden r)) (λ i a. wraps_more r js ks a i) ∙ sym (bind_bind (iden r) (wraps r ks) (wraps r js))

-- no step is iden; more steps go around a selector
select_none : (r : ℕ) {d d' : Table} {s : Result ℕ Refusal} → Done d (iden r) s d' → Done d (selector r []) s d'
unfolding select wraps
select_none r p = rw (bind_done (iden r)) p

select_on : (r : ℕ) {d d₁ d₂ : Table} {a : ℕ} {s : Result ℕ Refusal} (js ks : List Side) → Done d (selector r ks) (Ok a) d₁ → Done d₁ (wraps r (kinds TAKE DROP js) a) s d₂ → Done d (selector r (js ++ ks)) s d₂
select_on r js ks p q = rw (map-append _ js ks, select_more r (kinds TAKE DROP js) (kinds TAKE DROP ks)) (then (wraps r (kinds TAKE DROP js)) p q)

select_halt : (r : ℕ) {d d₁ : Table} {e : Refusal} (js ks : List Side) → Done d (selector r ks) (Err e) d₁ → Done d (selector r (js ++ ks)) (Err e) d₁
select_halt r js ks p = rw (map-append _ js ks, select_more r (kinds TAKE DROP js) (kinds TAKE DROP ks)) (halt (wraps r (kinds TAKE DROP js)) p)

-- where there is no path, nothing is stored
pub absent : {d : Table} {w : Option (List Side)} → w ≡ none → Absent w d d
absent e = record { is = e; table = refl }

module _ {r : ℕ} {d : Table} {w : Option (List Side)} where
  -- no path; a path of no step
  pub seeks_absent : {d' : Table} → Absent w d d' → Seeks r d w (Ok None) d'
  unfolding Fate
  seeks_absent a = record { kept = ap (λ (x : Table). length x.bytes.now) a.table; fate = a }

  pub seeks_missing : w ≡ none → Seeks r d w (Ok None) d
  seeks_missing e = seeks_absent (absent e)

  pub found_here : {d' : Table} {s : Result ℕ Refusal} → w ≡ some [] → Done d (iden r) s d' → Found r d w s d'
  found_here e p = record { along = []; is = e; stored = select_none r p }

  pub seeks_found : {d' : Table} {a : ℕ} → Found r d w (Ok a) d' → Seeks r d w (Ok (Some a)) d'
  unfolding Fate
  seeks_found f = record { kept = f.stored.kept; fate = f }

  pub seeks_full : {d' : Table} {e : Refusal} → Found r d w (Err e) d' → Seeks r d w (Err e) d'
  unfolding Fate
  seeks_full f = record { kept = f.stored.kept; fate = f }

  -- what an answer says
  pub sought_missing : {d' : Table} {s : std.Option ℕ} → Seeks r d w (Ok s) d' → s ≡ None → Absent w d d'
  unfolding Fate
  sought_missing h e = rw e at h.fate

  pub sought_found : {d' : Table} {s : std.Option ℕ} {a : ℕ} → Seeks r d w (Ok s) d' → s ≡ Some a → Found r d w (Ok a) d'
  unfolding Fate
  sought_found h e = rw e at h.fate

  pub sought_full : {d' : Table} {e : Refusal} → Seeks r d w (Err e) d' → Found r d w (Err e) d'
  unfolding Fate
  sought_full h = h.fate

  -- the same of a search that keeps no row of vain searches
  pub nears_absent : {d' : Table} → Absent w d d' → Nears r d w (Ok nears.Missing) d'
  unfolding NearFate
  nears_absent a = record { kept = ap (λ (x : Table). length x.bytes.now) a.table; fate = a }

  pub nears_nested : {d' : Table} → d' ≡ d → Nears r d w (Ok nears.Nested) d'
  unfolding NearFate
  nears_nested same = record { kept = ap (λ (x : Table). length x.bytes.now) same; fate = same }

  pub nears_found : {d' : Table} {a : ℕ} → Found r d w (Ok a) d' → Nears r d w (Ok (nears.Found a)) d'
  unfolding NearFate
  nears_found f = record { kept = f.stored.kept; fate = f }

  pub nears_full : {d' : Table} {e : Refusal} → Found r d w (Err e) d' → Nears r d w (Err e) d'
  unfolding NearFate
  nears_full f = record { kept = f.stored.kept; fate = f }

  pub near_missing : {d' : Table} {n : Near} → Nears r d w (Ok n) d' → n ≡ nears.Missing → Absent w d d'
  unfolding NearFate
  near_missing h e = rw e at h.fate

  pub near_nested : {d' : Table} {n : Near} → Nears r d w (Ok n) d' → n ≡ nears.Nested → d' ≡ d
  unfolding NearFate
  near_nested h e = rw e at h.fate

  pub near_found : {d' : Table} {n : Near} {a : ℕ} → Nears r d w (Ok n) d' → n ≡ nears.Found a → Found r d w (Ok a) d'
  unfolding NearFate
  near_found h e = rw e at h.fate

  pub near_full : {d' : Table} {e : Refusal} → Nears r d w (Err e) d' → Found r d w (Err e) d'
  unfolding NearFate
  near_full h = h.fate

  -- more steps around what was found; those to element k of n
  pub found_on : {d₁ d₂ : Table} {a : ℕ} {s : Result ℕ Refusal} {v : Option (List Side)} (js : List Side) (f : Found r d v (Ok a) d₁) → w ≡ some (js ++ f.along) → Done d₁ (wraps r (kinds TAKE DROP js) a) s d₂ → Found r d w s d₂
  found_on js f e p = record { along = js ++ f.along; is = e; stored = select_on r js f.along f.stored p }

  pub found_halt : {d₁ : Table} {x : Refusal} {v : Option (List Side)} (js : List Side) (f : Found r d v (Err x) d₁) → w ≡ some (js ++ f.along) → Found r d w (Err x) d₁
  found_halt js f e = record { along = js ++ f.along; is = e; stored = select_halt r js f.along f.stored }

  pub found_in : {d₁ d₂ : Table} {a : ℕ} {s : Result ℕ Refusal} (n k : ℕ) (v rest : Option (List Side)) → Found r d v (Ok a) d₁ → w ≡ within n k v rest → Done d₁ (wraps r (kinds TAKE DROP (path n k)) a) s d₂ → Found r d w s d₂
  unfolding within
  found_in n k v rest f e p = found_on (path n k) f (e ∙ rw f.is) p

  pub full_in : {d₁ : Table} {x : Refusal} (n k : ℕ) (v rest : Option (List Side)) → Found r d v (Err x) d₁ → w ≡ within n k v rest → Found r d w (Err x) d₁
  unfolding within
  full_in n k v rest f e = found_halt (path n k) f (e ∙ rw f.is)
