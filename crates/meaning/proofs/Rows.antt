-- Rows, lists and variants: their terms work the elements out from the left and make of the values what the source means.
-- Assumes nothing.
use Prim.Native.Nat.{ℕ, zero, suc, ◌^◌, ◌≤◌, ◌<◌}
use mathlib.Core.Bool.{Bool, true}
use mathlib.Core.List.{List, [], ◌∷◌}
use mathlib.Core.Option.{some, none-ne-some}
use mathlib.Core.Path.{◌≡◌, refl, sym, ap, ap₂, ◌∙◌}
use native.Mathlib.Nat.{two-pow-succ}
use native.Mathlib.Omega.{arith}
use lib.ListN.{length, take, drop, length-drop}
use lib.Pow.{pow_pos}
use lib.Seq.{length-take-le}
use Rattle.laws.specs.Order.{by_lt}
use Rattle.array.specs.Split.{split_of}
use Rattle.array.specs.Path.{Side, on_left, on_right}
use Rattle.array.specs.Row.{row}
use Rattle.array.specs.Partition.{partition}
use Rattle.array.proofs.Splits.{split_power}
use Rattle.array.proofs.Rows.{lefts, rights, row_none, row_one, row_step, rows_all}
use Rattle.array.proofs.Partitions.{partition_empty, partition_filled}
use Rattle.simplicity.specs.Types.{Ty, one, sum, product, power, fewer, same}
use Rattle.simplicity.specs.Values.{Value, unit, left, right, pair}
use Rattle.simplicity.specs.Outcomes.{Outcome, value, failed, stuck, missing, and_then}
use Rattle.simplicity.specs.Terms.{Term}
use Rattle.simplicity.specs.Terms as terms
use Rattle.simplicity.specs.Meaning.{Witnesses, eval}
use Rattle.simplicity.proofs.Safe.{same_is}
use Rattle.book.proofs.Picks.{both_true}
use Rattle.shapes.specs.Shapes.{row_type, all_are, sums, side_of, onward, leads}
use Rattle.meaning.specs.Source.{row_value, list_value, behind, in_turn}
use Rattle.meaning.proofs.Terms.{row_term, list_term, inject, called}
use Rattle.meaning.proofs.Agreeing.{Agrees, AgreesAll, no_more, and_more, AllOf, no_values, and_values}
use Rattle.meaning.proofs.Calls.{then_value, then_then, Meant, meant_then, meant, agree_by, called_is, agree_pair, agree_left, agree_right, agree_unit}

-- what is made of the one value that a row comes to is made of the row's values
pub in_turn_then : (os : List Outcome) (f : List Value → Value) (k : Value → Outcome) → and_then (in_turn os (λ vs. value (f vs))) k ≡ in_turn os (λ vs. k (f vs))
unfolding in_turn
in_turn_then [] f k = refl
in_turn_then (value v ∷ os) f k = in_turn_then os (λ vs. f (v ∷ vs)) k
in_turn_then (failed ∷ os) f k = refl
in_turn_then (stuck ∷ os) f k = refl
in_turn_then (missing ∷ os) f k = refl

-- the first n and then the others are all
in_turn_parts : (n : ℕ) (os : List Outcome) (k : List Value → List Value → Outcome) → in_turn (take n os) (λ us. in_turn (drop n os) (k us)) ≡ in_turn os (λ vs. k (take n vs) (drop n vs))
unfolding in_turn
in_turn_parts zero os k = refl
in_turn_parts (suc n) [] k = refl
in_turn_parts (suc n) (o ∷ os) k = λ i. and_then o (λ v. in_turn_parts n os (λ us. k (v ∷ us)) i)

-- what is made of values matters only at as many as there are
in_turn_same : (os : List Outcome) {f g : List Value → Outcome} → ((vs : List Value) → length vs ≡ length os → f vs ≡ g vs) → in_turn os f ≡ in_turn os g
unfolding in_turn
in_turn_same [] e = e [] refl
in_turn_same (o ∷ os) e = λ i. and_then o (λ x. in_turn_same os (λ vs l. e (x ∷ vs) (ap suc l)) i)

-- a row of n, two or more, by the split of n
row_at : {A : Type 0} (e : A) (f : A → A → A) (n : ℕ) (xs : List A) → length xs ≡ n → 2 ≤ n → row e f xs ≡ f (row e f (take (split_of n) xs)) (row e f (drop (split_of n) xs))
row_at e f n xs l two = rw (← l) (row_step e f xs (rw l two))

module _ {M : Type 0} {ws : Witnesses} {v : Value} where
  -- another way to say what is meant
  agree_same : {t : Term} {o u : Outcome} {a : Ty} → o ≡ u → Agrees M ws t v o a → Agrees M ws t v u a
  agree_same e h = rw e at h

  -- as many outcomes and types as terms; what agrees, in parts
  all_length : {ts : List Term} {os : List Outcome} {as' : List Ty} → AgreesAll M ws v ts os as' → (length os ≡ length ts) × (length as' ≡ length ts)
  all_length no_more = (refl, refl)
  all_length (and_more h hs) = (ap suc (all_length hs).0, ap suc (all_length hs).1)

  all_take : (n : ℕ) {ts : List Term} {os : List Outcome} {as' : List Ty} → AgreesAll M ws v ts os as' → AgreesAll M ws v (take n ts) (take n os) (take n as')
  all_take zero h = no_more
  all_take (suc n) no_more = no_more
  all_take (suc n) (and_more h hs) = and_more h (all_take n hs)

  all_drop : (n : ℕ) {ts : List Term} {os : List Outcome} {as' : List Ty} → AgreesAll M ws v ts os as' → AgreesAll M ws v (drop n ts) (drop n os) (drop n as')
  all_drop zero h = h
  all_drop (suc n) no_more = no_more
  all_drop (suc n) (and_more h hs) = all_drop n hs

  -- what is made of a row's values is what is meant, where that is so of values of the types
  meant_turn : {ts : List Term} {os : List Outcome} {as' : List Ty} {f g : List Value → Outcome} {b : Ty} → AgreesAll M ws v ts os as' → ((vs : List Value) → AllOf vs as' → Meant M (f vs) (g vs) b) → Meant M (in_turn os f) (in_turn os g) b
  unfolding in_turn
  meant_turn no_more k = k [] no_values
  meant_turn (and_more {o = o} {a = a} h hs) k = meant_then {o = o} {u = o} {a = a} (record { same = refl; fine = h.fine }) (λ x l. meant_turn hs (λ vs ls. k (x ∷ vs) (and_values l ls)))

  -- a row in two parts, each of which comes to one value: it comes to their pair
  agree_parts : (n : ℕ) (os : List Outcome) (f g : List Value → Value) {p q : Term} {a b : Ty} → Agrees M ws p v (in_turn (take n os) (λ us. value (f us))) a → Agrees M ws q v (in_turn (drop n os) (λ us. value (g us))) b → Agrees M ws (terms.pair p q) v (in_turn os (λ vs. value (pair (f (take n vs)) (g (drop n vs))))) (product a b)
  agree_parts n os f g h k = agree_same
      (in_turn_then (take n os) f (λ x. and_then (in_turn (drop n os) (λ us. value (g us))) (λ z. value (pair x z)))
      ∙ (λ i. in_turn (take n os) (λ us. in_turn_then (drop n os) g (λ z. value (pair (f us) z)) i))
      ∙ in_turn_parts n os (λ us zs. value (pair (f us) (g zs))))
      (agree_pair h k)

-- a row agrees: none, one, and two parts
module _ (M : Type 0) (ws : Witnesses) (v : Value) where
  abbrev RowAgrees : List Term → Type 0
  RowAgrees ts = (os : List Outcome) (as' : List Ty) → AgreesAll M ws v ts os as' → Agrees M ws (row_term ts) v (in_turn os (λ vs. value (row_value vs))) (row_type as')

  agree_none : RowAgrees []
  unfolding in_turn
  agree_none os as' no_more = rw (row_none terms.unit terms.pair, row_none unit pair, row_none one product) agree_unit

  agree_one : (t : Term) → RowAgrees (t ∷ [])
  unfolding in_turn
  agree_one t os as' (and_more {o = o} {a = a} h no_more) = rw (row_one terms.unit terms.pair t, row_one one product a) (agree_same (bare o) h)
    where
      bare : (u : Outcome) → u ≡ and_then u (λ x. value (row_value (x ∷ [])))
      bare (value x) = ap value (sym (row_one unit pair x))
      bare failed = refl
      bare stuck = refl
      bare missing = refl

  agree_more : (ts : List Term) → 2 ≤ length ts → RowAgrees (lefts ts) → RowAgrees (rights ts) → RowAgrees ts
  agree_more ts two l r os as' h =
      let m : ℕ = length ts in
      let n : ℕ = split_of m in
      rw (row_step terms.unit terms.pair ts two, row_at one product m as' (all_length h).1 two)
      (agree_same (in_turn_same os (λ vs k. ap value (sym (row_at unit pair m vs (k ∙ (all_length h).0) two))))
      (agree_parts n os row_value row_value (l _ _ (all_take n h)) (r _ _ (all_drop n h))))

-- where all are a, those of a part are
are_take : (a : Ty) (n : ℕ) (us : List Ty) → all_are a us ≡ true → all_are a (take n us) ≡ true
unfolding all_are
are_take a zero us e = refl
are_take a (suc n) [] e = refl
are_take a (suc n) (u ∷ us) e = let h = both_true (same u a) (all_are a us) e in rw (h.0, are_take a n us h.1)

are_drop : (a : Ty) (n : ℕ) (us : List Ty) → all_are a us ≡ true → all_are a (drop n us) ≡ true
unfolding all_are
are_drop a zero us e = e
are_drop a (suc n) [] e = refl
are_drop a (suc n) (u ∷ us) e = are_drop a n us (both_true (same u a) (all_are a us) e).1

-- 2 ^ k types that are all a, in a row
row_power : (k : ℕ) (a : Ty) (us : List Ty) → length us ≡ 2 ^ k → all_are a us ≡ true → row_type us ≡ power a k
unfolding power all_are
row_power zero a [] l e = absurd (omega arith)
row_power zero a (u ∷ []) l e = row_one one product u ∙ same_is u a (both_true (same u a) true e).0
row_power zero a (u ∷ w ∷ us) l e = absurd (omega arith)
row_power (suc k) a us l e =
    let d = two-pow-succ k in
    row_at one product (2 ^ suc k) us l (omega (arith, d, pow_pos k))
    ∙ rw (split_power k) (ap₂ product
    (row_power k a (take (2 ^ k) us) (length-take-le (2 ^ k) us (omega (arith, d))) (are_take a (2 ^ k) us e))
    (row_power k a (drop (2 ^ k) us) (length-drop (2 ^ k) us ∙ omega (arith, d)) (are_drop a (2 ^ k) us e)))

module _ {M : Type 0} {ws : Witnesses} {v : Value} where
  -- a row of terms means the row of what each means
  pub agree_row : {ts : List Term} {os : List Outcome} {as' : List Ty} → AgreesAll M ws v ts os as' → Agrees M ws (row_term ts) v (in_turn os (λ vs. value (row_value vs))) (row_type as')
  agree_row h = rows_all (RowAgrees M ws v) (agree_none M ws v) (agree_one M ws v) (agree_more M ws v) _ _ _ h

  -- a call on a row means what its body means of the values
  pub agree_called_row : (y : Bool) (s : ℕ) {ts : List Term} {os : List Outcome} {as' : List Ty} {g : Term} {f : List Value → Outcome} {b : Ty} → AgreesAll M ws v ts os as' → ((vs : List Value) → AllOf vs as' → Agrees M ws g (row_value vs) (f vs) b) → Agrees M ws (called y s (row_term ts) g) v (in_turn os f) b
  agree_called_row y s {os = os} {g = g} h k = agree_by
      (called_is ws y s _ g v ∙ ap (λ (o : Outcome). and_then o (eval ws g)) (agree_row h).same ∙ in_turn_then os row_value (eval ws g))
      (meant_turn h (λ vs l. meant (k vs l)))

  -- a block of 2 ^ k elements
  agree_block : (k : ℕ) (a : Ty) {ts : List Term} {os : List Outcome} {us : List Ty} → AgreesAll M ws v ts os us → all_are a us ≡ true → length us ≡ 2 ^ k → Agrees M ws (terms.injr (row_term ts)) v (in_turn os (λ vs. value (right (row_value vs)))) (sum one (power a k))
  agree_block k a {os = os} {us = us} h e l =
      rw (← row_power k a us l e) (agree_same (in_turn_then os row_value (λ x. value (right x))) (agree_right (agree_row h)))

  -- a list of terms, fewer than its bound, means the list of what each means
  pub agree_list : (k : ℕ) (a : Ty) {ts : List Term} {os : List Outcome} {us : List Ty} → AgreesAll M ws v ts os us → all_are a us ≡ true → length us < 2 ^ suc k → Agrees M ws (list_term k ts) v (in_turn os (λ vs. value (list_value k vs))) (fewer a k)
  unfolding in_turn partition power fewer
  agree_list zero a no_more e l = agree_left agree_unit
  agree_list zero a (and_more h no_more) e l = agree_block 0 a (and_more h no_more) e refl
  agree_list zero a (and_more h (and_more i hs)) e l = absurd (omega arith)
  agree_list (suc k) a {ts} {os} {us} h e l =
      let n : ℕ = 2 ^ suc k in
      let m = all_length h in
      by_lt (length ts) n
      (λ o.
      rw (partition_empty (terms.injl terms.unit) (λ zs. terms.injr (row_term zs)) terms.pair k ts o)
      (agree_same
      (in_turn_then os (list_value k) (λ z. value (pair (left unit) z))
      ∙ in_turn_same os (λ vs r. ap value (sym (partition_empty (left unit) (λ zs. right (row_value zs)) pair k vs (rw (r ∙ m.0) o)))))
      (agree_pair (agree_left agree_unit) (agree_list k a h e (rw m.1 o)))))
      (λ o.
      rw (partition_filled (terms.injl terms.unit) (λ zs. terms.injr (row_term zs)) terms.pair k ts o)
      (agree_same
      (in_turn_same os (λ vs r. ap value (sym (partition_filled (left unit) (λ zs. right (row_value zs)) pair k vs (rw (r ∙ m.0) o)))))
      (agree_parts n os (λ vs. right (row_value vs)) (list_value k)
      (agree_block (suc k) a (all_take n h) (are_take a n us e) (length-take-le n us (rw m.1 o)))
      (agree_list k a (all_drop n h) (are_drop a n us e) (rw (length-drop n us) (omega (arith, two-pow-succ (suc k), m.1)))))))

  -- a payload behind its path is of each type that has the payload's type at the path's end
  pub agree_variant : (ks : List Side) (t : Ty) {p : Term} {o : Outcome} {a : Ty} → leads sums ks t ≡ some a → Agrees M ws p v o a → Agrees M ws (inject ks p) v (and_then o (λ x. value (behind ks x))) t
  unfolding leads onward side_of inject behind
  agree_variant [] t {o = o} {a = a} e h = let q : t ≡ a = cc e in rw q (agree_same (sym (then_value o)) h)
  agree_variant (on_left ∷ ks) one e h = absurd (none-ne-some _ e)
  agree_variant (on_left ∷ ks) (sum b c) {o = o} e h = agree_same (then_then o _ _) (agree_left (agree_variant ks b e h))
  agree_variant (on_left ∷ ks) (product b c) e h = absurd (none-ne-some _ e)
  agree_variant (on_right ∷ ks) one e h = absurd (none-ne-some _ e)
  agree_variant (on_right ∷ ks) (sum b c) {o = o} e h = agree_same (then_then o _ _) (agree_right (agree_variant ks c e h))
  agree_variant (on_right ∷ ks) (product b c) e h = absurd (none-ne-some _ e)

  -- so of a row
  pub agree_variant_row : (ks : List Side) (t : Ty) {ts : List Term} {os : List Outcome} {as' : List Ty} → leads sums ks t ≡ some (row_type as') → AgreesAll M ws v ts os as' → Agrees M ws (inject ks (row_term ts)) v (in_turn os (λ vs. value (behind ks (row_value vs)))) t
  agree_variant_row ks t {os = os} e h = agree_same (in_turn_then os row_value (λ x. value (behind ks x))) (agree_variant ks t e (agree_row h))
