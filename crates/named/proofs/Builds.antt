-- Laws of what is built of nodes: bits, selectors, wraps along a path, rows.
-- Assumes nothing.
use Rattle.std.proofs.Common.{ℕ, zero, suc, ◌-◌, ◌≤◌, ◌<◌, Bool, true, false, ◌≡◌, refl, List, [], ◌∷◌, map, arith, length, get_or, take, drop, drop-cons, Result, Ok, Err}
use Rattle.std.proofs.Math.Seq.{drop-length}
use Rattle.laws.specs.Rows.{map_length, map_take, map_drop}
use Rattle.array.specs.Split.{split_of}
use Rattle.array.specs.Path.{path}
use Rattle.array.proofs.Paths.{path_one, path_left, path_right}
use Rattle.array.proofs.Rows.{row_none, row_one, row_step}
use Rattle.named.specs.Trace.{pure, bind, emit}
use Rattle.named.specs.Combinators.{unit, injl, injr, bit, kinds, wraps, joined, joins}
use Rattle.book.specs.declared.fault.Refusal.{Refusal}
use Rattle.named.specs.Stores.{Done}
use Rattle.named.specs.Table.{Table}
use Rattle.named.proofs.Storing.{then, halt, handed, done_pure}

-- a bit is unit, and then the side that it says
pub bit_is : (r : ℕ) {v : Bool} → v ≡ true → bit r v ≡ bind (unit r) (λ u. injr r u)
unfolding bit
bit_is r e = rw e refl

pub bit_not : (r : ℕ) {v : Bool} → v ≡ false → bit r v ≡ bind (unit r) (λ u. injl r u)
unfolding bit
bit_not r e = rw e refl

pub bit_halts : (r : ℕ) (v : Bool) {d d₁ : Table} {w : Refusal} → Done d (unit r) (Err w) d₁ → Done d (bit r v) (Err w) d₁
bit_halts r true p = rw (bit_is r refl) (halt _ p)
bit_halts r false p = rw (bit_not r refl) (halt _ p)

-- the steps of a selector from the last on, around a node
module _ (r a : ℕ) {d : Table} (ks : List ℕ) where
  pub steps_none : (k : ℕ) → k ≡ length ks → Done d (wraps r (drop k ks) a) (Ok a) d
  unfolding wraps
  steps_none k e = rw (e, drop-length ks) (done_pure d a)

  pub steps_next : {d₁ d₂ : Table} {b : ℕ} {s : Result ℕ Refusal} (j k : ℕ) → k ≤ length ks → 0 < k → j ≡ k - 1 → Done d (wraps r (drop k ks) a) (Ok b) d₁ → Done d₁ (emit r (get_or ks j 0) b 0) s d₂ → Done d (wraps r (drop j ks) a) s d₂
  unfolding wraps
  steps_next j k h o e p q =
      let z : k ≡ suc j = omega arith in
      rw (drop-cons ks j 0 (omega arith)) (then (λ b. emit r (get_or ks j 0) b 0) (rw z at p) q)

  steps_stop : {d₁ : Table} {w : Refusal} (k : ℕ) → k ≤ length ks → Done d (wraps r (drop k ks) a) (Err w) d₁ → Done d (wraps r ks a) (Err w) d₁
  unfolding wraps
  steps_stop zero h p = p
  steps_stop (suc k) h p = steps_stop k (omega arith) (rw (drop-cons ks k 0 (omega arith)) (halt (λ b. emit r (get_or ks k 0) b 0) p))

  -- where one is refused, so are all
  pub steps_halt : {d₁ d₂ : Table} {b : ℕ} {w : Refusal} (j k : ℕ) → k ≤ length ks → 0 < k → j ≡ k - 1 → Done d (wraps r (drop k ks) a) (Ok b) d₁ → Done d₁ (emit r (get_or ks j 0) b 0) (Err w) d₂ → Done d (wraps r ks a) (Err w) d₂
  steps_halt j k h o e p q = steps_stop j (omega arith) (steps_next j k h o e p q)

-- a node along the path to element k of n
module _ (r l g n k a : ℕ) where
  pub along_one : (d : Table) → n < 2 → k < n → Done d (wraps r (kinds l g (path n k)) a) (Ok a) d
  unfolding wraps
  along_one d h o = let e : n ≡ 1 = omega arith in rw (e, path_one k) (done_pure d a)

  pub along_left : {c : ℕ} → c ≡ split_of n → 2 ≤ n → k < c → wraps r (kinds l g (path n k)) a ≡ bind (wraps r (kinds l g (path c k)) a) (λ b. emit r l b 0)
  unfolding wraps
  along_left e two h = rw (path_left n k two (rw e at h), ← e) refl

  pub along_right : {c m j : ℕ} → c ≡ split_of n → 2 ≤ n → c ≤ k → m ≡ n - c → j ≡ k - c → wraps r (kinds l g (path n k)) a ≡ bind (wraps r (kinds l g (path m j)) a) (λ b. emit r g b 0)
  unfolding wraps
  along_right e two h o p = rw (path_right n k two (rw e at h), o, p, e) refl

-- rows of nodes: none, one, and two parts
module _ (r kind : ℕ) where
  pub joins_none : joins r kind [] ≡ unit r
  unfolding joins
  joins_none = row_none (unit r) (joined (emit r kind))

  pub joins_one : (x : ℕ) → joins r kind (x ∷ []) ≡ pure x
  unfolding joins
  joins_one x = row_one (unit r) (joined (emit r kind)) (pure x)

  pub joins_step : (xs : List ℕ) → 2 ≤ length xs → joins r kind xs ≡ joined (emit r kind) (joins r kind (take (split_of (length xs)) xs)) (joins r kind (drop (split_of (length xs)) xs))
  unfolding joins
  joins_step xs h =
      rw (row_step (unit r) (joined (emit r kind)) (map pure xs) (rw map_length h), map_length, map_take, map_drop)

-- a row of nodes by its length
module _ (r kind : ℕ) (xs : List ℕ) where
  pub join_none : length xs < 1 → joins r kind xs ≡ unit r
  join_none h = none xs h
    where
      none : (ys : List ℕ) → length ys < 1 → joins r kind ys ≡ unit r
      none [] l = joins_none r kind
      none (y ∷ ys) l = absurd (omega arith)

  pub join_one : 1 ≤ length xs → length xs < 2 → joins r kind xs ≡ pure (get_or xs 0 0)
  join_one h l = one xs h l
    where
      one : (ys : List ℕ) → 1 ≤ length ys → length ys < 2 → joins r kind ys ≡ pure (get_or ys 0 0)
      one [] p q = absurd (omega arith)
      one (y ∷ []) p q = joins_one r kind y
      one (y ∷ z ∷ ys) p q = absurd (omega arith)

  -- two or more: the parts that it splits into, and then the node that joins them
  pub join_more : {c : ℕ} {ls gs : List ℕ} → 2 ≤ length xs → c ≡ split_of (length xs) → ls ≡ take c xs → gs ≡ drop c xs → joins r kind xs ≡ joined (emit r kind) (joins r kind ls) (joins r kind gs)
  join_more two e l g = rw (l, g, e) (joins_step r kind xs two)

-- what the check is given to prove the functions that build them
pub ruleset builds = (then, halt, handed, done_pure, bit_is, bit_not, bit_halts, steps_none, steps_next, steps_halt, along_one, along_left, along_right, join_none, join_one, join_more)
