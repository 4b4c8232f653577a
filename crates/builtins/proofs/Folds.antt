-- Laws of the array fold: its powers one by one, and its tree by the top power of its size.
-- Assumes nothing.
use Prim.Native.Nat.{ℕ, zero, suc, ◌+◌, ◌-◌, ◌*◌, ◌%◌, ◌^◌, ◌≤◌, ◌<◌}
use mathlib.Core.Path.{◌≡◌, refl, sym, ap, ◌∙◌}
use mathlib.Core.List.{List, [], ◌∷◌, ◌++◌}
use native.Mathlib.Nat.{two-pow-succ}
use native.Mathlib.Numerals.{add-one}
use native.Mathlib.Omega.{arith}
use borrow.Author.Tests.{eq-eqb, ne_eqb}
use lib.ListN.{length, get_or, set, take, length-set}
use lib.Pow.{pow_pos, shl_exact}
use lib.Seq.{get_or-take, get_or-set_same, take-set-le, take-suc, append_snoc}
use Rattle.laws.specs.Order.{by_lt, pow_less}
use Rattle.std.specs.Prelude.{Result, Ok, Err}
use Rattle.book.specs.declared.fault.Refusal.{Refusal}
use Rattle.array.specs.Split.{top_of}
use Rattle.array.proofs.Splits.{top_of_lem}
use Rattle.named.specs.Trace.{Run, pure, bind}
use Rattle.named.specs.Stores.{Done}
use Rattle.named.specs.Table.{Table}
use Rattle.named.proofs.Runs.{bind_bind, bind_pure}
use Rattle.named.proofs.Storing.{then, halt, done_pure}
use Rattle.builtins.specs.ArrayFold.{f_array_fold, powers, tree_fold, array_fold}

-- below 2 ^ k, it is at a place below k
pub top_below : (n k : ℕ) → 0 < n → n < 2 ^ k → top_of n < k
top_below n k o h = pow_less (top_of n) k (omega (arith, top_of_lem n o))

-- p is the top power of n
pub record Taken (n p : ℕ) : Type 0 where
  pub is : p ≡ 2 ^ top_of n
  pub some : 0 < p
  pub fits : p ≤ n

-- a one, moved to the top place
pub top_taken : (n k : ℕ) → 0 < n → n ≤ 256 → k ≡ top_of n → Taken n ((1 * 2 ^ k) % 4294967296)
top_taken n k o h e =
    let p : (1 * 2 ^ k) % 4294967296 ≡ 2 ^ top_of n = rw e (shl_exact {a = 1} 1 (top_of n) 32 (omega arith) (omega (arith, top_below n 9 o (omega arith))) ∙ omega arith) in
    record { is = p; some = omega (arith, pow_pos (top_of n)); fits = omega (arith, top_of_lem n o) }

module _ (r : ℕ) (fs : List ℕ) (n : ℕ) where
  abbrev top : Run ℕ
  top = pure (get_or fs (top_of n) 0)

  abbrev join : Run ℕ → Run ℕ
  join m = bind m (λ left. f_array_fold r left (get_or fs (top_of n) 0))

  -- the size is a power, or there is a rest
  pub tree_top : (d : ℕ) → n ≡ 2 ^ top_of n → tree_fold d r fs n ≡ top
  unfolding tree_fold
  tree_top zero e = refl
  tree_top (suc d) e = rw (eq-eqb n (2 ^ top_of n) e, tree_fold)

  pub tree_step : (d : ℕ) → 2 ^ top_of n < n → tree_fold (suc d) r fs n ≡ join (tree_fold d r fs (n - 2 ^ top_of n))
  unfolding tree_fold
  tree_step d h = rw (ne_eqb n (2 ^ top_of n) (λ e. omega arith), tree_fold)

-- enough calls are enough
tree_calls : (r : ℕ) (fs : List ℕ) (d e n : ℕ) → 0 < n → n ≤ d → n ≤ e → tree_fold d r fs n ≡ tree_fold e r fs n
tree_calls r fs zero e n o h k = absurd (omega arith)
tree_calls r fs (suc d) zero n o h k = absurd (omega arith)
tree_calls r fs (suc d) (suc e) n o h k = by_lt (2 ^ top_of n) n
    (λ l.
    let u : ℕ = n - 2 ^ top_of n in
    tree_step r fs n d l ∙ ap (join r fs n) (tree_calls r fs d e u (omega arith) (omega (arith, pow_pos (top_of n))) (omega (arith, pow_pos (top_of n)))) ∙ sym (tree_step r fs n e l))
    (λ l.
    let q : n ≡ 2 ^ top_of n = omega (arith, top_of_lem n o) in
    tree_top r fs n (suc d) q ∙ sym (tree_top r fs n (suc e) q))

-- a rest is folded first
tree_more_at : (r : ℕ) (fs : List ℕ) (n d : ℕ) → n ≡ suc d → 2 ^ top_of n < n → tree_fold n r fs n ≡ join r fs n (tree_fold (n - 2 ^ top_of n) r fs (n - 2 ^ top_of n))
tree_more_at r fs n d e l =
    ap (λ (i : ℕ). tree_fold i r fs n) e ∙ tree_step r fs n d l
    ∙ ap (join r fs n) (tree_calls r fs d (n - 2 ^ top_of n) (n - 2 ^ top_of n) (omega arith) (omega (arith, pow_pos (top_of n))) (omega arith))

-- a tree by the place k and the power u of the top one
module _ (r : ℕ) (fs : List ℕ) (n k u : ℕ) (some : 0 < n) (is : k ≡ top_of n) (taken : Taken n u) where
  pub tree_one : (d : Table) → n - u ≡ 0 → Done d (tree_fold n r fs n) (Ok (get_or fs k 0)) d
  tree_one d e = rw (tree_top r fs n n (omega (arith, taken.is, taken.fits)), ← is) (done_pure d (get_or fs k 0))

  pub tree_more : 0 < n - u → tree_fold n r fs n ≡ bind (tree_fold (n - u) r fs (n - u)) (λ left. f_array_fold r left (get_or fs k 0))
  tree_more h = tree_more_at r fs n (n - 1) (omega arith) (omega (arith, taken.is)) ∙ rw (taken.is, is) refl

-- only the powers up to the top one count
tree_take : (r : ℕ) (fs : List ℕ) (k d n : ℕ) → 0 < n → n < 2 ^ k → tree_fold d r (take k fs) n ≡ tree_fold d r fs n
unfolding tree_fold
tree_take r fs k zero n o h = ap pure (get_or-take k fs (top_of n) 0 (top_below n k o h))
tree_take r fs k (suc d) n o h =
    let e : get_or (take k fs) (top_of n) 0 ≡ get_or fs (top_of n) 0 = get_or-take k fs (top_of n) 0 (top_below n k o h) in
    by_lt (2 ^ top_of n) n
    (λ l. tree_step r (take k fs) n d l ∙ rw (e, tree_take r fs k d (n - 2 ^ top_of n) (omega arith) (omega arith)) (sym (tree_step r fs n d l)))
    (λ l.
    let q : n ≡ 2 ^ top_of n = omega (arith, top_of_lem n o) in
    tree_top r (take k fs) n (suc d) q ∙ ap pure e ∙ sym (tree_top r fs n (suc d) q))

-- one power, and then the others
powers_step : (r : ℕ) (K : List ℕ → Run ℕ) (j g : ℕ) → bind (powers r (suc j) g) K ≡ bind (f_array_fold r g g) (λ h. bind (powers r j h) (λ gs. K (g ∷ gs)))
unfolding powers
powers_step r K j g =
    bind_bind (f_array_fold r g g) (λ h. bind (powers r j h) (λ gs. pure (g ∷ gs))) K
    ∙ ap (bind (f_array_fold r g g)) (λ i h. (bind_bind (powers r j h) (λ gs. pure (g ∷ gs)) K ∙ ap (bind (powers r j h)) (λ u gs. bind_pure (g ∷ gs) K u)) i)

-- the tree of n elements, by whatever powers
abbrev tree_of : ℕ → ℕ → List ℕ → Run ℕ
tree_of r n fs = tree_fold n r fs n

-- the powers from place k up to m, after those in the row, and then the tree of n elements
abbrev onward : ℕ → ℕ → ℕ → List ℕ → ℕ → Run ℕ
onward r n m fs k = bind (powers r (m - k) (get_or fs k 0)) (λ gs. tree_of r n (take k fs ++ gs))

module _ (r n m k : ℕ) (fs : List ℕ) (fits : m < length fs) where
  -- one power more
  power_next : {d d₁ d₂ : Table} {x : ℕ} {s : Result ℕ Refusal} → k < m → Done d (f_array_fold r (get_or fs k 0) (get_or fs k 0)) (Ok x) d₁ → Done d₁ (onward r n m (set fs (k + 1) x) (k + 1)) s d₂ → Done d (onward r n m fs k) s d₂
  power_next {x = x} h p o =
      let g : ℕ = get_or fs k 0 in
      let gs : List ℕ = set fs (k + 1) x in
      let j : ℕ = m - (k + 1) in
      let e : m - k ≡ suc j = omega arith in
      let a : get_or gs (k + 1) 0 ≡ x = get_or-set_same fs (k + 1) x 0 (omega arith) in
      let b : take (k + 1) gs ≡ take k fs ++ (g ∷ []) = take-set-le (k + 1) fs (k + 1) x (omega arith) ∙ rw add-one (take-suc fs k 0 (omega arith)) in
      let z : onward r n m gs (k + 1) ≡ bind (powers r j x) (λ xs. tree_of r n (take k fs ++ g ∷ xs)) =
      ap (λ (y : ℕ). bind (powers r j y) (λ xs. tree_of r n (take (k + 1) gs ++ xs))) a
      ∙ ap (λ (f : List ℕ → List ℕ). bind (powers r j x) (λ xs. tree_of r n (f xs))) (λ i xs. (ap (λ (ys : List ℕ). ys ++ xs) b ∙ append_snoc (take k fs) g xs) i) in
      rw (e, powers_step r (λ xs. tree_of r n (take k fs ++ xs)) j g) (then _ p (rw z at o))

  -- or it is refused
  power_stop : {d d₁ : Table} {w : Refusal} → k < m → Done d (f_array_fold r (get_or fs k 0) (get_or fs k 0)) (Err w) d₁ → Done d (onward r n m fs k) (Err w) d₁
  power_stop h p =
      let j : ℕ = m - (k + 1) in
      let e : m - k ≡ suc j = omega arith in
      rw (e, powers_step r (λ xs. tree_of r n (take k fs ++ xs)) j (get_or fs k 0)) (halt _ p)

  -- no power more: the tree is left
  power_last : k ≤ m → m ≤ k → onward r n m fs k ≡ tree_of r n (take (suc m) fs)
  unfolding powers
  power_last a b =
      let z : k ≡ m = omega arith in
      let e : m - m ≡ 0 = omega arith in
      rw (z, e, bind_pure (get_or fs m 0 ∷ []) (λ gs. tree_of r n (take m fs ++ gs)), take-suc fs m 0 fits)

-- an array fold of n for record r by f, begun at the table d₀: the row fs has its powers up to place k, and what is left of it, from
-- the table d on, makes the whole
pub record Going (r n f m : ℕ) (d₀ d : Table) (fs : List ℕ) (k : ℕ) : Type 0 where
  pub place : m ≡ top_of n
  pub reached : k ≤ m
  pub most : m ≤ 8
  pub nine : length fs ≡ 9
  pub onto : (s : Result ℕ Refusal) (u : Table) → Done d (onward r n m fs k) s u → Done d₀ (bind (powers r (m - 0) f) (tree_of r n)) s u

module _ (r n f m : ℕ) (some : 0 < n) where
  pub going_first : (d : Table) (row : List ℕ) → n ≤ 256 → m ≡ top_of n → length row ≡ 8 → Going r n f m d d (f ∷ row) 0
  going_first d row h e l = record {
    place = e;
    reached = omega arith;
    most = omega (arith, top_below n 9 some (omega arith));
    nine = ap suc l;
    onto = λ s u p. p;
  }

  module _ {d₀ d d₁ : Table} (fs : List ℕ) (k : ℕ) (g : Going r n f m d₀ d fs k) where
    pub going_next : {x : ℕ} → k < m → Done d (f_array_fold r (get_or fs k 0) (get_or fs k 0)) (Ok x) d₁ → Going r n f m d₀ d₁ (set fs (k + 1) x) (k + 1)
    going_next {x} h p = record {
      place = g.place;
      reached = omega arith;
      most = g.most;
      nine = length-set fs (k + 1) x ∙ g.nine;
      onto = λ s u e. g.onto s u (power_next r n m k fs (omega (arith, g.nine, g.most)) h p e);
    }

    -- a power is refused
    pub going_stop : {w : Refusal} → k < m → Done d (f_array_fold r (get_or fs k 0) (get_or fs k 0)) (Err w) d₁ → Done d₀ (array_fold r n f) (Err w) d₁
    unfolding array_fold
    going_stop {w} h p =
        let z : m - 0 ≡ top_of n = omega (arith, g.place) in
        rw z at (g.onto (Err w) d₁ (power_stop r n m k fs (omega (arith, g.nine, g.most)) h p))

    pub going_last : {s : Result ℕ Refusal} → m ≤ k → Done d (tree_fold n r fs n) s d₁ → Done d₀ (array_fold r n f) s d₁
    unfolding array_fold
    going_last {s} h p =
        let l : n < 2 ^ suc m = rw g.place (omega (arith, top_of_lem n some, two-pow-succ (top_of n))) in
        let e : onward r n m fs k ≡ tree_fold n r fs n = power_last r n m k fs (omega (arith, g.nine, g.most)) g.reached h ∙ tree_take r fs (suc m) n n some l in
        let z : m - 0 ≡ top_of n = omega (arith, g.place) in
        rw z at (g.onto s d₁ (rw e p))
