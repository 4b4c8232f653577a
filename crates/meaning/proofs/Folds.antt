-- A fold's term makes of a list or an array, and of an accumulator, what the source says: its elements from the first to the last.
-- Assumes nothing.
use Prim.Native.Nat.{ℕ, zero, suc, ◌+◌, ◌-◌, ◌≤◌, ◌<◌, ◌^◌}
use mathlib.Core.List.{List, [], ◌∷◌, ◌++◌, append_assoc}
use mathlib.Core.Option.{Option, some, none}
use mathlib.Core.Path.{◌≡◌, refl, sym, ap, ap₂, subst, ◌∙◌}
use native.Mathlib.Nat.{two-pow-succ}
use native.Mathlib.Omega.{arith}
use borrow.Author.Tests.{eq-eqb, ne_eqb}
use lib.ListN.{get_or, take, drop, replicate, length-replicate}
use lib.Pow.{pow_pos}
use Rattle.laws.specs.Order.{by_lt, pow_less}
use Rattle.array.specs.Split.{split_of, top_of}
use Rattle.array.specs.Path.{path}
use Rattle.array.proofs.Splits.{split_is, split_less, split_power, top_of_lem}
use Rattle.array.proofs.Rows.{row_one, row_step}
use Rattle.array.proofs.Paths.{path_one, path_left, path_right}
use Rattle.simplicity.specs.Types.{Ty, one, product, power, fewer}
use Rattle.simplicity.specs.Values.{Value, right, pair, Of, of_left, of_right, of_pair}
use Rattle.simplicity.specs.Outcomes.{Outcome, value, failed, stuck, missing, and_then}
use Rattle.simplicity.specs.Terms.{Term, fail}
use Rattle.simplicity.specs.Terms as terms
use Rattle.simplicity.specs.Meaning.{Witnesses, eval}
use Rattle.shapes.specs.Shapes.{array_type}
use Rattle.meaning.specs.Source.{half, element_at, together, elements, listed, fold, folding}
use Rattle.meaning.proofs.Terms.{fold_both, with_block, next_fold, doubled, fold_list, powers, tree_fold, fold_array}
use Rattle.meaning.proofs.Agreeing.{Fine, Agrees}

-- rows one after another, where they are there
together_none : {A : Type 0} (o : Option (List A)) → together (some []) o ≡ o
together_none (some xs) = refl
together_none none = refl

together_together : {A : Type 0} (o p q : Option (List A)) → together (together o p) q ≡ together o (together p q)
together_together (some xs) (some ys) (some zs) = ap some (append_assoc xs ys zs)
together_together (some xs) (some ys) none = refl
together_together (some xs) none q = refl
together_together none p q = refl

-- the elements of a pair are those of its left part and then those of its right part
module _ (n : ℕ) (two : 2 ≤ n) (x y : Value) where
  elements_left : (m k r : ℕ) → k + m ≡ split_of n → elements n k (m + r) (pair x y) ≡ together (elements (split_of n) k m x) (elements n (split_of n) r (pair x y))
  unfolding elements element_at half
  elements_left zero k r e =
      let z : 0 + r ≡ r = omega arith in
      let q : k ≡ split_of n = omega arith in
      rw (z, q) (sym (together_none _))
  elements_left (suc m) k r e =
      let z : suc m + r ≡ suc (m + r) = omega arith in
      rw (z, path_left n k two (omega arith), elements_left m (suc k) r (omega arith))
      (sym (together_together (elim (element_at (path (split_of n) k) x) [ some w ↦ some (w ∷ []) | none ↦ none ]) (elements (split_of n) (suc k) m x) (elements n (split_of n) r (pair x y))))

  elements_right : (m k j : ℕ) → split_of n + k ≡ j → elements n j m (pair x y) ≡ elements (n - split_of n) k m y
  unfolding elements element_at half
  elements_right zero k j e = refl
  elements_right (suc m) k j e =
      let q : j - split_of n ≡ k = omega arith in
      rw (path_right n j two (omega arith), q, elements_right m (suc k) (suc j) (omega arith))

  elements_pair : elements n 0 n (pair x y) ≡ together (elements (split_of n) 0 (split_of n) x) (elements (n - split_of n) 0 (n - split_of n) y)
  elements_pair =
      let s : ℕ = split_of n in
      let q : n ≡ s + (n - s) = omega (arith, split_less n two) in
      ap (λ (m : ℕ). elements n 0 m (pair x y)) q
      ∙ elements_left s 0 (n - s) (omega arith)
      ∙ ap (together (elements s 0 s x)) (elements_right (n - s) 0 s (omega arith))

-- the type of n in a row, by the split of n
replicate_take : {A : Type 0} (m n : ℕ) (a : A) → m ≤ n → take m (replicate n a) ≡ replicate m a
replicate_take zero n a h = refl
replicate_take (suc m) zero a h = absurd (omega arith)
replicate_take (suc m) (suc n) a h = ap (◌∷◌ a) (replicate_take m n a (omega arith))

replicate_drop : {A : Type 0} (m n r : ℕ) (a : A) → m + r ≡ n → drop m (replicate n a) ≡ replicate r a
replicate_drop zero n r a h = let e : n ≡ r = omega arith in rw e
replicate_drop (suc m) zero r a h = absurd (omega arith)
replicate_drop (suc m) (suc n) r a h = replicate_drop m n r a (omega arith)

array_parts : (a : Ty) (n : ℕ) → 2 ≤ n → array_type a n ≡ product (array_type a (split_of n)) (array_type a (n - split_of n))
array_parts a n two =
    let l = length-replicate n a in
    let h : split_of n < n = split_less n two in
    row_step one product (replicate n a) (omega (arith, l))
    ∙ rw (l, replicate_take (split_of n) n a (omega arith), replicate_drop (split_of n) n (n - split_of n) a (omega arith))

-- a power of two above 1 is twice its half
halves : (k : ℕ) → (2 ≤ 2 ^ suc k) × (2 ^ k ≡ split_of (2 ^ suc k)) × (2 ^ k ≡ 2 ^ suc k - split_of (2 ^ suc k))
halves k =
    let d : 2 ^ suc k ≡ 2 ^ k + 2 ^ k = two-pow-succ k in
    let s = split_power k in
    (omega (arith, pow_pos k), sym s, omega arith)

-- 2 ^ k of a type are so many in a row
power_array : (a : Ty) (k : ℕ) → power a k ≡ array_type a (2 ^ k)
unfolding power
power_array a zero = sym (row_one one product a)
power_array a (suc k) =
    let h = halves k in
    ap₂ product (power_array a k ∙ ap (array_type a) h.1) (power_array a k ∙ ap (array_type a) h.2) ∙ sym (array_parts a (2 ^ suc k) h.0)

-- a fold over two rows is a fold over one and then over the other
fold_append : (f : Value → Value → Outcome) (xs ys : List Value) (c : Value) → fold f (xs ++ ys) c ≡ and_then (fold f xs c) (fold f ys)
unfolding fold
fold_append f [] ys c = refl
fold_append f (x ∷ xs) ys c = go (f x c) (fold_append f xs ys)
  where
    go : (o : Outcome) → ((d : Value) → fold f (xs ++ ys) d ≡ and_then (fold f xs d) (fold f ys)) → and_then o (fold f (xs ++ ys)) ≡ and_then (and_then o (fold f xs)) (fold f ys)
    go (value d) h = h d
    go failed h = refl
    go stuck h = refl
    go missing h = refl

-- one step and no more is that step
fold_one : (f : Value → Value → Outcome) (o : Outcome) → and_then o (fold f []) ≡ o
unfolding fold
fold_one f (value d) = refl
fold_one f failed = refl
fold_one f stuck = refl
fold_one f missing = refl

module _ (M : Type 0) (ws : Witnesses) (f : Value → Value → Outcome) (b : Ty) where
  -- a value's elements are there, and a term folds them
  record Folded (t : Term) (v : Value) (o : Option (List Value)) : Type 0 where
    all : List Value
    there : o ≡ some all
    agrees : (c : Value) → Of c b → Agrees M ws t (pair v c) (fold f all c) b

  folded : {t : Term} {v : Value} {o : Option (List Value)} → Folded t v o → (c : Value) → Of c b → Agrees M ws t (pair v c) (folding f o c) b
  folded h c k = rw h.there (h.agrees c k)

  -- after one row the next, unless the first did not come to a value
  next : {r : Term} {y : Value} (ys : List Value) → ((d : Value) → Of d b → Agrees M ws r (pair y d) (fold f ys d) b) → (o : Outcome) → Fine M o b → (and_then (and_then o (λ d. value (pair y d))) (eval ws r) ≡ and_then o (fold f ys)) × (Fine M (and_then o (fold f ys)) b)
  next ys h (value d) k = ((h d k).same, (h d k).fine)
  next ys h failed k = (refl, tt)
  next ys h stuck k = absurd k
  next ys h missing k = (refl, k)

  -- a term that does one row and then the next; one that does what another does
  in_turn_lem : {u l r : Term} {w x y : Value} {o p : Option (List Value)} → Folded l x o → Folded r y p → ((c : Value) → eval ws u (pair w c) ≡ and_then (and_then (eval ws l (pair x c)) (λ d. value (pair y d))) (eval ws r)) → Folded u w (together o p)
  in_turn_lem {r = r} {y = y} h g e = record {
    all = h.all ++ g.all;
    there = rw (h.there, g.there);
    agrees = λ c k.
        let first = h.agrees c k in
        let then = next g.all g.agrees (fold f h.all c) first.fine in
        rw (fold_append f h.all g.all c)
        record { same = e c ∙ ap (λ (q : Outcome). and_then (and_then q (λ d. value (pair y d))) (eval ws r)) first.same ∙ then.0; fine = then.1 };
  }

  as_folded : {t u : Term} {v w : Value} {o : Option (List Value)} → Folded t v o → ((c : Value) → eval ws u (pair w c) ≡ eval ws t (pair v c)) → Folded u w o
  as_folded h e = record { all = h.all; there = h.there; agrees = λ c k. record { same = e c ∙ (h.agrees c k).same; fine = (h.agrees c k).fine } }

  -- a pair's left and then its right; a list's block and then the rest
  both_folded : {l r : Term} {x y : Value} {o p : Option (List Value)} → Folded l x o → Folded r y p → Folded (fold_both l r) (pair x y) (together o p)
  unfolding eval fold_both
  both_folded h g = in_turn_lem h g (λ c. refl)

  block_folded : {l r : Term} {x y : Value} {o p : Option (List Value)} → Folded l x o → Folded r y p → Folded (next_fold l r) (pair (right x) y) (together o p)
  unfolding eval next_fold with_block
  block_folded h g = in_turn_lem h g (λ c. refl)

  module _ (a : Ty) where
    -- a term makes of an element and the accumulator what f does; it folds every array of n; it folds every list of bound 2 ^ suc k
    abbrev Steps : Term → Type 0
    Steps t = (x c : Value) → Of x a → Of c b → Agrees M ws t (pair x c) (f x c) b

    abbrev Arrays : Term → ℕ → Type 0
    Arrays t n = (v : Value) → Of v (array_type a n) → Folded t v (elements n 0 n v)

    abbrev Lists : Term → ℕ → Type 0
    Lists t k = (v : Value) → Of v (fewer a k) → Folded t v (listed k v)

    -- one element
    one_folded : {t : Term} → Steps t → {v : Value} → Of v a → Folded t v (some (v ∷ []))
    unfolding fold
    one_folded h {v} i = record { all = v ∷ []; there = refl; agrees = λ c k. rw (fold_one f (f v c)) (h v c i k) }

    arrays_one : {t : Term} → Steps t → Arrays t 1
    unfolding elements element_at
    arrays_one h v i = rw (path_one 0) (one_folded h (subst (Of v) (row_one one product a) i))

    -- the parts of an array by its split; an array of twice as many
    arrays_both : (n : ℕ) → 2 ≤ n → {l r : Term} → Arrays l (split_of n) → Arrays r (n - split_of n) → Arrays (fold_both l r) n
    arrays_both n two {l} {r} h g v i = go v (subst (Of v) (array_parts a n two) i)
      where
        go : (w : Value) → Of w (product (array_type a (split_of n)) (array_type a (n - split_of n))) → Folded (fold_both l r) w (elements n 0 n w)
        go w (of_pair {v = x} {w = y} j k) = rw (elements_pair n two x y) (both_folded (h x j) (g y k))

    arrays_double : (k : ℕ) {t : Term} → Arrays t (2 ^ k) → Arrays (fold_both t t) (2 ^ suc k)
    arrays_double k {t} h = let d = halves k in arrays_both (2 ^ suc k) d.0 (subst (Arrays t) d.1 h) (subst (Arrays t) d.2 h)

    -- the powers, from 2 ^ i on; the tree of any size
    arrays_powers : (j k i m : ℕ) {t : Term} → i + k ≡ m → k ≤ j → Arrays t (2 ^ i) → Arrays (get_or (powers j t) k fail) (2 ^ m)
    unfolding powers
    arrays_powers zero zero i m {t} e l h = subst (λ (q : ℕ). Arrays t (2 ^ q)) (omega arith) h
    arrays_powers zero (suc k) i m e l h = absurd (omega arith)
    arrays_powers (suc j) zero i m {t} e l h = subst (λ (q : ℕ). Arrays t (2 ^ q)) (omega arith) h
    arrays_powers (suc j) (suc k) i m e l h = arrays_powers j k (suc i) m (omega arith) (omega arith) (arrays_double i h)

    arrays_tree : (fs : List Term) (p : ℕ) → ((k : ℕ) → k ≤ p → Arrays (get_or fs k fail) (2 ^ k)) → (d n : ℕ) → 0 < n → n ≤ d → n < 2 ^ suc p → Arrays (tree_fold d fs n) n
    unfolding tree_fold
    arrays_tree fs p h zero n o l u = absurd (omega arith)
    arrays_tree fs p h (suc d) n o l u =
        let q : ℕ = top_of n in
        let t = top_of_lem n o in
        let double = two-pow-succ q in
        let g : Arrays (get_or fs q fail) (2 ^ q) = h q (omega (arith, pow_less q (suc p) (omega arith))) in
        by_lt (2 ^ q) n
        (λ w.
        let s : n - 2 ^ q ≡ split_of n = sym (split_is q n w (omega arith)) in
        let r : 2 ^ q ≡ n - split_of n = omega arith in
        let i : Arrays (tree_fold d fs (n - 2 ^ q)) (n - 2 ^ q) = arrays_tree fs p h d (n - 2 ^ q) (omega arith) (omega (arith, pow_pos q)) (omega arith) in
        rw (ne_eqb n (2 ^ q) (λ e. omega arith), tree_fold) (arrays_both n (omega (arith, pow_pos q)) (subst (Arrays _) s i) (subst (Arrays _) r g)))
        (λ w.
        let e : 2 ^ q ≡ n = omega arith in
        rw (eq-eqb n (2 ^ q) (sym e), tree_fold) (subst (Arrays _) e g))

    -- the last block of a list; the blocks before it, each of twice as many
    lists_one : {t : Term} → Steps t → Lists (terms.case (terms.drop terms.iden) t) 0
    unfolding eval fewer listed fold
    lists_one h v (of_left i) = record { all = []; there = refl; agrees = λ c k. record { same = refl; fine = k } }
    lists_one h v (of_right i) = as_folded (one_folded h i) (λ c. refl)

    lists_more : (k : ℕ) {l r : Term} → Arrays l (2 ^ suc k) → Lists r k → Lists (next_fold l r) (suc k)
    unfolding eval fewer listed next_fold
    lists_more k h g v (of_pair {w = y} (of_left i) j) = as_folded (g y j) (λ c. refl)
    lists_more k h g v (of_pair {w = y} (of_right {v = x} i) j) = block_folded (h x (subst (Of x) (power_array a (suc k)) i)) (g y j)

    lists_doubled : (k i m : ℕ) {l r : Term} → i + k ≡ m → Arrays l (2 ^ i) → Lists r i → Lists (doubled k l r) m
    unfolding doubled
    lists_doubled zero i m {r = r} e h g = subst (Lists r) (omega arith) g
    lists_doubled (suc k) i m e h g = let w = arrays_double i h in lists_doubled k (suc i) m (omega arith) w (lists_more i w g)

-- a list's fold means what the source says, where its function does
pub agree_list_fold : {M : Type 0} {ws : Witnesses} (k : ℕ) {t : Term} {f : Value → Value → Outcome} {a b : Ty} → ((x c : Value) → Of x a → Of c b → Agrees M ws t (pair x c) (f x c) b) → (v c : Value) → Of v (fewer a k) → Of c b → Agrees M ws (fold_list k t) (pair v c) (folding f (listed k v) c) b
unfolding fold_list
agree_list_fold {M} {ws} k {f = f} {a = a} {b = b} h v c i j =
    folded M ws f b (lists_doubled M ws f b a k 0 k (omega arith) (arrays_one M ws f b a h) (lists_one M ws f b a h) v i) c j

-- an array's fold means what the source says, where its function does
pub agree_array_fold : {M : Type 0} {ws : Witnesses} (n : ℕ) → 0 < n → {t : Term} {f : Value → Value → Outcome} {a b : Ty} → ((x c : Value) → Of x a → Of c b → Agrees M ws t (pair x c) (f x c) b) → (v c : Value) → Of v (array_type a n) → Of c b → Agrees M ws (fold_array n t) (pair v c) (folding f (elements n zero n v) c) b
unfolding fold_array
agree_array_fold {M} {ws} n o {t = t} {f = f} {a = a} {b = b} h v c i j =
    let p : ℕ = top_of n in
    folded M ws f b (arrays_tree M ws f b a (powers p t) p (λ k l. arrays_powers M ws f b a p k 0 k (omega arith) l (arrays_one M ws f b a h)) n n o (omega arith) (omega (arith, (top_of_lem n o).less, two-pow-succ p)) v i) c j
