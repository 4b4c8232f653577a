-- Laws of names in rows: how often one stands there, whether some stands twice, and the names of a record's elements from the left.
-- Assumes nothing.
use Prim.Native.Nat.{ℕ, zero, suc, ◌+◌, ◌*◌, ◌-◌, ◌≤◌, ◌<◌}
use mathlib.Core.Bool.{Bool, true, false}
use mathlib.Core.List.{List, [], ◌∷◌, ◌++◌}
use mathlib.Core.Path.{◌≡◌, refl, sym, ap, ◌∙◌}
use native.Mathlib.Omega.{arith}
use borrow.Author.Tests.{eq-eqb, eqb-true, lt-ltb, le-ltb}
use lib.Dec.{eqb, ltb}
use Rattle.laws.specs.Table.{pick, among}
use Rattle.book.specs.Format.{PATTERN, FUNCTION, PI, PN, PT, FN}
use Rattle.book.specs.Index.{mark, field}
use Rattle.book.specs.Stands.{Stands}
use Rattle.book.specs.Tree.{Pat, no_pats, more_pats, Tree, as_pattern, as_fun, group, pattern_of, fun_of, tree, params_at}
use Rattle.book.proofs.Built.{group_next, group_none}
use Rattle.book.proofs.Standing.{stands_tree, function_mark}
use Rattle.pattern.specs.Find.{params_of}
use Rattle.pattern.proofs.Records.{ignores}
use Rattle.binders.specs.Binders.{names, names_row, param_names, twice}
use Rattle.binders.specs.Memos.{times}

-- a name stands in two rows as often as in both together
pub times_both : (x : ℕ) (xs ys : List ℕ) → times x (xs ++ ys) ≡ times x xs + times x ys
unfolding times
times_both x [] ys = omega arith
times_both x (y ∷ xs) ys = omega (arith, times_both x xs ys)

-- once in a row of itself alone
pub times_one : (x : ℕ) → times x (x ∷ []) ≡ 1
unfolding times
times_one x = rw (eq-eqb x x refl)

-- it is among the names of a row if it stands there at all
among_times : (x : ℕ) (xs : List ℕ) → among xs x ≡ ltb 0 (times x xs)
unfolding times
among_times x [] = refl
among_times x (y ∷ ys) = go (among_times x ys) (eqb x y)
  where
    go : among ys x ≡ ltb 0 (times x ys) → (t : Bool) → pick t true (among ys x) ≡ ltb 0 (pick t 1 0 + times x ys)
    go e true = sym (lt-ltb 0 (1 + times x ys) (omega arith))
    go e false = let z : 0 + times x ys ≡ times x ys = omega arith in rw z e

-- a row in which some name stands twice
pub twice_yes : (x : ℕ) (xs : List ℕ) → 2 ≤ times x xs → twice xs ≡ true
unfolding times twice
twice_yes x [] h = absurd (omega arith)
twice_yes x (y ∷ ys) h = go (twice_yes x ys) (eqb x y) refl h
  where
    later : (t : Bool) → pick t true true ≡ true
    later true = refl
    later false = refl

    go : (2 ≤ times x ys → twice ys ≡ true) → (t : Bool) → eqb x y ≡ t → 2 ≤ pick t 1 0 + times x ys → pick (among ys y) true (twice ys) ≡ true
    go f true e h =
        let z : x ≡ y = eqb-true x y e in
        let o : 0 < times x ys = omega arith in
        rw (← z, among_times x ys, lt-ltb 0 (times x ys) o)
    go f false e h = rw (f (omega arith)) (later (among ys y))

-- and one in which none does
pub twice_no : (xs : List ℕ) → ((x : ℕ) → times x xs ≤ 1) → twice xs ≡ false
unfolding times twice
twice_no [] h = refl
twice_no (y ∷ ys) h =
    let z : pick (eqb y y) 1 0 + times y ys ≤ 1 = h y in
    let o : 1 + times y ys ≤ 1 = rw (eq-eqb y y refl) at z in
    rw (among_times y ys, le-ltb 0 (times y ys) (omega arith)) (twice_no ys (λ x. omega (arith, h x)))

-- the names f of the elements from k on, in a row of n groups of s fields from field h on
unfoldable pub after : ℕ → (ℕ → List ℕ) → ℕ → ℕ → ℕ → List ℕ
after s f h n k = group s [] (λ j. ◌++◌ (f j)) (h + k * s) (n - k)

module _ (s : ℕ) (f : ℕ → List ℕ) (h n : ℕ) where
  -- those of the whole row, of one element and those after it, of no more element
  after_all : group s [] (λ j. ◌++◌ (f j)) h n ≡ after s f h n 0
  unfolding after
  after_all =
      let z : h + 0 * s ≡ h = omega arith in
      let y : n - 0 ≡ n = omega arith in
      rw (z, y)

  pub after_next : (k j : ℕ) → k < n → j ≡ h + k * s → after s f h n k ≡ f j ++ after s f h n (suc k)
  unfolding after
  after_next k j o e =
      let z : h + suc k * s ≡ j + s = omega arith in
      rw (← e, z, group_next s [] (λ i. ◌++◌ (f i)) j (n - k) (j + s) (n - suc k) (omega arith) refl)

  pub after_none : (k : ℕ) → n ≤ k → after s f h n k ≡ []
  unfolding after
  after_none k o = group_none s [] (λ i. ◌++◌ (f i)) (h + k * s) (n - k) (omega arith)

-- the names of a row of patterns, and of parameters, element by element
row_each : (s : ℕ) (a : ℕ → Pat) (h m : ℕ) → names_row (group s no_pats (λ j. more_pats (a j)) h m) ≡ group s [] (λ j. ◌++◌ (names (a j))) h m
unfolding names_row group
row_each s a h zero = refl
row_each s a h (suc m) = ap (◌++◌ (names (a h))) (row_each s a (h + s) m)

params_each : (x : ℕ → ℕ) (a : ℕ → Tree) (h m : ℕ) → param_names (params_at x a h m) ≡ group 2 [] (λ j. ◌++◌ (x j ∷ [])) h m
unfolding param_names group
params_each x a h zero = refl
params_each x a h (suc m) = ap (◌∷◌ (x h)) (params_each x a (h + 2) m)

-- the names of a pattern by its record's mark
module _ {b i : List ℕ} {p : ℕ} (s : Stands b i p PATTERN) where
  pub names_row_lem : (n : ℕ) → mark b i p ≡ PT → n ≡ field b i p 0 → names (pattern_of b i p) ≡ after 1 (λ j. names (pattern_of b i (field b i p j))) 1 n 0
  unfolding as_pattern names
  names_row_lem n e z =
      ap (λ t. names (as_pattern t)) (stands_tree s PT e)
      ∙ row_each 1 (λ j. pattern_of b i (field b i p j)) 1 (field b i p 0)
      ∙ rw z (after_all 1 (λ j. names (pattern_of b i (field b i p j))) 1 (field b i p 0))

  pub names_one : (x : ℕ) → mark b i p ≡ PI → x ≡ field b i p 0 → names (pattern_of b i p) ≡ x ∷ []
  unfolding as_pattern names
  names_one x e z = ap (λ t. names (as_pattern t)) (stands_tree s PI e) ∙ rw z

  pub names_none : (mark b i p ≡ PT → ⊥) → (mark b i p ≡ PI → ⊥) → names (pattern_of b i p) ≡ []
  unfolding as_pattern names
  names_none row one = ap (λ u. names (as_pattern u)) (stands_tree s PN (ignores s row one))

-- the names of a function's parameters
pub names_params : {b i : List ℕ} {f : ℕ} → Stands b i f FUNCTION → (n : ℕ) → n ≡ field b i f 1 → param_names (params_of (fun_of b i f)) ≡ after 2 (λ j. field b i f j ∷ []) 2 n 0
unfolding as_fun params_of
names_params {b} {i} {f} s n z =
    ap (λ t. param_names (params_of (as_fun t))) (stands_tree s FN (function_mark s))
    ∙ params_each (field b i f) (λ k. tree b i (field b i f k)) 2 (field b i f 1)
    ∙ rw z (after_all 2 (λ j. field b i f j ∷ []) 2 (field b i f 1))
