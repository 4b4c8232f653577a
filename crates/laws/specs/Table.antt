-- Tables: a choice by key, and a test that is computed at each place of a range.
-- Assumes nothing.
use Rattle.std.specs.Prelude.{ℕ, zero, suc, ◌+◌, ◌-◌, ◌<◌, ◌≤◌, Bool, true, false, List, [], ◌∷◌, ◌≡◌, refl, ◌⊎◌, T, eqb}
use Rattle.std.proofs.Common.{subst, sym, ap, ◌∙◌, ⊎_elim, not-suc-le-zero, eq-or-lt_of_le, le_of_suc-le-suc, ne_eqb, eqb-true, arith, eqb→eq}

-- the first of two where the test holds, else the second
abbrev pub pick : {A : Type 0} → Bool → A → A → A
pick true a b = a
pick false a b = b

-- both tests hold
abbrev pub both : Bool → Bool → Bool
both true b = b
both false b = false

-- a test does not both hold and fail
pub true_false : true ≡ false → ⊥
true_false e = absurd (let z : ◌≡◌ {A = ℕ} 0 1 = ap (λ (t : Bool). pick t 0 1) e in omega arith)

-- a key and what it chooses
pub record Case (A : Type 0) : Type 0 where
  pub key : ℕ
  pub gives : A

abbrev pub at : {A : Type 0} → ℕ → A → Case A
at k a = record { key = k; gives = a }

-- what stands beside the key m, or d where no key is m
abbrev pub choose : {A : Type 0} → List (Case A) → ℕ → A → A
choose [] m d = d
choose (e ∷ es) m d = pick (eqb m e.key) e.gives (choose es m d)

-- the keys of a choice
abbrev pub keys : {A : Type 0} → List (Case A) → List ℕ
keys [] = []
keys (e ∷ es) = e.key ∷ keys es

-- whether m is one of the numbers
abbrev pub among : List ℕ → ℕ → Bool
among [] m = false
among (k ∷ ks) m = pick (eqb m k) true (among ks m)

-- P holds of each of the numbers
abbrev pub Every : (ℕ → Type 0) → List ℕ → Type 0
Every P [] = Unit {0}
Every P (k ∷ ks) = P k × Every P ks

-- a proof for the first, and those for the others
infixr 20 ◌also◌
abbrev pub ◌also◌ : {A B : Type 0} → A → B → A × B
a also b = (a, b)

-- so it holds of a number that is one of them
pub every : (ks : List ℕ) (P : ℕ → Type 0) → Every P ks → (m : ℕ) → T (among ks m) → P m
every [] P h m t = absurd t
every (k ∷ ks) P h m t = go (every ks P h.1 m) (eqb m k) refl t
  where
    go : (T (among ks m) → P m) → (b : Bool) → eqb m k ≡ b → T (pick b true (among ks m)) → P m
    go f true e u = subst P (sym (eqb-true m k e)) h.0
    go f false e u = f u

-- what the `_` of a match over these keys knows: a fact for each key, the last outermost, K innermost
abbrev pub Rest : List ℕ → ℕ → Type 0 → Type 0
Rest [] m K = K
Rest (k ∷ ks) m K = Rest ks m (K × (m ≡ k → ⊥))

miss : {A : Type 0} (a c d : A) (t : Bool) → t ≡ false → c ≡ d → pick t a c ≡ d
miss a c d t e z = rw e z

-- so m is none of them
pub free : (ks : List ℕ) (m : ℕ) (K : Type 0) → Rest ks m K → K × (among ks m ≡ false)
free [] m K h = (h, refl)
free (k ∷ ks) m K h =
    let r = free ks m (K × (m ≡ k → ⊥)) h in
    (r.0.0, miss true (among ks m) false (eqb m k) (ne_eqb m k r.0.1) r.1)

-- and a choice by these keys chooses nothing
pub rest : {A : Type 0} (es : List (Case A)) (m : ℕ) (d : A) (K : Type 0) → Rest (keys es) m K → K × (choose es m d ≡ d)
rest [] m d K h = (h, refl)
rest (e ∷ es) m d K h =
    let r = rest es m d (K × (m ≡ e.key → ⊥)) h in
    (r.0.0, miss e.gives (choose es m d) d (eqb m e.key) (ne_eqb m e.key r.0.1) r.1)

-- f is v at each of the n numbers from lo on but for the keys
abbrev pub Arm : {A : Type 0} → List ℕ → (ℕ → A) → A → ℕ → ℕ → Type 0
Arm ks f v lo zero = Unit {0}
Arm ks f v lo (suc n) = (among ks (lo + n) ≡ true ⊎ v ≡ f (lo + n)) × Arm ks f v lo n

last_or : (lo n m : ℕ) → m < lo + suc n → (m ≡ lo + n) ⊎ (m < lo + n)
last_or lo n m h = eq-or-lt_of_le (omega arith)

-- so an arm of a match for those numbers answers f
pub arm : {A : Type 0} (ks : List ℕ) (f : ℕ → A) (v : A) (lo n : ℕ) → Arm ks f v lo n → (m : ℕ) → among ks m ≡ false → lo ≤ m → m < lo + n → v ≡ f m
arm ks f v lo zero t m e a b = absurd (omega arith)
arm ks f v lo (suc n) t m e a b =
    ⊎_elim (λ (q : m ≡ lo + n). rw q (⊎_elim (λ (w : among ks (lo + n) ≡ true). absurd (true_false (sym w ∙ rw q at e))) (λ w. w) t.0))
    (λ l. arm ks f v lo n t.1 m e a l)
    (last_or lo n m b)

-- the test f passes at each number below n
abbrev pub below : (ℕ → Bool) → ℕ → Bool
below f zero = true
below f (suc n) = both (f n) (below f n)

pub both_left : (a b : Bool) → T (both a b) → T a
both_left true b t = tt
both_left false b t = t

pub both_right : (a b : Bool) → T (both a b) → T b
both_right true b t = t
both_right false b t = absurd t

-- what antt computes of the whole range holds of each number in it
pub all_below : (f : ℕ → Bool) (n : ℕ) → T (below f n) → (k : ℕ) → k < n → T (f k)
all_below f zero t k h = absurd (not-suc-le-zero h)
all_below f (suc n) t k h =
    ⊎_elim (λ (e : k ≡ n). subst (λ (j : ℕ). T (f j)) (sym e) (both_left (f n) (below f n) t))
    (λ l. all_below f n (both_right (f n) (below f n) t) k l)
    (eq-or-lt_of_le (le_of_suc-le-suc h))

-- the same for the n numbers from lo on
pub all_from : (f : ℕ → Bool) (lo n : ℕ) → T (below (λ j. f (lo + j)) n) → (k : ℕ) → lo ≤ k → k < lo + n → T (f k)
all_from f lo n t k a b =
    let e : lo + (k - lo) ≡ k = omega arith in
    let h : T (f (lo + (k - lo))) = all_below (λ j. f (lo + j)) n t (k - lo) (omega arith) in
    rw e at h

-- f is v at each of the n numbers from lo on
pub run : (f : ℕ → ℕ) (v lo n : ℕ) → T (below (λ j. eqb v (f (lo + j))) n) → (k : ℕ) → lo ≤ k → k < lo + n → v ≡ f k
run f v lo n t k a b = eqb→eq v (f k) (all_from (λ j. eqb v (f j)) lo n t k a b)

-- the test f passes at some number below n
abbrev pub some : (ℕ → Bool) → ℕ → Bool
some f zero = false
some f (suc n) = pick (f n) true (some f n)
