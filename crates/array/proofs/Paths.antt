-- Laws of paths: how a path turns, where it leads in a row, and that each variant has its own.
-- Assumes nothing.
use mathlib.Core.List.{List, [], ◌∷◌, ◌++◌}
use mathlib.Core.Path.{◌≡◌, refl, ap, ◌∙◌}
use Prim.Native.Nat.{ℕ, ◌+◌, ◌-◌, ◌≤◌, ◌<◌}
use native.Mathlib.Omega.{arith}
use borrow.Author.Tests.{lt-ltb, le-ltb}
use lib.ListN.{length, get_or}
use lib.Seq.{get_or-take, get_or-drop}
use Rattle.laws.specs.Order.{by_lt}
use Rattle.array.specs.Split.{split_of}
use Rattle.array.specs.Row.{row}
use Rattle.array.specs.Path.{Side, on_left, on_right, turn, path}
use Rattle.array.proofs.Partings.{parts_one, parts_more, parts_all}
use Rattle.array.proofs.Rows.{lefts, rights, lefts_length, rights_length, row_one, row_step, rows_all}

pub path_one : (k : ℕ) → path 1 k ≡ []
unfolding path
path_one k = ap (λ (g : ℕ → List Side). g k) (parts_one (λ j. []) (λ j. []) turn)

module _ (n k : ℕ) (two : 2 ≤ n) where
  path_more : path n k ≡ turn n (path (split_of n)) (path (n - split_of n)) k
  unfolding path
  path_more = ap (λ (g : ℕ → List Side). g k) (parts_more (λ j. []) (λ j. []) turn n two)

  pub path_left : k < split_of n → path n k ≡ on_left ∷ path (split_of n) k
  path_left h = path_more ∙ rw (lt-ltb k (split_of n) h, turn)

  pub path_right : split_of n ≤ k → path n k ≡ on_right ∷ path (n - split_of n) (k - split_of n)
  path_right h = path_more ∙ rw (le-ltb k (split_of n) h, turn)

module _ {A : Type 0} (e : A) (f : A → A → A) (R : A → List Side → A → Type 0) (here : (x : A) → R x [] x) (to-left : (a b x : A) (p : List Side) → R a p x → R (f a b) (on_left ∷ p) x) (to-right : (a b x : A) (p : List Side) → R b p x → R (f a b) (on_right ∷ p) x) where
  abbrev Leads : List A → Type 0
  Leads xs = (k : ℕ) → k < length xs → R (row e f xs) (path (length xs) k) (get_or xs k e)

  leads_one : (x : A) → Leads (x ∷ [])
  leads_one x k h = let z : k ≡ 0 = omega arith in rw (z, row_one e f x, path_one 0) (here x)

  leads_more : (xs : List A) → 2 ≤ length xs → Leads (lefts xs) → Leads (rights xs) → Leads xs
  leads_more xs two l r k h =
      let n : ℕ = split_of (length xs) in
      by_lt k n
      (λ o.
      let g : R (row e f (lefts xs)) (path n k) (get_or xs k e) = rw (lefts_length xs two, get_or-take n xs k e o) at (l k (omega (arith, lefts_length xs two))) in
      rw (row_step e f xs two, path_left (length xs) k two o) (to-left _ _ _ _ g))
      (λ o.
      let q : n + (k - n) ≡ k = omega arith in
      let g : R (row e f (rights xs)) (path (length xs - n) (k - n)) (get_or xs k e) = rw (rights_length xs, get_or-drop n xs (k - n) e, q) at (r (k - n) (omega (arith, rights_length xs))) in
      rw (row_step e f xs two, path_right (length xs) k two o) (to-right _ _ _ _ g))

  -- the path of k leads from the row, as f joins it, to element k: of any relation that goes along the turns
  pub path_leads : (xs : List A) (k : ℕ) → k < length xs → R (row e f xs) (path (length xs) k) (get_or xs k e)
  path_leads = rows_all Leads (λ k h. absurd (omega arith)) leads_one leads_more

-- what stands at the end of a path, where l and r take a pair apart
unfoldable pub follow : {A : Type 0} → (A → A) → (A → A) → List Side → A → A
follow l r [] a = a
follow l r (on_left ∷ p) a = follow l r p (l a)
follow l r (on_right ∷ p) a = follow l r p (r a)

-- a row of pairs, read at the path of k, is element k
pub path_reads : {A : Type 0} (e : A) (f : A → A → A) (l r : A → A) → ((a b : A) → l (f a b) ≡ a) → ((a b : A) → r (f a b) ≡ b) → (xs : List A) (k : ℕ) → k < length xs → follow l r (path (length xs) k) (row e f xs) ≡ get_or xs k e
unfolding follow
path_reads e f l r u v =
    path_leads e f (λ a p x. follow l r p a ≡ x) (λ x. refl)
    (λ a b x p h. ap (follow l r p) (u a b) ∙ h)
    (λ a b x p h. ap (follow l r p) (v a b) ∙ h)

abbrev Own : ℕ → Type 0
Own n = (j k : ℕ) → j < n → k < n → (p q : List Side) → path n j ++ p ≡ path n k ++ q → j ≡ k

own_more : (n : ℕ) → 2 ≤ n → Own (split_of n) → Own (n - split_of n) → Own n
own_more n two l r j k a b p q h =
    let s : ℕ = split_of n in
    by_lt j s
    (λ u. by_lt k s
    (λ v. l j k u v p q (cc (rw (path_left n j two u, path_left n k two v) at h)))
    (λ v. let z : ◌≡◌ {A = ℕ} 0 1 = cc (rw (path_left n j two u, path_right n k two v) at h) in omega arith))
    (λ u. by_lt k s
    (λ v. let z : ◌≡◌ {A = ℕ} 0 1 = cc (rw (path_right n j two u, path_left n k two v) at h) in omega arith)
    (λ v.
    let i : j - s ≡ k - s = r (j - s) (k - s) (omega arith) (omega arith) p q (cc (rw (path_right n j two u, path_right n k two v) at h)) in
    omega arith))

-- paths that go on to the same end are of the same variant: none is another's, nor where another begins
pub path_own : (n j k : ℕ) → j < n → k < n → (p q : List Side) → path n j ++ p ≡ path n k ++ q → j ≡ k
path_own = parts_all Own (λ j k a b p q h. omega arith) (λ j k a b p q h. omega arith) own_more
