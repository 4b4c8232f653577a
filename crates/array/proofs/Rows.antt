-- Laws of rows as balanced trees: how a row folds, induction over rows, and rows of related elements.
-- Assumes nothing.
use mathlib.Core.List.{List, [], ◌∷◌, map}
use mathlib.Core.Path.{◌≡◌, refl, ap, ap₂, ◌∙◌}
use Prim.Native.Nat.{ℕ, ◌-◌, ◌≤◌}
use native.Mathlib.Omega.{arith}
use lib.ListN.{length, get_or, take, drop, length-take, length-drop}
use Rattle.laws.specs.Rows.{Each, each_length, each_take, each_drop, each_map}
use Rattle.array.specs.Split.{split_of}
use Rattle.array.specs.Row.{joined, row}
use Rattle.array.proofs.Splits.{split_less}
use Rattle.array.proofs.Partings.{parts_none, parts_one, parts_more, parts_all}

-- the left and the right part of a row
abbrev pub lefts : {A : Type 0} → List A → List A
lefts xs = take (split_of (length xs)) xs

abbrev pub rights : {A : Type 0} → List A → List A
rights xs = drop (split_of (length xs)) xs

pub lefts_length : {A : Type 0} (xs : List A) → 2 ≤ length xs → length (lefts xs) ≡ split_of (length xs)
lefts_length xs h = simp length-take (omega (arith, split_less (length xs) h))

pub rights_length : {A : Type 0} (xs : List A) → length (rights xs) ≡ length xs - split_of (length xs)
rights_length xs = length-drop (split_of (length xs)) xs

module _ {A : Type 0} (e : A) (f : A → A → A) where
  pub row_none : row e f [] ≡ e
  unfolding row
  row_none = ap (λ (g : List A → A). g []) (parts_none (λ ys. e) (λ ys. get_or ys 0 e) (joined f))

  pub row_one : (x : A) → row e f (x ∷ []) ≡ x
  unfolding row
  row_one x = ap (λ (g : List A → A). g (x ∷ [])) (parts_one (λ ys. e) (λ ys. get_or ys 0 e) (joined f))

  pub row_step : (xs : List A) → 2 ≤ length xs → row e f xs ≡ f (row e f (lefts xs)) (row e f (rights xs))
  unfolding row
  row_step xs h =
      rw (lefts_length xs h, rights_length xs)
      (ap (λ (g : List A → A). g xs) (parts_more (λ ys. e) (λ ys. get_or ys 0 e) (joined f) (length xs) h))

module _ {A : Type 0} (P : List A → Type 0) (none : P []) (one : (x : A) → P (x ∷ [])) (more : (xs : List A) → 2 ≤ length xs → P (lefts xs) → P (rights xs) → P xs) where
  at_none : (xs : List A) → length xs ≡ 0 → P xs
  at_none [] q = none
  at_none (x ∷ xs) q = absurd (omega arith)

  at_one : (xs : List A) → length xs ≡ 1 → P xs
  at_one [] q = none
  at_one (x ∷ []) q = one x
  at_one (x ∷ y ∷ ys) q = absurd (omega arith)

  at_more : (n : ℕ) → 2 ≤ n → ((xs : List A) → length xs ≡ split_of n → P xs) → ((xs : List A) → length xs ≡ n - split_of n → P xs) → (xs : List A) → length xs ≡ n → P xs
  at_more n h l r xs q =
      let two : 2 ≤ length xs = omega arith in
      more xs two (l (lefts xs) (lefts_length xs two ∙ ap split_of q)) (r (rights xs) (rights_length xs ∙ ap (λ (m : ℕ). m - split_of m) q))

  -- what holds of an empty row and of one element, and of a row where it holds of its two parts, holds of every row
  pub rows_all : (xs : List A) → P xs
  rows_all xs = parts_all (λ n. (ys : List A) → length ys ≡ n → P ys) at_none at_one at_more (length xs) xs refl

module _ {A B : Type 0} (R : A → B → Type 0) (e : A) (f : A → A → A) (e' : B) (f' : B → B → B) (none : R e e') (join : (a b : A) (a' b' : B) → R a a' → R b b' → R (f a b) (f' a' b')) where
  related_none : (ys : List B) → Each R [] ys → R (row e f []) (row e' f' ys)
  related_none [] h = rw (row_none e f, row_none e' f') none
  related_none (y ∷ ys) h = absurd h

  related_one : (x : A) (ys : List B) → Each R (x ∷ []) ys → R (row e f (x ∷ [])) (row e' f' ys)
  related_one x [] h = absurd h
  related_one x (y ∷ []) h = rw (row_one e f x, row_one e' f' y) h.0
  related_one x (y ∷ z ∷ zs) h = absurd h.1

  -- rows of related elements are related, where f and f' keep the relation
  pub row_related : (xs : List A) (ys : List B) → Each R xs ys → R (row e f xs) (row e' f' ys)
  row_related = rows_all (λ xs. (ys : List B) → Each R xs ys → R (row e f xs) (row e' f' ys)) related_none related_one (λ xs two l r ys h.
      let q : length xs ≡ length ys = each_length R xs ys h in
      let n : ℕ = split_of (length ys) in
      rw (row_step e f xs two, row_step e' f' ys (omega arith))
      (join _ _ _ _ (l (lefts ys) (rw q (each_take R n xs ys h))) (r (rights ys) (rw q (each_drop R n xs ys h)))))

-- what takes f to g takes a row to the row of its images
pub row_map : {A B : Type 0} (h : A → B) (e : A) (f : A → A → A) (g : B → B → B) → ((a b : A) → h (f a b) ≡ g (h a) (h b)) → (xs : List A) → h (row e f xs) ≡ row (h e) g (map h xs)
row_map h e f g p xs =
    row_related (λ a b. h a ≡ b) e f (h e) g refl (λ a b c d u v. p a b ∙ ap₂ g u v) xs (map h xs) (each_map h xs)
