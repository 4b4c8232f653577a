-- Two rows side by side: their elements are related, place by place.
-- Assumes nothing.
use Rattle.std.specs.Prelude.{List, [], ◌∷◌, map, ◌≡◌, refl, ℕ, zero, suc, length, take, drop}
use Rattle.std.proofs.Common.{ap}

-- as many elements in both, and R holds of each two at the same place
abbrev pub Each : {A B : Type 0} → (A → B → Type 0) → List A → List B → Type 0
Each R [] [] = Unit {0}
Each R [] (y ∷ ys) = ⊥
Each R (x ∷ xs) [] = ⊥
Each R (x ∷ xs) (y ∷ ys) = (R x y) × (Each R xs ys)

module _ {A B : Type 0} (R : A → B → Type 0) where
  pub each_length : (xs : List A) (ys : List B) → Each R xs ys → length xs ≡ length ys
  each_length [] [] h = refl
  each_length [] (y ∷ ys) h = absurd h
  each_length (x ∷ xs) [] h = absurd h
  each_length (x ∷ xs) (y ∷ ys) h = ap suc (each_length xs ys h.1)

  pub each_take : (n : ℕ) (xs : List A) (ys : List B) → Each R xs ys → Each R (take n xs) (take n ys)
  each_take zero xs ys h = tt
  each_take (suc n) [] [] h = tt
  each_take (suc n) [] (y ∷ ys) h = absurd h
  each_take (suc n) (x ∷ xs) [] h = absurd h
  each_take (suc n) (x ∷ xs) (y ∷ ys) h = (h.0, each_take n xs ys h.1)

  pub each_drop : (n : ℕ) (xs : List A) (ys : List B) → Each R xs ys → Each R (drop n xs) (drop n ys)
  each_drop zero xs ys h = h
  each_drop (suc n) [] [] h = tt
  each_drop (suc n) [] (y ∷ ys) h = absurd h
  each_drop (suc n) (x ∷ xs) [] h = absurd h
  each_drop (suc n) (x ∷ xs) (y ∷ ys) h = each_drop n xs ys h.1

-- a row beside its image
pub each_map : {A B : Type 0} (h : A → B) (xs : List A) → Each (λ x y. h x ≡ y) xs (map h xs)
each_map h [] = tt
each_map h (x ∷ xs) = (refl, each_map h xs)

-- images, of a row and of its parts
pub map_length : {A B : Type 0} (h : A → B) (xs : List A) → length (map h xs) ≡ length xs
map_length h [] = refl
map_length h (x ∷ xs) = ap suc (map_length h xs)

pub map_take : {A B : Type 0} (h : A → B) (n : ℕ) (xs : List A) → take n (map h xs) ≡ map h (take n xs)
map_take h zero xs = refl
map_take h (suc n) [] = refl
map_take h (suc n) (x ∷ xs) = ap (◌∷◌ (h x)) (map_take h n xs)

pub map_drop : {A B : Type 0} (h : A → B) (n : ℕ) (xs : List A) → drop n (map h xs) ≡ map h (drop n xs)
map_drop h zero xs = refl
map_drop h (suc n) [] = refl
map_drop h (suc n) (x ∷ xs) = map_drop h n xs
