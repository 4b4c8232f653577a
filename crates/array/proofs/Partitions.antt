-- Laws of a list in its blocks: what each bound gives, and that the blocks one after another are the list.
-- Assumes nothing.
use mathlib.Core.List.{List, [], ◌∷◌, ◌++◌}
use mathlib.Core.Path.{◌≡◌, refl, ap, ◌∙◌}
use Prim.Native.Nat.{ℕ, zero, suc, ◌≤◌, ◌<◌, ◌^◌}
use borrow.Author.Tests.{le-leb, lt-leb}
use lib.ListN.{length, take, drop, take-append-drop}
use Rattle.laws.specs.Order.{by_lt}
use Rattle.array.specs.Partition.{partition}

module _ {A B : Type 0} (empty : B) (filled : List A → B) (join : B → B → B) where
  pub partition_none : partition empty filled join 0 [] ≡ empty
  unfolding partition
  partition_none = refl

  pub partition_one : (x : A) → partition empty filled join 0 (x ∷ []) ≡ filled (x ∷ [])
  unfolding partition
  partition_one x = refl

  pub partition_filled : (k : ℕ) (xs : List A) → 2 ^ suc k ≤ length xs → partition empty filled join (suc k) xs ≡ join (filled (take (2 ^ suc k) xs)) (partition empty filled join k (drop (2 ^ suc k) xs))
  unfolding partition
  partition_filled k xs h = rw (le-leb (2 ^ suc k) (length xs) h, partition)

  pub partition_empty : (k : ℕ) (xs : List A) → length xs < 2 ^ suc k → partition empty filled join (suc k) xs ≡ join empty (partition empty filled join k xs)
  unfolding partition
  partition_empty k xs h = rw (lt-leb (2 ^ suc k) (length xs) h, partition)

-- the blocks one after another are the list: each element is there once, in its order
pub partition_flat : {A : Type 0} (k : ℕ) (xs : List A) → partition [] (λ ys. ys) ◌++◌ k xs ≡ xs
unfolding partition
partition_flat zero [] = refl
partition_flat zero (x ∷ xs) = refl
partition_flat (suc k) xs = by_lt (length xs) (2 ^ suc k)
    (λ o. partition_empty [] (λ ys. ys) ◌++◌ k xs o ∙ partition_flat k xs)
    (λ o. partition_filled [] (λ ys. ys) ◌++◌ k xs o ∙ ap (◌++◌ (take (2 ^ suc k) xs)) (partition_flat k (drop (2 ^ suc k) xs)) ∙ take-append-drop (2 ^ suc k) xs)
