-- A type's record by its mark: its fields, its sides, and what it is the same as.
-- Assumes nothing.
use Prim.Native.Nat.{ℕ, zero, suc, ◌<◌}
use mathlib.Core.Bool.{Bool, true, false}
use mathlib.Core.List.{List, [], ◌∷◌}
use mathlib.Core.Option.{some, none}
use mathlib.Core.Path.{◌≡◌, refl, sym, ap, ◌∙◌}
use native.Mathlib.Omega.{arith}
use lib.Dec.{T, eqb, lt→ltb}
use Rattle.laws.specs.Table.{pick, both, among, ◌also◌, every}
use Rattle.array.specs.Path.{Side, on_left, on_right}
use Rattle.simplicity.specs.Types.{Ty, one, sum, product, same}
use Rattle.simplicity.proofs.Safe.{same_is}
use Rattle.book.specs.Format.{TYPE, TU, TS, TP}
use Rattle.book.specs.Index.{mark, field, Lies}
use Rattle.book.specs.Stands.{Stands}
use Rattle.book.specs.Tree.{type_of, as_type}
use Rattle.book.proofs.Standing.{stands_mark, stands_tree, head_lies, head_stands}
use Rattle.shapes.specs.Shapes.{sums, products, side_of}
use Rattle.shapes.specs.Views.{Gives, nowhere, record_of, is_sort, sort_of, side_is}
use Rattle.std.specs.Prelude.{Some, None}

-- the mark of a type's record
abbrev mark_by : Ty → ℕ
mark_by one = TU
mark_by (sum a b) = TS
mark_by (product a b) = TP

-- what is no sum has no side as a sum, and no product none as a product
no_sum : (k : Side) (t : Ty) → (mark_by t ≡ TS → ⊥) → side_of sums k t ≡ none
unfolding side_of
no_sum on_left one h = refl
no_sum on_right one h = refl
no_sum k (sum a b) h = absurd (h refl)
no_sum on_left (product a b) h = refl
no_sum on_right (product a b) h = refl

no_product : (k : Side) (t : Ty) → (mark_by t ≡ TP → ⊥) → side_of products k t ≡ none
unfolding side_of
no_product on_left one h = refl
no_product on_right one h = refl
no_product on_left (sum a b) h = refl
no_product on_right (sum a b) h = refl
no_product k (product a b) h = absurd (h refl)

-- types of different marks are not the same
unlike : (t u : Ty) → (mark_by t ≡ mark_by u → ⊥) → same t u ≡ false
unlike t u h = go (same t u) refl
  where
    go : (r : Bool) → same t u ≡ r → r ≡ false
    go true e = absurd (h (ap mark_by (same_is t u e)))
    go false e = refl

-- unit is what has its mark
unit_same : (t : Ty) → eqb (mark_by t) TU ≡ same t one
unfolding same
unit_same one = refl
unit_same (sum a b) = refl
unit_same (product a b) = refl

-- a test of two, after a look at the first: it fails, or it is the second
pub first_fails : {r u w : Bool} (v : Bool) → w ≡ u → r ≡ both u v → w ≡ false → r ≡ false
first_fails v l e h = rw (e, ← l, h)

pub first_holds : {r u w : Bool} (v : Bool) → w ≡ u → r ≡ both u v → w ≡ true → r ≡ v
first_holds v l e h = rw (e, ← l, h)

-- what holds of both sorts' marks holds of a sort's
by_sort : (P : ℕ → Type 0) → P TS → P TP → {m : ℕ} → T (is_sort m) → P m
by_sort P s p {m} t = every (TS ∷ TP ∷ []) P (s also p also tt) m t

module _ {b i : List ℕ} {t : ℕ} (s : Stands b i t TYPE) where
  -- a sum's tree, a product's
  sum_tree : mark b i t ≡ TS → type_of b i t ≡ sum (type_of b i (field b i t 0)) (type_of b i (field b i t 1))
  unfolding as_type
  sum_tree e = ap as_type (stands_tree s TS e)

  product_tree : mark b i t ≡ TP → type_of b i t ≡ product (type_of b i (field b i t 0)) (type_of b i (field b i t 1))
  unfolding as_type
  product_tree e = ap as_type (stands_tree s TP e)

  -- a record's mark is its tree's
  mark_by_lem : mark b i t ≡ mark_by (type_of b i t)
  unfolding as_type
  mark_by_lem = every (TU ∷ TS ∷ TP ∷ []) (λ m. mark b i t ≡ m → mark b i t ≡ mark_by (type_of b i t))
      ((λ e. e ∙ rw (stands_tree s TU e)) also (λ e. e ∙ rw (sum_tree e)) also (λ e. e ∙ rw (product_tree e)) also tt)
      (mark b i t) (stands_mark s (among (TU ∷ TS ∷ TP ∷ [])) tt tt) refl

  -- what a look at its mark showed
  module _ {x : ℕ} (e : x ≡ mark b i t) where
    -- whether it is unit; where it is of another mark; where it is a sum, a product
    pub same_unit : eqb x TU ≡ same (type_of b i t) one
    same_unit = rw (e ∙ mark_by_lem) (unit_same (type_of b i t))

    pub same_not : {m : ℕ} (u : Ty) → mark_by u ≡ m → (x ≡ m → ⊥) → same (type_of b i t) u ≡ false
    same_not u q h = unlike (type_of b i t) u (λ z. h (e ∙ mark_by_lem ∙ z ∙ q))

    module _ {y z : ℕ} (l : y ≡ field b i t 0) (r : z ≡ field b i t 1) (c d : Ty) where
      pub same_sum : x ≡ TS → same (type_of b i t) (sum c d) ≡ both (same (type_of b i y) c) (same (type_of b i z) d)
      unfolding same
      same_sum q = rw (sum_tree (sym e ∙ q), l, r)

      pub same_product : x ≡ TP → same (type_of b i t) (product c d) ≡ both (same (type_of b i y) c) (same (type_of b i z) d)
      unfolding same
      same_product q = rw (product_tree (sym e ∙ q), l, r)

    -- its two fields, where it is a sum or a product, lie in the book and name types, which are its sides
    module _ {m : ℕ} (z : T (is_sort m)) (q : x ≡ m) where
      at_sort : (P : ℕ → Type 0) → (mark b i t ≡ TS → P TS) → (mark b i t ≡ TP → P TP) → P m
      at_sort P f g = by_sort (λ n. mark b i t ≡ n → P n) f g z (sym e ∙ q)

      pub side_lies : (k : ℕ) → k < 2 → Lies b i t k
      side_lies k h = at_sort (λ n. Lies b i t k) (λ o. head_lies s TS o k (lt→ltb k 2 h)) (λ o. head_lies s TP o k (lt→ltb k 2 h))

      pub side_stands : (k : ℕ) → k < 2 → Stands b i (field b i t k) TYPE
      side_stands zero h = at_sort (λ n. Stands b i (field b i t 0) TYPE) (λ o. head_stands s TS o 0 tt tt) (λ o. head_stands s TP o 0 tt tt)
      side_stands (suc zero) h = at_sort (λ n. Stands b i (field b i t 1) TYPE) (λ o. head_stands s TS o 1 tt tt) (λ o. head_stands s TP o 1 tt tt)
      side_stands (suc (suc k)) h = absurd (omega arith)

      pub side_is_lem : (k : ℕ) → k < 2 → side_is m k (type_of b i t) ≡ some (type_of b i (field b i t k))
      unfolding side_of
      side_is_lem zero h = at_sort (λ n. side_is n 0 (type_of b i t) ≡ some (type_of b i (field b i t 0))) (λ o. rw (sum_tree o)) (λ o. rw (product_tree o))
      side_is_lem (suc zero) h = at_sort (λ n. side_is n 1 (type_of b i t) ≡ some (type_of b i (field b i t 1))) (λ o. rw (sum_tree o)) (λ o. rw (product_tree o))
      side_is_lem (suc (suc k)) h = absurd (omega arith)

      pub side_at : {k y : ℕ} → k < 2 → y ≡ field b i t k → Stands b i y TYPE
      side_at {k} h w = rw w (side_stands k h)

      pub side_gives : {k y : ℕ} → k < 2 → y ≡ field b i t k → Gives b i (side_is m k (type_of b i t)) (Some y)
      side_gives {k} h w = rw w (record_of (side_stands k h) (side_is_lem k h))

    -- what is of another mark has no side
    module _ {m : ℕ} (z : T (is_sort m)) (h : x ≡ m → ⊥) where
      pub side_not : (k : Side) → side_of (sort_of m) k (type_of b i t) ≡ none
      side_not k = by_sort (λ n. (x ≡ n → ⊥) → side_of (sort_of n) k (type_of b i t) ≡ none)
          (λ f. no_sum k (type_of b i t) (λ o. f (e ∙ mark_by_lem ∙ o)))
          (λ f. no_product k (type_of b i t) (λ o. f (e ∙ mark_by_lem ∙ o)))
          z h

      pub side_nowhere : (k : ℕ) → Gives b i (side_is m k (type_of b i t)) None
      side_nowhere k = nowhere (side_not (pick (eqb k 0) on_left on_right))
