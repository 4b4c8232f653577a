-- Laws of the shapes of cells: what a cell's kind says of it.
-- Assumes nothing.
use Rattle.std.proofs.Common.{◌≡◌, ℕ, Bool, true, false, eqb, List, refl, ne_eqb}
use Rattle.laws.specs.Table.{pick}
use Rattle.simplicity.specs.Values.{is_nothing, is_unit, is_left, is_right, is_pair, if_unit, if_sum, if_pair}
use Rattle.cells.specs.Entries.{kind_at, left_at, right_at}
use Rattle.cells.specs.Cells.{unit_cell, left_cell, right_cell, pair_cell, shape_at}

-- the shape of a cell by its kind
module _ (t : List ℕ) (x : ℕ) where
  pub unit_shape : kind_at t x ≡ unit_cell → shape_at t x ≡ is_unit
  unfolding shape_at
  unit_shape e = rw e

  pub left_shape : kind_at t x ≡ left_cell → shape_at t x ≡ is_left (left_at t x)
  unfolding shape_at
  left_shape e = rw e

  pub right_shape : kind_at t x ≡ right_cell → shape_at t x ≡ is_right (left_at t x)
  unfolding shape_at
  right_shape e = rw e

  pub pair_shape : kind_at t x ≡ pair_cell → shape_at t x ≡ is_pair (left_at t x) (right_at t x)
  unfolding shape_at
  pair_shape e = rw e

-- what is made of a cell of none of the kinds that are asked for
module _ {R : Type 0} (z : R) (l r : ℕ) where
  others_unit : (f : R) (b c d : Bool) → if_unit (pick b (is_left l) (pick c (is_right l) (pick d (is_pair l r) is_nothing))) f z ≡ z
  others_unit f true c d = refl
  others_unit f false true d = refl
  others_unit f false false true = refl
  others_unit f false false false = refl

  others_sum : (f g : ℕ → R) (a d : Bool) → if_sum (pick a is_unit (pick d (is_pair l r) is_nothing)) f g z ≡ z
  others_sum f g true d = refl
  others_sum f g false true = refl
  others_sum f g false false = refl

  others_pair : (f : ℕ → ℕ → R) (a b c : Bool) → if_pair (pick a is_unit (pick b (is_left l) (pick c (is_right l) is_nothing))) f z ≡ z
  others_pair f true b c = refl
  others_pair f false true c = refl
  others_pair f false false true = refl
  others_pair f false false false = refl

module _ {R : Type 0} (t : List ℕ) (x : ℕ) (z : R) where
  pub no_unit : (f : R) → (kind_at t x ≡ unit_cell → ⊥) → if_unit (shape_at t x) f z ≡ z
  unfolding shape_at
  no_unit f h =
      rw (ne_eqb (kind_at t x) unit_cell h)
      (others_unit z (left_at t x) (right_at t x) f (eqb (kind_at t x) left_cell) (eqb (kind_at t x) right_cell) (eqb (kind_at t x) pair_cell))

  pub no_sum : (f g : ℕ → R) → (kind_at t x ≡ left_cell → ⊥) → (kind_at t x ≡ right_cell → ⊥) → if_sum (shape_at t x) f g z ≡ z
  unfolding shape_at
  no_sum f g h k =
      rw (ne_eqb (kind_at t x) left_cell h, ne_eqb (kind_at t x) right_cell k)
      (others_sum z (left_at t x) (right_at t x) f g (eqb (kind_at t x) unit_cell) (eqb (kind_at t x) pair_cell))

  pub no_pair : (f : ℕ → ℕ → R) → (kind_at t x ≡ pair_cell → ⊥) → if_pair (shape_at t x) f z ≡ z
  unfolding shape_at
  no_pair f h =
      rw (ne_eqb (kind_at t x) pair_cell h)
      (others_pair z (left_at t x) (right_at t x) f (eqb (kind_at t x) unit_cell) (eqb (kind_at t x) left_cell) (eqb (kind_at t x) right_cell))
