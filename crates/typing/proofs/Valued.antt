-- Where values agree with their parts, as in a typed book, each is of its declared type.
-- Assumes nothing.
use Prim.Native.Nat.{ℕ, ◌<◌}
use mathlib.Core.Bool.{true}
use mathlib.Core.List.{List, [], ◌∷◌}
use mathlib.Core.Path.{◌≡◌, refl, sym}
use lib.Dec.{T, ltb}
use lib.ListN.{get_or}
use Rattle.laws.specs.Table.{among, true_false, every, ◌also◌}
use Rattle.array.specs.Path.{on_left, on_right}
use Rattle.simplicity.specs.Types.{Ty, one, sum, product, same}
use Rattle.simplicity.specs.Values.{Value, unit, left, right, pair, Of, of_unit, of_left, of_right, of_pair}
use Rattle.simplicity.proofs.Safe.{same_is}
use Rattle.book.specs.Format.{VALUE, VU, VL, VR, VP}
use Rattle.book.specs.Index.{mark, kind, field}
use Rattle.book.specs.Read.{index_of}
use Rattle.book.specs.Stands.{Stands}
use Rattle.book.specs.Tree.{as_value, declared, value_of, declared_of}
use Rattle.book.proofs.Roles.{layout}
use Rattle.book.proofs.Standing.{stands_mark, stands_tree}
use Rattle.shapes.specs.Shapes.{sums, side_of, is_at}
use Rattle.shapes.specs.Wholes.{value_agrees}
use Rattle.typing.specs.Typed.{TypedBook}
use Rattle.typing.proofs.Earlier.{read_stands, Before, each_before, in_head_lem}

-- a value whose declared type is the one that its parts give is of that type
unit_of : (t : Ty) → same t one ≡ true → Of unit t
unit_of t e = rw (same_is t one e) of_unit

left_of_lem : (t u : Ty) {v : Value} → is_at (side_of sums on_left t) u ≡ true → Of v u → Of (left v) t
unfolding side_of is_at
left_of_lem one u e h = absurd (true_false (sym e))
left_of_lem (sum a c) u e h = rw (same_is a u e) (of_left h)
left_of_lem (product a c) u e h = absurd (true_false (sym e))

right_of_lem : (t u : Ty) {v : Value} → is_at (side_of sums on_right t) u ≡ true → Of v u → Of (right v) t
unfolding side_of is_at
right_of_lem one u e h = absurd (true_false (sym e))
right_of_lem (sum a c) u e h = rw (same_is c u e) (of_right h)
right_of_lem (product a c) u e h = absurd (true_false (sym e))

pair_of : (t u w : Ty) {v y : Value} → same t (product u w) ≡ true → Of v u → Of y w → Of (pair v y) t
pair_of t u w e h g = rw (same_is t (product u w) e) (of_pair h g)

-- record r's value is of its declared type
abbrev pub Good : List ℕ → List ℕ → ℕ → Type 0
Good b i r = Of (value_of b i r) (declared_of b i r)

-- a value's record, over those before it
module _ {b i : List ℕ} {r : ℕ} (s : Stands b i r VALUE) (ih : Before b i (Good b i) VALUE r) where
  -- what its fields name
  part : (m : ℕ) (is : mark b i r ≡ m) (k : ℕ) → T (ltb k (layout m).heads) → get_or (layout m).head k 0 ≡ VALUE → Good b i (field b i r k)
  part = in_head_lem (Good b i) VALUE tt s ih

  value_step : value_agrees b i r ≡ true → Good b i r
  unfolding value_agrees as_value declared
  value_step = every (VU ∷ VL ∷ VR ∷ VP ∷ []) (λ m. mark b i r ≡ m → value_agrees b i r ≡ true → Good b i r)
      ((λ is. rw (is, stands_tree s VU is) (unit_of _))
      also (λ is. rw (is, stands_tree s VL is) (λ e. left_of_lem _ _ e (part VL is 1 tt refl)))
      also (λ is. rw (is, stands_tree s VR is) (λ e. right_of_lem _ _ e (part VR is 1 tt refl)))
      also (λ is. rw (is, stands_tree s VP is) (λ e. pair_of _ _ _ e (part VP is 1 tt refl) (part VP is 2 tt refl)))
      also tt)
      (mark b i r) (stands_mark s (among (VU ∷ VL ∷ VR ∷ VP ∷ [])) tt tt) refl

-- where every value before record n agrees with its parts, every one is of its declared type
pub values_good : {b i : List ℕ} (n : ℕ) → Before b i (λ r. value_agrees b i r ≡ true) VALUE n → Before b i (Good b i) VALUE n
values_good {b} {i} n h = each_before (Good b i) VALUE n (λ r o s ih. value_step s ih (h r o s))

-- so in a typed book
pub typed_values : (b : List ℕ) (n : ℕ) → TypedBook b n → (r : ℕ) → r < n → kind b (index_of b) r ≡ VALUE → Of (value_of b (index_of b) r) (declared_of b (index_of b) r)
typed_values b n t r o k = values_good n (λ x l s. t.values x l s.is) r o (read_stands t.reads r o k)
