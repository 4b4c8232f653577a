-- Types of lists, block by block: each block is half as many as the one before.
-- Assumes nothing.
use Prim.Native.Nat.{ℕ, suc, ◌-◌, ◌/◌, ◌≤◌, ◌<◌}
use mathlib.Core.Bool.{Bool, true, false}
use mathlib.Core.List.{List}
use mathlib.Core.Option.{Option}
use mathlib.Core.Path.{◌≡◌, refl, sym, ap, subst, ◌∙◌}
use native.Mathlib.Omega.{arith}
use Rattle.laws.specs.Table.{both}
use Rattle.array.specs.Split.{halvings, top_of}
use Rattle.simplicity.specs.Types.{Ty, power, fewer, same}
use Rattle.book.specs.Format.{TYPE, TS, TP}
use Rattle.book.specs.Index.{mark, field}
use Rattle.book.specs.Stands.{Stands}
use Rattle.book.specs.Tree.{type_of}
use Rattle.shapes.specs.Shapes.{onward, element_of, list_type}
use Rattle.shapes.specs.Views.{Gives, nowhere, ListBound, side_is, block_type}
use Rattle.std.specs.Prelude.{Option as Answer, Some, None}
use Rattle.shapes.proofs.Same.{gives_none, gives_some, gives_stands}
use Rattle.shapes.proofs.Sides.{first_fails, first_holds, side_at, same_not, same_product}
use Rattle.shapes.proofs.Powers.{half_power, half_top, bound_power, bound_more, Down, down_is, down_next, down_end}

-- what a type is the lists of; whether it is the lists of a
abbrev pub last_of : ℕ → Ty → Option Ty
last_of k t = element_of (suc k) t

abbrev pub is_lists : Ty → ℕ → Ty → Bool
is_lists a k t = same t (fewer a k)

-- half a list's bound is where both begin
module _ {b i : List ℕ} {t : ℕ} (s : Stands b i t TYPE) (n : ℕ) (h : ListBound n) where
  pub element_start : Down b i last_of (element_of (top_of n) (type_of b i t)) t (n / 2)
  element_start = record { stands = s; power = half_power (bound_power n h) (bound_more n h); is = ap (λ k. element_of k (type_of b i t)) (half_top (bound_power n h) (bound_more n h)) }

  pub list_start : (a : Ty) → Down b i (is_lists a) (same (type_of b i t) (list_type a n)) t (n / 2)
  list_start a =
      let e : top_of n - 1 ≡ top_of (n / 2) = omega (arith, half_top (bound_power n h) (bound_more n h)) in
      record { stands = s; power = half_power (bound_power n h) (bound_more n h); is = ap (λ k. same (type_of b i t) (fewer a k)) e }

-- the blocks before record t are passed
module _ {b i : List ℕ} {o : Option Ty} {t n : ℕ} (g : Down b i last_of o t n) where
  pub element_end : {y : Answer ℕ} → n ≤ 1 → Gives b i (side_is TS 1 (type_of b i t)) y → Gives b i o y
  unfolding element_of
  element_end {y} h r = subst (λ w. Gives b i w y) (sym (down_end g h)) r

  module _ (h : 1 < n) where
    pub element_none : Gives b i (side_is TP 1 (type_of b i t)) None → Gives b i o None
    unfolding element_of onward
    element_none r = nowhere (down_is g h ∙ rw (gives_none r))

    pub element_next : {y : ℕ} → Gives b i (side_is TP 1 (type_of b i t)) (Some y) → Down b i last_of o y (n / 2)
    unfolding element_of onward
    element_next r = down_next g h (gives_stands r) (rw (gives_some r))

-- the blocks before record t are a list's
module _ {b i : List ℕ} (a : Ty) {o : Bool} {t n : ℕ} (g : Down b i (is_lists a) o t n) where
  pub list_end : {w : Bool} → n ≤ 1 → w ≡ same (type_of b i t) (block_type a (top_of 1)) → w ≡ o
  unfolding fewer power top_of halvings
  list_end h e = e ∙ sym (down_end g h)

  module _ (h : 1 < n) {x : ℕ} (e : x ≡ mark b i t) where
    pub list_not : (x ≡ TP → ⊥) → false ≡ o
    unfolding fewer
    list_not f = sym (down_is g h ∙ same_not g.stands e (fewer a (suc (top_of (n / 2)))) refl f)

    module _ (q : x ≡ TP) {y w : ℕ} (l : y ≡ field b i t 0) (r : w ≡ field b i t 1) {u : Bool} (v : u ≡ same (type_of b i y) (block_type a (top_of n))) where
      list_sides : same (type_of b i t) (fewer a (suc (top_of (n / 2)))) ≡ both (same (type_of b i y) (block_type a (top_of n))) (same (type_of b i w) (fewer a (top_of (n / 2))))
      unfolding fewer
      list_sides = rw (half_top g.power h) (same_product g.stands e l r _ _ q)

      pub list_other : u ≡ false → false ≡ o
      list_other z = sym (down_is g h ∙ first_fails _ v list_sides z)

      pub list_next : u ≡ true → Down b i (is_lists a) o w (n / 2)
      list_next z = down_next g h (side_at g.stands e {m = TP} tt q {k = 1} (omega arith) r) (first_holds _ v list_sides z)
