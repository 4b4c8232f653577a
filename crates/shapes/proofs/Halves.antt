-- What is 2 ^ k of a type, told by halving it.
-- Assumes nothing.
use Prim.Native.Nat.{ℕ, zero, suc, ◌/◌, ◌≤◌, ◌<◌}
use mathlib.Core.Bool.{Bool, true, false}
use mathlib.Core.List.{List}
use mathlib.Core.Option.{Option, some, none}
use mathlib.Core.Path.{◌≡◌, refl, sym, ◌∙◌}
use borrow.Author.Tests.{eqb-true}
use lib.Dec.{eqb}
use Rattle.laws.specs.Table.{both, true_false}
use Rattle.simplicity.specs.Types.{Ty, one, sum, product, power, same}
use Rattle.simplicity.proofs.Safe.{same_is, is_same}
use Rattle.book.specs.Format.{TYPE, TP}
use Rattle.book.specs.Stands.{Stands}
use Rattle.book.specs.Tree.{type_of}
use Rattle.shapes.specs.Shapes.{side_of, onward, is_at}
use Rattle.shapes.specs.Views.{Gives, nowhere, record_of, side_is, same_half, halved_of}
use Rattle.std.specs.Prelude.{Option as Answer, Some, None}
use Rattle.std.specs.Option.{option_eq}
use Rattle.shapes.proofs.Same.{same_turned, types_same, gives_at, gives_none, gives_some, gives_stands}
use Rattle.shapes.proofs.Powers.{Down, down_is, down_next, down_end}

-- what is 2 ^ k of a type is told by halving it
both_twice : (a : Bool) → both a a ≡ a
both_twice true = refl
both_twice false = refl

-- what is of one type is of no other
both_like : (p q w : Ty) → same p q ≡ false → both (same p w) (same q w) ≡ false
both_like p q w e = go (same p w) (same q w) refl refl
  where
    go : (a b : Bool) → same p w ≡ a → same q w ≡ b → both a b ≡ false
    go true true f g = absurd (true_false (sym (is_same p q (same_is p w f ∙ sym (same_is q w g))) ∙ e))
    go true false f g = refl
    go false b f g = refl

halved_pair : (k : ℕ) (p q a : Ty) → same p (power a k) ≡ is_at (halved_of k p) a → (r : Bool) → same p q ≡ r → both (same p (power a k)) (same q (power a k)) ≡ is_at (onward (elim r [ true ↦ some p | false ↦ none ]) (halved_of k)) a
unfolding is_at onward
halved_pair k p q a h true e = rw (← same_is p q e, both_twice) h
halved_pair k p q a h false e = both_like p q (power a k) e

halved_same : (k : ℕ) (t a : Ty) → same t (power a k) ≡ is_at (halved_of k t) a
unfolding halved_of power same is_at onward same_half side_of
halved_same zero t a = refl
halved_same (suc k) one a = refl
halved_same (suc k) (sum p q) a = refl
halved_same (suc k) (product p q) a = halved_pair k p q a (halved_same k p a) (same p q) refl

-- so by what halving gives: there is none; there is one, of which w tells; it is compared with a type's record
module _ {b i : List ℕ} (k : ℕ) (t : Ty) where
  pub power_none : (a : Ty) → Gives b i (halved_of k t) None → false ≡ same t (power a k)
  unfolding is_at
  power_none a g = sym (halved_same k t a ∙ rw (gives_none g))

  pub power_some : {x : ℕ} (a : Ty) {w : Bool} → Gives b i (halved_of k t) (Some x) → w ≡ same (type_of b i x) a → w ≡ same t (power a k)
  unfolding is_at
  power_some a g e = e ∙ sym (halved_same k t a ∙ rw (gives_some g))

  pub power_at : {x : Answer ℕ} {u : ℕ} → Gives b i (halved_of k t) x → Stands b i u TYPE → option_eq eqb x (Some u) ≡ same t (power (type_of b i u) k)
  power_at {u = u} g s = gives_at g s ∙ sym (halved_same k t (type_of b i u))

-- a type twice is one; two types are none
halves_same : (a : Ty) → same_half (some a) (some a) ≡ some a
unfolding same_half
halves_same a = rw (is_same a a refl, same_half)

halves_other : (a b : Ty) → same a b ≡ false → same_half (some a) (some b) ≡ none
unfolding same_half
halves_other a b e = rw (e, same_half)

-- halving has come to record t, of which there are n
module _ {b i : List ℕ} {o : Option Ty} {t n : ℕ} (g : Down b i halved_of o t n) where
  pub halved_end : n ≤ 1 → Gives b i o (Some t)
  unfolding halved_of
  halved_end h = record_of g.stands (down_end g h)

  -- it is no pair; its right side is none, or another type; it is a pair of a type twice
  module _ (h : 1 < n) where
    pub halved_none : Gives b i (side_is TP 0 (type_of b i t)) None → Gives b i o None
    unfolding halved_of same_half onward
    halved_none l = nowhere (down_is g h ∙ rw (gives_none l))

    module _ {y : ℕ} (l : Gives b i (side_is TP 0 (type_of b i t)) (Some y)) where
      pub halved_unlike : {x : Answer ℕ} → Gives b i (side_is TP 1 (type_of b i t)) x → option_eq eqb x (Some y) ≡ false → Gives b i o None
      unfolding halved_of same_half onward
      halved_unlike (nowhere e) f = nowhere (down_is g h ∙ rw (gives_some l, e))
      halved_unlike (record_of {t = z} s e) f =
          let u : same (type_of b i y) (type_of b i z) ≡ false = same_turned (type_of b i y) (type_of b i z) ∙ sym (types_same s (gives_stands l)) ∙ f in
          nowhere (down_is g h ∙ rw (gives_some l, e, halves_other (type_of b i y) (type_of b i z) u))

      pub halved_next : {x : Answer ℕ} → Gives b i (side_is TP 1 (type_of b i t)) x → option_eq eqb x (Some y) ≡ true → Down b i halved_of o y (n / 2)
      unfolding halved_of onward
      halved_next (nowhere e) f = absurd (true_false (sym f))
      halved_next (record_of {t = z} s e) f =
          let w : z ≡ y = eqb-true z y f in
          down_next g h (gives_stands l) (rw (gives_some l, e, w, halves_same (type_of b i y)))
