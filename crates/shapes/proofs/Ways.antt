-- The way to a place of a type: each turn leads to one side, until one place is left.
-- Assumes nothing.
use Prim.Native.Nat.{ℕ, ◌-◌, ◌≤◌, ◌<◌}
use mathlib.Core.Bool.{Bool, true, false}
use mathlib.Core.List.{List}
use mathlib.Core.Option.{Option}
use mathlib.Core.Path.{◌≡◌, refl, ◌∙◌}
use native.Mathlib.Omega.{arith}
use lib.Dec.{leb}
use mir.Val.{bool_byte}
use Rattle.std.proofs.lemmas.Bool.{leb-true, leb-false}
use Rattle.array.specs.Split.{split_of, Split}
use Rattle.array.proofs.Paths.{path_one, path_left, path_right}
use Rattle.simplicity.specs.Types.{Ty}
use Rattle.book.specs.Format.{TYPE}
use Rattle.book.specs.Stands.{Stands}
use Rattle.book.specs.Tree.{type_of}
use Rattle.shapes.specs.Shapes.{onward, leads, place_of}
use Rattle.shapes.specs.Views.{Gives, nowhere, record_of, sort_of, side_is}
use Rattle.std.specs.Prelude.{Some, None}
use Rattle.shapes.proofs.Same.{gives_none, gives_some, gives_stands}

-- the way to o has come to record t, where it is place k of n
pub record On (b i : List ℕ) (m : ℕ) (o : Option Ty) (t n k : ℕ) : Type 0 where
  pub stands : Stands b i t TYPE
  pub inside : k < n
  pub few : n ≤ 256
  pub is : o ≡ place_of (sort_of m) n k (type_of b i t)

module _ {b i : List ℕ} {m : ℕ} {o : Option Ty} {t n k : ℕ} (g : On b i m o t n k) where
  -- one place is left
  pub way_end : n ≤ 1 → Gives b i o (Some t)
  unfolding leads
  way_end h =
      let e : n ≡ 1 = omega (arith, g.inside) in
      record_of g.stands (g.is ∙ rw (e, path_one k))

  -- two or more: the turn is to the left or to the right, where there is a side, or none
  module _ (two : 1 < n) {s : ℕ} (p : Split n s) where
    left_is : k < s → o ≡ onward (side_is m 0 (type_of b i t)) (place_of (sort_of m) s k)
    unfolding leads
    left_is l =
        let h : k < split_of n = omega (arith, p.is) in
        g.is ∙ rw (path_left n k two h, p.is)

    right_is : s ≤ k → o ≡ onward (side_is m 1 (type_of b i t)) (place_of (sort_of m) (n - s) (k - s))
    unfolding leads
    right_is l =
        let h : split_of n ≤ k = omega (arith, p.is) in
        g.is ∙ rw (path_right n k two h, p.is)

    pub left_none : k < s → Gives b i (side_is m 0 (type_of b i t)) None → Gives b i o None
    unfolding onward
    left_none l v = nowhere (left_is l ∙ rw (gives_none v))

    pub right_none : s ≤ k → Gives b i (side_is m 1 (type_of b i t)) None → Gives b i o None
    unfolding onward
    right_none l v = nowhere (right_is l ∙ rw (gives_none v))

    -- there is none on the side of the turn, which is to the right from the split on
    pub way_none : Gives b i (side_is m (bool_byte (leb s k)) (type_of b i t)) None → Gives b i o None
    way_none = go (leb s k) refl
      where
        go : (right : Bool) → leb s k ≡ right → Gives b i (side_is m (bool_byte right) (type_of b i t)) None → Gives b i o None
        go true e v = right_none (leb-true s k e) v
        go false e v = left_none (leb-false s k e) v

    pub way_left : {y : ℕ} → k < s → Gives b i (side_is m 0 (type_of b i t)) (Some y) → On b i m o y s k
    unfolding onward
    way_left l v = record { stands = gives_stands v; inside = l; few = omega (arith, p.left_most); is = left_is l ∙ rw (gives_some v) }

    pub way_right : {y : ℕ} → s ≤ k → Gives b i (side_is m 1 (type_of b i t)) (Some y) → On b i m o y (n - s) (k - s)
    unfolding onward
    way_right l v = record { stands = gives_stands v; inside = omega (arith, g.inside); few = omega (arith, g.few); is = right_is l ∙ rw (gives_some v) }
