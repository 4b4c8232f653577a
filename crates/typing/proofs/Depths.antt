-- A record is deeper than what it names, and so the row of live bindings has room for all.
-- Assumes nothing.
use Prim.Native.Nat.{ℕ, zero, suc, ◌+◌, ◌≤◌, ◌<◌}
use mathlib.Core.Bool.{Bool, true, false}
use mathlib.Core.List.{List}
use mathlib.Core.Path.{◌≡◌, sym, ◌∙◌}
use native.Mathlib.Omega.{arith}
use borrow.Author.Tests.{ne_eqb}
use lib.Dec.{T, eqb}
use lib.ListN.{get_or}
use Rattle.laws.specs.Order.{by_lt}
use Rattle.laws.specs.Table.{pick}
use Rattle.book.specs.Read.{deeper}
use Rattle.book.specs.Index.{total, field, named, deepest, depths, depth}
use Rattle.book.specs.Stands.{Stands}
use Rattle.book.proofs.Depths.{row_depths}
use Rattle.book.proofs.Roles.{Field, is_kind, names_kind, kind_some}
use Rattle.book.proofs.Standing.{field_below}
use Rattle.typing.specs.Cycle.{Enough}

-- the deeper of two is below neither
deeper_first : (d e : ℕ) → d ≤ deeper d e
unfolding deeper
deeper_first d e = omega arith

deeper_second : (d e : ℕ) → e ≤ deeper d e
unfolding deeper
deeper_second d e = omega arith

module _ (b i : List ℕ) where
  -- the deepest so far is not above the deepest of all, and no field's is
  deepest_most : (ds : List ℕ) (r k left d : ℕ) → d ≤ deepest b i ds r k left d
  unfolding deepest
  deepest_most ds r k zero d = omega arith
  deepest_most ds r k (suc left) d = go (eqb (named b i r k) 0) (deepest_most ds r (k + 1) left)
    where
      go : (t : Bool) → ((e : ℕ) → e ≤ deepest b i ds r (k + 1) left e) → d ≤ deepest b i ds r (k + 1) left (pick t d (deeper d (get_or ds (field b i r k) 0)))
      go true f = f d
      go false f = omega (arith, f (deeper d (get_or ds (field b i r k) 0)), deeper_first d (get_or ds (field b i r k) 0))

  deepest_field : (ds : List ℕ) (r k left d j : ℕ) → k ≤ j → j < k + left → (named b i r j ≡ 0 → ⊥) → get_or ds (field b i r j) 0 ≤ deepest b i ds r k left d
  unfolding deepest
  deepest_field ds r k zero d j l h o = absurd (omega arith)
  deepest_field ds r k (suc left) d j l h o = by_lt k j
      (λ p. deepest_field ds r (k + 1) left _ j (omega arith) (omega arith) o)
      (λ p.
      let e : j ≡ k = omega arith in
      let z : named b i r k ≡ 0 → ⊥ = rw e at o in
      rw (e, ne_eqb (named b i r k) 0 z) (omega (arith, deepest_most ds r (k + 1) left (deeper d (get_or ds (field b i r k) 0)), deeper_second d (get_or ds (field b i r k) 0))))

-- what a field of a record names is less deep
pub field_shallower : {b i : List ℕ} {r k w u : ℕ} → Field b i r k w → named b i r k ≡ u → (u ≡ 0 → ⊥) → field b i r k < r → depth b i (field b i r k) < depth b i r
unfolding depth
field_shallower {b} {i} {r} {k} f e o l =
    let q : get_or (depths b i r) (field b i r k) 0 ≡ depth b i (field b i r k) = row_depths b i r (field b i r k) l in
    let z : named b i r k ≡ 0 → ⊥ = λ y. o (sym e ∙ y) in
    omega (arith, q, deepest_field b i (depths b i r) r 0 (total b i r) 0 k (omega arith) (omega (arith, f.inside)) z)

-- a field with a kind's role
pub kind_shallower : {b i : List ℕ} {r kd k w : ℕ} → Stands b i r kd → Field b i r k w → T (is_kind w) → depth b i (field b i r k) < depth b i r
kind_shallower {b} {i} {r} {kd} {k} {w} s f t = field_shallower f (rw f.is (names_kind w (field b i r k) t)) (kind_some w t) (field_below s f t)

-- room for a record's bindings is room for those of what it names, where at most 256 more are live
pub enough_part : {b i : List ℕ} {r n : ℕ} (x m : ℕ) → Enough b i r n → depth b i x < depth b i r → m ≤ n + 256 → Enough b i x m
enough_part x m e d h = record { room = omega (arith, e.room) }

-- and there is room for one more
pub enough_one : {b i : List ℕ} {r n : ℕ} → Enough b i r n → n < 65280
unfolding depth
enough_one e = omega (arith, e.room)
