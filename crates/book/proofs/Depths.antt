-- Depths by number: the row of depths has them, they do not change with later places, and READ's fields come to them.
-- Assumes nothing.
use Prim.Native.Nat.{ℕ, zero, suc, ◌+◌, ◌≤◌, ◌<◌}
use mathlib.Core.Bool.{Bool, true, false}
use mathlib.Core.Path.{◌≡◌, refl, sym, ap, ap₂, ◌∙◌}
use mathlib.Core.List.{List, [], ◌∷◌, ◌++◌}
use native.Mathlib.Omega.{arith}
use native.Mathlib.Decide.{dec_lt}
use lib.ListN.{length, get_or, length-append, get_or-append}
use lib.Seq.{get_or_at}
use lib.Dec.{eqb}
use borrow.Author.Tests.{eqb-false}
use Rattle.laws.specs.Table.{pick}
use Rattle.book.specs.Read.{total_at, field_at, deeper, good, fields}
use Rattle.book.specs.Index.{total, deepest, depths, depth}
use Rattle.book.proofs.Judging.{names_at, fields_good}
use Rattle.book.proofs.Extends.{Extends}

-- the row of the first n depths
module _ (b i : List ℕ) where
  -- there are n of them
  length_depths : (n : ℕ) → length (depths b i n) ≡ n
  unfolding depths
  length_depths zero = refl
  length_depths (suc n) = let h = length_depths n in omega (arith, length-append (depths b i n) ((deepest b i (depths b i n) n 0 (total b i n) 0 + 1) ∷ []))

  -- the last one is new, the others stay
  row_step : (n r : ℕ) → r < suc n → (r < n → get_or (depths b i n) r 0 ≡ depth b i r) → Dec (r < n) → get_or (depths b i (suc n)) r 0 ≡ depth b i r
  unfolding depths depth
  row_step n r h ih (yes p) = get_or-append (depths b i n) _ 0 r (rw length_depths p) ∙ ih p
  row_step n r h ih (no p) =
      let e : n ≡ r = omega arith in
      rw e (get_or_at (depths b i r) (depth b i r) [] 0 r (length_depths r))

  -- each is its record's depth
  pub row_depths : (n r : ℕ) → r < n → get_or (depths b i n) r 0 ≡ depth b i r
  row_depths zero r h = absurd (omega arith)
  row_depths (suc n) r h = row_step n r h (row_depths n r) (dec_lt r n)

-- a second choice that is the same where it is taken
pick_same : {A : Type 0} (t : Bool) (a x y : A) → (t ≡ false → x ≡ y) → pick t a x ≡ pick t a y
pick_same true a x y h = refl
pick_same false a x y h = h refl

-- depths over an index and the one after it
module _ (b i j : List ℕ) (r p : ℕ) (x : Extends i j r p) where
  -- the deepest record that an earlier record names
  deepest_before : (ds : List ℕ) (s k left d : ℕ) → s < r → deepest b j ds s k left d ≡ deepest b i ds s k left d
  unfolding deepest
  deepest_before ds s k zero d h = refl
  deepest_before ds s k (suc left) d h = rw (x.before s h) (deepest_before ds s (k + 1) left _ h)

  -- an earlier record keeps its depth if those before it do
  depth_step : (s : ℕ) → s < r → depths b j s ≡ depths b i s → depth b j s ≡ depth b i s
  unfolding depth
  depth_step s h e = rw (e, x.before s h, deepest_before (depths b i s) s 0 _ 0 h)

  -- the earlier depths stay
  depths_before : (n : ℕ) → n ≤ r → depths b j n ≡ depths b i n
  unfolding depths depth
  depths_before zero h = refl
  depths_before (suc n) h =
      let e = depths_before n (omega arith) in
      ap₂ (λ (l : List ℕ) (d : ℕ). l ++ (d ∷ [])) e (depth_step n h e)

  -- an earlier record keeps its depth
  pub depth_before : (s : ℕ) → s < r → depth b j s ≡ depth b i s
  depth_before s h = depth_step s h (depths_before s (omega arith))

  -- the depth of the deepest record that the fields name, where ds has the earlier depths
  module _ (ds : List ℕ) (g : (y : ℕ) → y < r → get_or ds y 0 ≡ depth b i y) where
    deep_fields : (k left : ℕ) (nm : List Bool) (d : ℕ) (nm' : List Bool) (d' : ℕ) → fields b i ds r p k left nm d ≡ good nm' d' → d' ≡ deepest b j (depths b j r) r k left d
    unfolding fields deepest
    deep_fields k zero nm d nm' d' e = cc
    deep_fields k (suc left) nm d nm' d' e =
        let w = fields_good b i ds r p k left nm d nm' d' e in
        let f = w.first in
        let same : (y : ℕ) → y < r → get_or ds y 0 ≡ get_or (depths b j r) y 0 = λ y l. g y l ∙ sym (row_depths b j r y l ∙ depth_before y l) in
        let q : w.deep ≡ pick (eqb (names_at b p k) 0) d (deeper d (get_or (depths b j r) (field_at b p k) 0)) =
        f.deep ∙ pick_same _ d _ _ (λ z. ap (λ (v : ℕ). deeper d v) (same _ (f.fits.earlier (eqb-false _ _ z)))) in
        rw (x.new, ← q) (deep_fields (k + 1) left _ _ nm' d' w.others)

    -- so the depth of the new record is one more
    pub deep_new : (nm nm' : List Bool) (d : ℕ) → fields b i ds r p 0 (total_at b p) nm 0 ≡ good nm' d → d + 1 ≡ depth b j r
    unfolding depth
    deep_new nm nm' d e = rw (x.new, ← deep_fields 0 (total_at b p) nm 0 nm' d e)
