-- When two types are alike, and when one is alike an earlier one, a law for each way through.
-- Assumes nothing.
use Prim.Native.Nat.{ℕ, ◌+◌, ◌≤◌, ◌<◌}
use mathlib.Core.Path.{◌≡◌, refl, sym, ap, ◌∙◌}
use mathlib.Core.Bool.{Bool, true, false}
use mathlib.Core.Logic.{inr}
use mathlib.Core.List.{List, []}
use native.Mathlib.Omega.{arith}
use borrow.Author.Tests.{eq-eqb, ne_eqb}
use lib.Dec.{T, eqb, ltb, leb, ltb→lt, leb→le}
use lib.ListN.{length, get_or}
use Rattle.laws.specs.Table.{both, some, arm, both_left, both_right}
use Rattle.book.specs.Format.{word_at, mark_of, kind_of, layout_of, total_of, TYPE, TU}
use Rattle.book.proofs.Layouts.{kind_marks}
use Rattle.book.specs.Read.{mark_at, kind_at, field_at, count_in, count_at, total_at, end_at, alike, repeats}
use Rattle.book.specs.Ready.{Framed}
use Rattle.book.proofs.Frames.{field_within}

both_last : (x : Bool) → both x true ≡ x
both_last true = refl
both_last false = refl

both_none : (x : Bool) → both x false ≡ false
both_none true = refl
both_none false = refl

-- a type's mark is tu, ts or tp
pub type_mark : (m : ℕ) → kind_of m ≡ TYPE → (0 < m) × (m ≤ 3)
type_mark m e =
    let t : T (both (ltb 0 m) (leb m 3)) = kind_marks (λ j. both (ltb 0 j) (leb j 3)) TYPE tt tt m e in
    (ltb→lt 0 m (both_left (ltb 0 m) (leb m 3) t), leb→le m 3 (both_right (ltb 0 m) (leb m 3) t))

module _ (b : List ℕ) (p : ℕ) where
  -- unit has no field, and the other types have two
  pub no_fields : (m : ℕ) → m ≡ mark_at b p → m ≡ TU → total_at b p ≡ 0
  unfolding total_at count_at count_in layout_of total_of
  no_fields m q e = rw (sym q ∙ e)

  pub two_fields : (m : ℕ) → m ≡ mark_at b p → kind_of m ≡ TYPE → (m ≡ TU → ⊥) → total_at b p ≡ 2
  unfolding total_at count_at count_in layout_of total_of
  two_fields m q e u =
      let w = type_mark m e in
      rw (← q) (sym (arm [] (λ k. total_of (layout_of k) (count_in b p (layout_of k))) 2 2 2 (inr refl, (inr refl, tt)) m refl (omega arith) (omega arith)))

  pub two_within : (m : ℕ) → m ≡ mark_at b p → kind_of m ≡ TYPE → (m ≡ TU → ⊥) → p + 6 ≤ end_at b p
  two_within m q e u = let t = two_fields m q e u in omega (arith, field_within b p 1 (rw t (omega arith)))

  pub first_field : field_at b p 0 ≡ word_at b (p + 2)
  unfolding field_at
  first_field = ap (word_at b) (omega arith)

  pub second_field : field_at b p 1 ≡ word_at b (p + 4)
  unfolding field_at
  second_field = ap (word_at b) (omega arith)

module _ (b : List ℕ) (p q : ℕ) where
  pub alike_letters : (word_at b p ≡ word_at b q → ⊥) → false ≡ alike b p q
  unfolding alike
  alike_letters n = rw (ne_eqb (word_at b p) (word_at b q) n)

  module _ (letters : word_at b p ≡ word_at b q) where
    pub alike_none : total_at b p ≡ 0 → true ≡ alike b p q
    unfolding alike
    alike_none e = rw (eq-eqb (word_at b p) (word_at b q) letters, e)

    pub alike_first : total_at b p ≡ 2 → (word_at b (p + 2) ≡ word_at b (q + 2) → ⊥) → false ≡ alike b p q
    unfolding alike
    alike_first e n = rw (eq-eqb (word_at b p) (word_at b q) letters, e, first_field b p, first_field b q, ne_eqb (word_at b (p + 2)) (word_at b (q + 2)) n) (sym (both_none _))

    pub alike_second : total_at b p ≡ 2 → word_at b (p + 2) ≡ word_at b (q + 2) → eqb (word_at b (p + 4)) (word_at b (q + 4)) ≡ alike b p q
    unfolding alike
    alike_second e n = rw (eq-eqb (word_at b p) (word_at b q) letters, e, second_field b p, second_field b q, first_field b p, first_field b q, eq-eqb (word_at b (p + 2)) (word_at b (q + 2)) n) (sym (both_last _))

    -- two types with two fields each lie in the book
    pub both_within : Framed b p → Framed b q → (m : ℕ) → m ≡ mark_at b p → kind_of m ≡ TYPE → (m ≡ TU → ⊥) → (p + 6 ≤ length b) × (q + 6 ≤ length b)
    unfolding mark_at
    both_within f g m is k u =
        (omega (arith, two_within b p m is k u, f.ends), omega (arith, two_within b q m (is ∙ ap mark_of letters) k u, g.ends))

module _ (b i : List ℕ) (r p m : ℕ) (is : m ≡ mark_at b p) where
  pub repeats_not : (kind_of m ≡ TYPE → ⊥) → false ≡ repeats b i r p
  unfolding repeats kind_at
  repeats_not n = rw (← is, ne_eqb (kind_of m) TYPE n)

  pub repeats_some : kind_of m ≡ TYPE → (t : Bool) → some (λ j. alike b p (get_or i j 0)) r ≡ t → t ≡ repeats b i r p
  unfolding repeats kind_at
  repeats_some e t s = rw (← is, eq-eqb (kind_of m) TYPE e) (sym s)
