-- What holds of every layout, and what a group's count and size come to.
-- Assumes nothing.
use Prim.Native.Nat.{ℕ, ◌*◌, ◌≤◌, ◌<◌}
use mathlib.Core.Path.{◌≡◌, refl, sym, ap, subst, ◌∙◌}
use native.Mathlib.Nat.{mul-le-mul_left}
use mathlib.Core.Bool.{Bool, true}
use mathlib.Core.List.{[], ◌∷◌}
use lib.Dec.{T, eqb, ltb, leb, ltb→lt, leb→le, lit<}
use lib.ListN.{length, get_or-eq_default}
use borrow.Author.Tests.{eq-eqb}
use Rattle.laws.specs.Table.{pick, below, all_below}
use Rattle.laws.specs.Order.{by_lt}
use Rattle.book.specs.Format.{Small, kind_of, layout_of, Row, row_of, row, marks}
use native.Mathlib.Omega.{arith}

-- past the last mark there is none
pub beyond : (m : ℕ) → 38 ≤ m → row_of m ≡ row 0 0 0 [] [] 0
beyond m h = get_or-eq_default (row 0 0 0 [] [] 0 ∷ marks) (row 0 0 0 [] [] 0) h

-- what computes at each row of the table holds of every number's row
pub each_row : (f : Row → Bool) → T (below (λ j. f (row_of j)) 38) → (m : ℕ) → T (f (row_of m))
each_row f t m =
    by_lt m 38 (all_below (λ j. f (row_of j)) 38 t m)
    (λ h. subst (λ (w : Row). T (f w)) (sym (beyond m h)) (all_below (λ j. f (row_of j)) 38 t 0 (lit< tt)))

-- what computes at each mark of a kind holds of every mark of that kind
pub kind_marks : (f : ℕ → Bool) (kd : ℕ) → T (ltb 0 kd) → T (below (λ j. pick (eqb (row_of j).kind kd) (f j) true) 38) → (m : ℕ) → kind_of m ≡ kd → T (f m)
unfolding kind_of
kind_marks f kd some t m e =
    by_lt m 38
    (λ h. rw (e, eq-eqb kd kd refl) at (all_below (λ j. pick (eqb (row_of j).kind kd) (f j) true) 38 t m h))
    (λ h. absurd (let z : 0 ≡ kd = sym (ap (λ w. w.kind) (beyond m h)) ∙ e in omega (arith, ltb→lt 0 kd some)))

-- a group of at most two fields that stands fewer than 65,536 times
pub groups_fit : (n e : ℕ) → n < 65536 → e ≤ 2 → n * e ≤ 131070
groups_fit n e h l = let p : n * e ≤ n * 2 = mul-le-mul_left n l in omega arith

-- every mark's layout is small
pub small_of : (m : ℕ) → Small (layout_of m)
unfolding layout_of
small_of m = record {
  heads = leb→le (length (row_of m).head) 6 (each_row (λ w. leb (length w.head) 6) tt m);
  eachs = leb→le (length (row_of m).each) 2 (each_row (λ w. leb (length w.each) 2) tt m);
}
