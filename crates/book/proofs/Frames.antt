-- What the code's numbers of a record come to: its layout, its count, its end.
-- Assumes nothing.
use Prim.Native.Nat.{ℕ, ◌+◌, ◌*◌, ◌≤◌, ◌<◌}
use mathlib.Core.Path.{◌≡◌, ap, ◌∙◌}
use mathlib.Core.Bool.{Bool, true, false}
use mathlib.Core.List.{List}
use native.Mathlib.Omega.{arith}
use borrow.Author.Tests.{lt-ltb, le-ltb}
use lib.Dec.{eqb}
use lib.ListN.{length}
use Rattle.std.specs.Prelude.{Ok, Err}
use Rattle.laws.specs.Table.{pick}
use Rattle.book.specs.Format.{Fields, Small, layout_of, total_of, role_of}
use Rattle.book.specs.Read.{mark_at, layout_at, count_in, count_at, total_at, end_at, role_at}
use Rattle.book.specs.Ready.{frame_at, frame_from}
use Rattle.book.specs.declared.fault.Fault.TheVariants.{Cut}
use Rattle.book.proofs.Layouts.{groups_fit, small_of}

-- a layout that is a mark's is small
pub small_is : (l : Fields) (m : ℕ) → l ≡ layout_of m → Small l
small_is l m e = rw e (small_of m)

one_most : (t : Bool) → pick t 0 1 ≤ 1
one_most true = omega arith
one_most false = omega arith

-- no record has more than 131,077 fields
pub total_fits : (l : Fields) (n : ℕ) → Small l → n < 65536 → total_of l n ≤ 131077
unfolding total_of
total_fits l n s h = omega (arith, groups_fit n l.eachs h s.eachs, s.heads, one_most (eqb l.last 0))

module _ (b : List ℕ) (p : ℕ) where
  -- the head is a part of the record
  pub head_within : p + 2 + 2 * (layout_at b p).heads ≤ end_at b p
  unfolding end_at total_at total_of
  head_within = omega arith

  -- a record begins with its mark
  pub mark_within : p + 2 ≤ end_at b p
  unfolding end_at
  mark_within = omega arith

  -- a field is a part of its record
  pub field_within : (k : ℕ) → k < total_at b p → p + 2 + 2 * (k + 1) ≤ end_at b p
  unfolding end_at
  field_within k h = omega arith

  pub cut_frame : length b < end_at b p → Err Cut ≡ frame_from b p
  unfolding frame_from
  cut_frame h = rw (lt-ltb _ _ h)

  pub whole_frame : end_at b p ≤ length b → Ok (frame_at b p) ≡ frame_from b p
  unfolding frame_from
  whole_frame h = rw (le-ltb _ _ h)

  -- the layout of its mark is its own
  pub layout_is : (l : Fields) (m : ℕ) → l ≡ layout_of m → m ≡ mark_at b p → l ≡ layout_at b p
  layout_is l m e q = e ∙ ap layout_of q

  pub role_is : (l : Fields) (n k x : ℕ) → l ≡ layout_at b p → n ≡ count_at b p → x ≡ role_of l n k → x ≡ role_at b p k
  unfolding role_at
  role_is l n k x is e q = q ∙ rw (is, e)

  pub total_at_lem : (l : Fields) (n t : ℕ) → l ≡ layout_at b p → n ≡ count_at b p → t ≡ total_of l n → t ≡ total_at b p
  unfolding total_at
  total_at_lem l n t is e q = q ∙ rw (is, e)

  module _ (l : Fields) (is : l ≡ layout_at b p) where
    pub cut_head : length b < p + 2 + 2 * l.heads → Err Cut ≡ frame_from b p
    cut_head h = cut_frame (omega (arith, head_within, ap (λ (x : Fields). x.heads) is))

    pub count_is : (n : ℕ) → n ≡ count_in b p l → n ≡ count_at b p
    unfolding count_at
    count_is n e = e ∙ ap (count_in b p) is

    pub end_is : (n t : ℕ) → n ≡ count_in b p l → t ≡ total_of l n → p + 2 + 2 * t ≡ end_at b p
    unfolding end_at
    end_is n t e q = ap (λ (x : ℕ). p + 2 + 2 * x) (total_at_lem l n t is (count_is n e) q)
