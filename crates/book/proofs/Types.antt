-- The numbers of two types are equal exactly where their trees are: READ refuses a like type.
-- Assumes nothing.
use Prim.Native.Nat.{ℕ, zero, suc, ◌≤◌, ◌<◌}
use mathlib.Core.Bool.{true}
use mathlib.Core.List.{List}
use mathlib.Core.Logic.{⊎_elim}
use mathlib.Core.Path.{◌≡◌, refl, sym, ap, ◌∙◌}
use native.Mathlib.Omega.{arith}
use borrow.Author.Tests.{eq-eqb}
use lib.Dec.{eqb, eqb→eq}
use lib.ListN.{get_or}
use Rattle.laws.specs.Choices.{all_chosen}
use Rattle.laws.specs.Table.{below}
use Rattle.simplicity.specs.Types.{Ty, one, sum, product}
use Rattle.book.specs.Format.{word_at, mark_of, row_of, marks, numbered, total_of, TYPE, TU, TS, TP}
use Rattle.book.specs.Read.{mark_at, kind_at, alike}
use Rattle.book.specs.Index.{mark, kind, total, field}
use Rattle.book.specs.Valid.{Valid}
use Rattle.book.specs.Tree.{type_of, as_type}
use Rattle.book.proofs.Roles.{Field, Names, mark_total, head_field, names_earlier}
use Rattle.book.proofs.Alikes.{type_mark}
use Rattle.book.proofs.Built.{tree_at}

-- a known mark's letters are its row's
letters_of : (w : ℕ) → (mark_of w ≡ 0 → ⊥) → w ≡ (row_of (mark_of w)).letters
unfolding mark_of
letters_of w h =
    ⊎_elim (λ e. absurd (h e)) (λ t. eqb→eq w (row_of (mark_of w)).letters t)
    (all_chosen (λ k m. eqb k (row_of m).letters) (numbered 1 marks) w 0 tt)

-- so equal marks have equal letters
same_letters : (w u : ℕ) → 0 < mark_of w → mark_of w ≡ mark_of u → w ≡ u
same_letters w u h e = letters_of w (λ z. omega arith) ∙ ap (λ m. (row_of m).letters) e ∙ sym (letters_of u (λ z. omega arith))

-- numbers that are equal at each place pass the test that they are
all_equal : (f g : ℕ → ℕ) (n : ℕ) → ((k : ℕ) → k < n → f k ≡ g k) → below (λ k. eqb (f k) (g k)) n ≡ true
all_equal f g zero h = refl
all_equal f g (suc n) h = rw (eq-eqb (f n) (g n) (h n (omega arith))) (all_equal f g n (λ k o. h k (omega arith)))

-- so what holds at each of the three marks holds at a type's
by_mark : (P : ℕ → Type 0) → P TU → P TS → P TP → (m : ℕ) → (0 < m) × (m ≤ 3) → P m
by_mark P u s p zero h = absurd (omega arith)
by_mark P u s p (suc zero) h = u
by_mark P u s p (suc (suc zero)) h = s
by_mark P u s p (suc (suc (suc zero))) h = p
by_mark P u s p (suc (suc (suc (suc m)))) h = absurd (omega arith)

-- the mark of a type's record, how many fields it has, and the types that they name
abbrev mark_by : Ty → ℕ
mark_by one = TU
mark_by (sum a b) = TS
mark_by (product a b) = TP

abbrev size_by : Ty → ℕ
size_by one = 0
size_by (sum a b) = 2
size_by (product a b) = 2

abbrev part_by : Ty → ℕ → Ty
part_by one k = one
part_by (sum a b) zero = a
part_by (sum a b) (suc k) = b
part_by (product a b) zero = a
part_by (product a b) (suc k) = b

-- a type's record is what its tree says
record Typed (b i : List ℕ) (r : ℕ) : Type 0 where
  marked : mark b i r ≡ mark_by (type_of b i r)
  sized : total b i r ≡ size_by (type_of b i r)
  named : (k : ℕ) → k < total b i r → Names b i r k TYPE
  parts : (k : ℕ) → k < total b i r → type_of b i (field b i r k) ≡ part_by (type_of b i r) k

-- what is said of field 0 and of field 1 is said of both
at_both : (P : ℕ → Type 0) (n : ℕ) → n ≡ 2 → P 0 → P 1 → (k : ℕ) → k < n → P k
at_both P n e p q zero h = p
at_both P n e p q (suc zero) h = q
at_both P n e p q (suc (suc k)) h = absurd (omega arith)

module _ {b i : List ℕ} {n : ℕ} (v : Valid b i n) where
  module _ (r : ℕ) (h : r < n) where
    -- a type of no part, a type of two parts, any type
    of_none : mark b i r ≡ TU → Typed b i r
    unfolding as_type total_of
    of_none e =
        let t : type_of b i r ≡ one = ap as_type (tree_at v r h TU e) in
        let none : total b i r ≡ 0 = mark_total b i r TU e in
        record { marked = rw t e; sized = rw t none; named = λ k o. absurd (omega arith); parts = λ k o. absurd (omega arith) }

    of_two : (t : Ty) → type_of b i r ≡ t → mark b i r ≡ mark_by t → total b i r ≡ 2 → size_by t ≡ 2 → Field b i r 0 TYPE → Field b i r 1 TYPE → type_of b i (field b i r 0) ≡ part_by t 0 → type_of b i (field b i r 1) ≡ part_by t 1 → Typed b i r
    of_two t e m two z f g p q = record {
      marked = rw e m;
      sized = rw e (two ∙ sym z);
      named = at_both (λ k. Names b i r k TYPE) (total b i r) two (names_earlier v r h f tt) (names_earlier v r h g tt);
      parts = at_both (λ k. type_of b i (field b i r k) ≡ part_by (type_of b i r) k) (total b i r) two (rw e p) (rw e q);
    }

    typed : kind b i r ≡ TYPE → Typed b i r
    unfolding kind_at as_type total_of
    typed e =
        by_mark (λ m. mark b i r ≡ m → Typed b i r) of_none
        (λ m. of_two _ (ap as_type (tree_at v r h TS m)) m (mark_total b i r TS m) refl (head_field b i r TS m 0 tt) (head_field b i r TS m 1 tt) refl refl)
        (λ m. of_two _ (ap as_type (tree_at v r h TP m)) m (mark_total b i r TP m) refl (head_field b i r TP m 0 tt) (head_field b i r TP m 1 tt) refl refl)
        (mark b i r) (type_mark (mark b i r) e) refl

  -- types with equal marks and fields are alike, and so one record
  alike_one : (r s : ℕ) → r < n → s < n → kind b i r ≡ TYPE → mark b i r ≡ mark b i s → ((k : ℕ) → k < total b i r → field b i r k ≡ field b i s k) → r ≡ s
  unfolding mark_at kind_at alike
  alike_one r s h g e m same =
      let some : 0 < mark b i r = (type_mark (mark b i r) e).0 in
      v.unlike r s h g e (rw (eq-eqb (word_at b (get_or i r 0)) (word_at b (get_or i s 0)) (same_letters _ _ some m)) (all_equal (field b i r) (field b i s) (total b i r) same))

  -- types with equal trees are one record, from the lowest up
  equal_below : (top r s : ℕ) → r < top → r < n → s < n → kind b i r ≡ TYPE → kind b i s ≡ TYPE → type_of b i r ≡ type_of b i s → r ≡ s
  equal_below zero r s o h g e f t = absurd (omega arith)
  equal_below (suc top) r s o h g e f t =
      let x = typed r h e in
      let y = typed s g f in
      let m : mark b i r ≡ mark b i s = x.marked ∙ ap mark_by t ∙ sym y.marked in
      let size : total b i r ≡ total b i s = x.sized ∙ ap size_by t ∙ sym y.sized in
      alike_one r s h g e m (λ k l.
      let a : Names b i r k TYPE = x.named k l in
      let l' : k < total b i s = rw (← size) l in
      let c : Names b i s k TYPE = y.named k l' in
      equal_below top (field b i r k) (field b i s k) (omega (arith, a.below)) (omega (arith, a.below)) (omega (arith, c.below)) a.is c.is
      (x.parts k l ∙ ap (λ w. part_by w k) t ∙ sym (y.parts k l')))

  -- the numbers of two types are equal exactly where their trees are
  pub types_equal : (r s : ℕ) → r < n → s < n → kind b i r ≡ TYPE → kind b i s ≡ TYPE → (type_of b i r ≡ type_of b i s → r ≡ s) × (r ≡ s → type_of b i r ≡ type_of b i s)
  types_equal r s h g e f = (equal_below (suc r) r s (omega arith) h g e f, ap (type_of b i))
