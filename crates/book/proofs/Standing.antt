-- Laws of a record that stands in a valid book: it begins, its fields lie, what it names stands and is earlier, and its tree.
-- Assumes nothing.
use Prim.Native.Nat.{ℕ, ◌+◌, ◌*◌, ◌≤◌, ◌<◌}
use mathlib.Core.Bool.{Bool, true}
use mathlib.Core.List.{List}
use mathlib.Core.Path.{◌≡◌}
use native.Mathlib.Omega.{arith}
use lib.Dec.{T, eqb, eqb→eq, ltb, leb→le}
use lib.ListN.{get_or}
use Rattle.laws.specs.Table.{pick, below}
use Rattle.book.specs.Format.{word_at, EXPRESSION, FUNCTION, COUNT, END, FN, row_of, in_range}
use Rattle.book.specs.Read.{kind_at}
use Rattle.book.specs.Index.{mark, field, Begins, Lies}
use Rattle.book.specs.Stands.{Stands}
use Rattle.book.specs.Tree.{maker, tree}
use Rattle.book.proofs.Layouts.{kind_marks}
use Rattle.book.proofs.Roles.{Field, Names, layout, counted, is_kind, head_field, each_field, last_field, record_begins, names_earlier, end_earlier, field_lies, ranged_is}
use Rattle.book.proofs.Built.{tree_at}

module _ {b i : List ℕ} {r kd : ℕ} (s : Stands b i r kd) where
  -- it begins in the book, and has one of the numbers that there may be
  pub stands_begins : Begins b i r
  stands_begins = record_begins s.valid r s.inside

  pub stands_few : r < 4096
  stands_few = omega (arith, s.inside, s.valid.rows.few)

  -- what computes at each mark of its kind holds of its mark
  pub stands_mark : (f : ℕ → Bool) → T (ltb 0 kd) → T (below (λ j. pick (eqb (row_of j).kind kd) (f j) true) 38) → T (f (mark b i r))
  unfolding kind_at
  stands_mark f some t = kind_marks f kd some t (mark b i r) s.is

  -- what it names stands
  by_names : {k w : ℕ} → Names b i r k w → Stands b i (field b i r k) w
  by_names n = record { records = s.records; valid = s.valid; inside = omega (arith, n.below, s.inside); is = n.is }

  -- a field lies in the book; what it names, where its role is a kind; a block's end; its number is in range, a count's at most 256
  module _ {k w : ℕ} (f : Field b i r k w) where
    pub field_in : Lies b i r k
    field_in = field_lies s.valid r s.inside f

    pub field_stands : T (is_kind w) → Stands b i (field b i r k) w
    field_stands t = by_names (names_earlier s.valid r s.inside f t)

    pub field_below : T (is_kind w) → field b i r k < r
    field_below t = (names_earlier s.valid r s.inside f t).below

    pub end_stands : w ≡ END → (field b i r k ≡ 65535 → ⊥) → Stands b i (field b i r k) EXPRESSION
    end_stands e some = by_names (end_earlier s.valid r s.inside f e some)

    pub end_below : w ≡ END → (field b i r k ≡ 65535 → ⊥) → field b i r k < r
    end_below e some = (end_earlier s.valid r s.inside f e some).below

    pub field_ranged : T (in_range w (word_at b (get_or i r 0 + 2 * k)) (field b i r k))
    field_ranged = ranged_is s.valid r s.inside f

    pub count_most : w ≡ COUNT → field b i r k ≤ 256
    unfolding in_range
    count_most e = leb→le _ 256 (rw e at field_ranged)

  -- where its mark is m, by m's row of the table: its tree; its head's field k
  module _ (m : ℕ) (is : mark b i r ≡ m) where
    pub stands_tree : tree b i r ≡ maker m r (field b i r) (λ k. tree b i (field b i r k))
    stands_tree = tree_at s.valid r s.inside m is

    pub head_lies : (k : ℕ) → T (ltb k (layout m).heads) → Lies b i r k
    head_lies k t = field_in (head_field b i r m is k t)

    pub head_stands : (k : ℕ) → T (ltb k (layout m).heads) → T (is_kind (get_or (layout m).head k 0)) → Stands b i (field b i r k) (get_or (layout m).head k 0)
    head_stands k t o = field_stands (head_field b i r m is k t) o

    pub head_below : (k : ℕ) → T (ltb k (layout m).heads) → T (is_kind (get_or (layout m).head k 0)) → field b i r k < r
    head_below k t o = field_below (head_field b i r m is k t) o

    pub head_ranged : (k : ℕ) → T (ltb k (layout m).heads) → T (in_range (get_or (layout m).head k 0) (word_at b (get_or i r 0 + 2 * k)) (field b i r k))
    head_ranged k t = field_ranged (head_field b i r m is k t)

    pub head_most : (k : ℕ) → T (ltb k (layout m).heads) → get_or (layout m).head k 0 ≡ COUNT → field b i r k ≤ 256
    head_most k t e = count_most (head_field b i r m is k t) e

    -- the e-th field of the group's q-th time
    pub each_lies : (k q e : ℕ) → k ≡ (layout m).heads + q * (layout m).eachs + e → q < counted m (field b i r) → T (ltb e (layout m).eachs) → Lies b i r k
    each_lies k q e z h t = field_in (each_field b i r m is k q e z h t)

    pub each_stands : (k q e : ℕ) → k ≡ (layout m).heads + q * (layout m).eachs + e → q < counted m (field b i r) → T (ltb e (layout m).eachs) → T (is_kind (get_or (layout m).each e 0)) → Stands b i (field b i r k) (get_or (layout m).each e 0)
    each_stands k q e z h t o = field_stands (each_field b i r m is k q e z h t) o

    pub each_below : (k q e : ℕ) → k ≡ (layout m).heads + q * (layout m).eachs + e → q < counted m (field b i r) → T (ltb e (layout m).eachs) → T (is_kind (get_or (layout m).each e 0)) → field b i r k < r
    each_below k q e z h t o = field_below (each_field b i r m is k q e z h t) o

    pub each_ranged : (k q e : ℕ) → k ≡ (layout m).heads + q * (layout m).eachs + e → q < counted m (field b i r) → T (ltb e (layout m).eachs) → T (in_range (get_or (layout m).each e 0) (word_at b (get_or i r 0 + 2 * k)) (field b i r k))
    each_ranged k q e z h t = field_ranged (each_field b i r m is k q e z h t)

    -- the field after the group
    pub last_lies : (k : ℕ) → k ≡ (layout m).heads + counted m (field b i r) * (layout m).eachs → T (ltb 0 (layout m).last) → Lies b i r k
    last_lies k z t = field_in (last_field b i r m is k z t)

    pub last_stands : (k : ℕ) → k ≡ (layout m).heads + counted m (field b i r) * (layout m).eachs → T (ltb 0 (layout m).last) → T (is_kind (layout m).last) → Stands b i (field b i r k) (layout m).last
    last_stands k z t o = field_stands (last_field b i r m is k z t) o

    pub last_below : (k : ℕ) → k ≡ (layout m).heads + counted m (field b i r) * (layout m).eachs → T (ltb 0 (layout m).last) → T (is_kind (layout m).last) → field b i r k < r
    last_below k z t o = field_below (last_field b i r m is k z t) o

    -- a block's end, where there is one
    pub tail_stands : (k : ℕ) → k ≡ (layout m).heads + counted m (field b i r) * (layout m).eachs → T (ltb 0 (layout m).last) → (layout m).last ≡ END → (field b i r k ≡ 65535 → ⊥) → Stands b i (field b i r k) EXPRESSION
    tail_stands k z t e some = end_stands (last_field b i r m is k z t) e some

    pub tail_below : (k : ℕ) → k ≡ (layout m).heads + counted m (field b i r) * (layout m).eachs → T (ltb 0 (layout m).last) → (layout m).last ≡ END → (field b i r k ≡ 65535 → ⊥) → field b i r k < r
    tail_below k z t e some = end_below (last_field b i r m is k z t) e some

-- a function's mark
pub function_mark : {b i : List ℕ} {r : ℕ} → Stands b i r FUNCTION → mark b i r ≡ FN
function_mark {b} {i} {r} s = eqb→eq (mark b i r) FN (stands_mark s (λ m. eqb m FN) tt tt)
