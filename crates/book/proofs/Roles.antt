-- The role of each field of a record whose mark is known, and what a field names; at a mark that is written out, roles and tests compute.
-- Assumes nothing.
use Prim.Native.Nat.{ℕ, ◌+◌, ◌*◌, ◌-◌, ◌≤◌, ◌<◌}
use mathlib.Core.Bool.{Bool, true, false}
use mathlib.Core.List.{List}
use mathlib.Core.Path.{◌≡◌, refl, sym, ap, ◌∙◌}
use native.Mathlib.Nat.{mul-le-mul_right, mul-add-mod_self_right, mod-eq_of_lt}
use native.Mathlib.Omega.{arith}
use borrow.Author.Tests.{lt-ltb, le-ltb, le-leb, ne_eqb}
use lib.Dec.{T, eqb, ltb, leb, ltb→lt, leb→le}
use lib.ListN.{get_or}
use Rattle.laws.specs.Table.{pick, both, both_left, both_right}
use Rattle.book.specs.Format.{Fields, word_at, row_of, layout_row, layout_of, role_of, total_of, in_range, EXPRESSION, FUNCTION, END}
use Rattle.book.proofs.Layouts.{each_row}
use Rattle.book.specs.Read.{count_in, count_at, total_at, end_at, role_at, field_at, names}
use Rattle.book.specs.Index.{mark, kind, count, total, role, field, named, Begins, Lies}
use Rattle.book.specs.Valid.{Valid}

module _ (l : Fields) (n : ℕ) where
  -- the e-th place of the group's q-th time is one of the group's
  group_inside : (q e : ℕ) → q < n → e < l.eachs → q * l.eachs + e < n * l.eachs
  group_inside q e h g = omega (arith, mul-le-mul_right l.eachs h)

  -- the roles of the head
  head_role : (k : ℕ) → k < l.heads → role_of l n k ≡ get_or l.head k 0
  unfolding role_of
  head_role k h = rw (lt-ltb k l.heads)

  head_inside : (k : ℕ) → k < l.heads → k < total_of l n
  unfolding total_of
  head_inside k h = omega arith

  -- the roles of the group
  pub each_role : (k q e : ℕ) → k ≡ l.heads + q * l.eachs + e → q < n → e < l.eachs → role_of l n k ≡ get_or l.each e 0
  unfolding role_of
  each_role k q e z h g =
      let past : l.heads ≤ k = omega arith in
      let off : k - l.heads ≡ q * l.eachs + e = omega arith in
      let in_it : q * l.eachs + e < n * l.eachs = group_inside q e h g in
      rw (le-ltb k l.heads past, off, lt-ltb (q * l.eachs + e) (n * l.eachs) in_it, mul-add-mod_self_right q l.eachs e, mod-eq_of_lt g)

  pub each_inside : (k q e : ℕ) → k ≡ l.heads + q * l.eachs + e → q < n → e < l.eachs → k < total_of l n
  unfolding total_of
  each_inside k q e z h g = omega (arith, group_inside q e h g)

  -- the role of the field after the group, if there is one
  pub last_role : (k : ℕ) → k ≡ l.heads + n * l.eachs → role_of l n k ≡ l.last
  unfolding role_of
  last_role k z =
      let past : l.heads ≤ k = omega arith in
      let off : n * l.eachs ≤ k - l.heads = omega arith in
      rw (le-ltb k l.heads past, le-ltb (k - l.heads) (n * l.eachs) off)

  pub last_inside : (k : ℕ) → k ≡ l.heads + n * l.eachs → (l.last ≡ 0 → ⊥) → k < total_of l n
  unfolding total_of
  last_inside k z h = rw (ne_eqb l.last 0 h) (omega arith)

-- a mark's layout
abbrev pub layout : ℕ → Fields
layout m = layout_row (row_of m)

-- how often a mark's group stands, where the fields hold x
abbrev pub counted : ℕ → (ℕ → ℕ) → ℕ
counted m x = pick (eqb (layout m).eachs 0) 0 (x ((layout m).heads - 1))

-- whether a role is a kind's
abbrev pub is_kind : ℕ → Bool
is_kind kd = both (ltb 0 kd) (leb kd FUNCTION)

-- which is not 0
pub kind_some : (kd : ℕ) → T (is_kind kd) → kd ≡ 0 → ⊥
kind_some kd t z = omega (arith, ltb→lt 0 kd (both_left (ltb 0 kd) (leb kd FUNCTION) t))

-- a field with a kind's role names a record of that kind
pub names_kind : (kd x : ℕ) → T (is_kind kd) → names kd x ≡ kd
unfolding names
names_kind kd x t =
    let low : kd ≤ 6 = leb→le kd 6 (both_right (ltb 0 kd) (leb kd FUNCTION) t) in
    let e : eqb kd 16 ≡ false = ne_eqb kd 16 (λ z. omega arith) in
    rw (e, le-leb kd 6 low)

-- a block's end names an expression unless it is 65535
pub names_end : (x : ℕ) → (x ≡ 65535 → ⊥) → names END x ≡ EXPRESSION
unfolding names
names_end x h = rw (ne_eqb x 65535 h)

-- the word before a field is the field before it
pub field_before : (b : List ℕ) (p k : ℕ) → word_at b (p + 2 * (k + 1)) ≡ field_at b p k
unfolding field_at
field_before b p k = ap (word_at b) (omega arith)

-- a group's count stands in the head
count_in_lem : (b : List ℕ) (p : ℕ) (l : Fields) → T (pick (eqb l.eachs 0) true (ltb 0 l.heads)) → count_in b p l ≡ pick (eqb l.eachs 0) 0 (field_at b p (l.heads - 1))
unfolding count_in
count_in_lem b p l t = go (eqb l.eachs 0) t
  where
    go : (c : Bool) → T (pick c true (ltb 0 l.heads)) → pick c 0 (word_at b (p + 2 * l.heads)) ≡ pick c 0 (field_at b p (l.heads - 1))
    go true u = refl
    go false u = ap (λ h. word_at b (p + 2 * h)) (omega (arith, ltb→lt 0 l.heads u)) ∙ field_before b p (l.heads - 1)

-- field k of record r has this role
pub record Field (b i : List ℕ) (r k w : ℕ) : Type 0 where
  pub inside : k < total b i r
  pub is : role b i r k ≡ w

-- and names an earlier record of this kind
pub record Names (b i : List ℕ) (r k kd : ℕ) : Type 0 where
  pub below : field b i r k < r
  pub is : kind b i (field b i r k) ≡ kd

-- a record of mark m: how often its group stands, how many fields it has, and the role of each
module _ (b i : List ℕ) (r m : ℕ) (is : mark b i r ≡ m) where
  -- as often as its count says
  abbrev times : ℕ
  times = counted m (field b i r)

  pub mark_count : count b i r ≡ times
  unfolding count_at layout_of
  mark_count = rw is (count_in_lem b (get_or i r 0) (layout m) (each_row (λ w. pick (eqb (layout_row w).eachs 0) true (ltb 0 (layout_row w).heads)) tt m))

  pub mark_total : total b i r ≡ total_of (layout m) times
  unfolding total_at layout_of
  mark_total = rw (mark_count, is)

  pub mark_role : (k : ℕ) → role b i r k ≡ role_of (layout m) times k
  unfolding role_at layout_of
  mark_role k = rw (mark_count, is)

  -- what the layout says of a field
  by_layout : (k w : ℕ) → k < total_of (layout m) times → role_of (layout m) times k ≡ w → Field b i r k w
  by_layout k w inside e = record { inside = rw mark_total inside; is = mark_role k ∙ e }

  -- field k of the head; at the e-th place of the group's q-th time; after the group
  pub head_field : (k : ℕ) → T (ltb k (layout m).heads) → Field b i r k (get_or (layout m).head k 0)
  head_field k t = by_layout k _ (head_inside (layout m) times k (ltb→lt _ _ t)) (head_role (layout m) times k (ltb→lt _ _ t))

  pub each_field : (k q e : ℕ) → k ≡ (layout m).heads + q * (layout m).eachs + e → q < times → T (ltb e (layout m).eachs) → Field b i r k (get_or (layout m).each e 0)
  each_field k q e z h t = by_layout k _ (each_inside (layout m) times k q e z h (ltb→lt _ _ t)) (each_role (layout m) times k q e z h (ltb→lt _ _ t))

  pub last_field : (k : ℕ) → k ≡ (layout m).heads + times * (layout m).eachs → T (ltb 0 (layout m).last) → Field b i r k (layout m).last
  last_field k z t = by_layout k _ (last_inside (layout m) times k z (λ o. omega (arith, ltb→lt 0 (layout m).last t))) (last_role (layout m) times k z)

-- a record begins in the book, which is what reading its mark asks
pub record_begins : {b i : List ℕ} {n : ℕ} → Valid b i n → (r : ℕ) → r < n → Begins b i r
unfolding end_at
record_begins v r h = record { listed = omega (arith, v.rows.few, v.rows.indexed); inside = omega (arith, (v.rows.inside r h).ends) }

-- field k of a record of a valid book
module _ {b i : List ℕ} {n : ℕ} (v : Valid b i n) (r : ℕ) (h : r < n) {k w : ℕ} (f : Field b i r k w) where
  -- what the field names is earlier and of the kind
  by_name : (kd : ℕ) → names w (field b i r k) ≡ kd → (kd ≡ 0 → ⊥) → Names b i r k kd
  by_name kd e some =
      let is_named : named b i r k ≡ kd = rw f.is e in
      let one : named b i r k ≡ 0 → ⊥ = λ z. some (sym is_named ∙ z) in
      record { below = (v.sound r h).earlier k f.inside one; is = (v.sound r h).kinds k f.inside one ∙ is_named }

  -- a record's number is above those that it names
  pub names_earlier : T (is_kind w) → Names b i r k w
  names_earlier t = by_name w (names_kind w (field b i r k) t) (kind_some w t)

  -- a block's end is an expression unless it is 65535
  pub end_earlier : w ≡ END → (field b i r k ≡ 65535 → ⊥) → Names b i r k EXPRESSION
  end_earlier e some = by_name EXPRESSION (rw e (names_end (field b i r k) some)) (λ z. omega arith)

  -- the field lies in the book, which is what reading it asks
  pub field_lies : Lies b i r k
  unfolding end_at
  field_lies = record { listed = omega (arith, v.rows.few, v.rows.indexed); inside = omega (arith, f.inside, (v.rows.inside r h).ends) }

  -- its number is in range
  pub ranged_is : T (in_range w (word_at b (get_or i r 0 + 2 * k)) (field b i r k))
  ranged_is = rw f.is at ((v.sound r h).ranged k f.inside)
