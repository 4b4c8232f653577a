-- From the records in their order to CHECK's answer.
-- Assumes nothing.
use Rattle.std.specs.declared.result.Result.{Result}
use Rattle.std.specs.declared.result.Result.TheVariants.{Ok, Err}
use Prim.Native.Nat.{ℕ, suc, ◌+◌, ◌-◌, ◌≤◌, ◌<◌}
use mathlib.Core.Bool.{Bool, false}
use mathlib.Core.List.{List, [], ◌∷◌}
use mathlib.Core.Path.{◌≡◌, refl, sym, ap, ◌∙◌}
use native.Mathlib.Omega.{arith}
use borrow.Author.Tests.{ne_eqb}
use lib.ListN.{length, get_or}
use Rattle.std.specs.Prelude.{Ok, Err, None}
use Rattle.std.specs.Result.{result_and}
use Rattle.laws.specs.Order.{by_lt}
use Rattle.laws.specs.Table.{among, every, ◌also◌}
use Rattle.book.specs.Format.{VALUE, PATTERN, FUNCTION, PI, PN, PT, FN, kind_of}
use Rattle.book.specs.Index.{mark, kind, field, Begins}
use Rattle.book.specs.Read.{mark_at, kind_at, field_at, read_of, index_of, Outcome, done, refused, reading, places_of}
use Rattle.book.specs.Read as read
use Rattle.book.specs.Stands.{Stands}
use Rattle.book.specs.Tree.{expr_of, fun_of, pattern_of, as_pattern, group}
use Rattle.book.specs.Valid.{Valid, Tiles}
use Rattle.book.specs.declared.fault.Refusal.{Refusal}
use Rattle.book.proofs.Established.{answer_valid}
use Rattle.book.proofs.Tiles.{read_tiles}
use Rattle.book.proofs.Roles.{record_begins}
use Rattle.book.proofs.Standing.{stands_mark, stands_tree, head_below, each_below, function_mark}
use Rattle.shapes.specs.Wholes.{value_agrees}
use Rattle.binders.specs.Binders.{names, twice, root_scope}
use Rattle.binders.specs.declared.Binding.{Binding as Entry}
use Rattle.binders.specs.Memos.{Known, Doubled, scope_of}
use Rattle.typing.specs.Check.{Checked, agree, check, check_fun}
use Rattle.typing.specs.declared.cycle.Judge.{Judge}
use Rattle.typing.specs.Cycle.{Among, Rows, Stays}
use Rattle.typing.proofs.Judging.{Handed, first_halts, first_passes}
use Rattle.typing.specs.Whole.{in_order, value_at, function_at, checking, answer_of, check_of}

-- a record of a valid book
pub among_begins : {b i : List ℕ} {r : ℕ} → Among b i r → Begins b i r
among_begins {r = r} a = record_begins a.valid r a.inside

-- of a kind, as the mark tells it
module _ {b i : List ℕ} {r : ℕ} (a : Among b i r) {m k : ℕ} (e : m ≡ mark b i r) (z : k ≡ kind_of m) where
  kind_is : k ≡ kind b i r
  unfolding kind_at
  kind_is = z ∙ ap kind_of e

  pub stands_as : (kd : ℕ) → k ≡ kd → Stands b i r kd
  stands_as kd q = record { records = a.records; valid = a.valid; inside = a.inside; is = sym kind_is ∙ q }

  -- a record that is no value, and one that is
  pub value_none : (k ≡ VALUE → ⊥) → Ok tt ≡ value_at b i r
  unfolding value_at
  value_none q = rw (← kind_is, ne_eqb k VALUE q)

  pub value_some : {w : Bool} {c : Checked} → k ≡ VALUE → w ≡ value_agrees b i r → c ≡ agree w r → c ≡ value_at b i r
  unfolding value_at
  value_some q v d = d ∙ rw (← kind_is, q, v)

  -- a record that is no function, and one that is
  pub function_none : (k ≡ FUNCTION → ⊥) → Ok tt ≡ function_at b i r
  unfolding function_at
  function_none q = rw (← kind_is, ne_eqb k FUNCTION q)

  pub function_some : k ≡ FUNCTION → function_at b i r ≡ check_fun (fun_of b i r)
  unfolding function_at
  function_some q = rw (← kind_is, q)

-- the records from r on: the first, and the others
module _ (f : ℕ → Checked) (n : ℕ) where
  pub order_next : (r s : ℕ) → r < n → s ≡ r + 1 → in_order f r (n - r) ≡ result_and (f r) (in_order f s (n - s))
  unfolding in_order
  order_next r s h e =
      let z : n - r ≡ suc (n - s) = omega arith in
      let y : s ≡ suc r = omega arith in
      rw (z, y)

  pub order_none : (r : ℕ) → n ≤ r → Ok tt ≡ in_order f r (n - r)
  unfolding in_order
  order_none r h = let z : n - r ≡ 0 = omega arith in rw z

-- those before r have passed: so has one more, or it was refused
module _ (f : ℕ → Checked) {n r : ℕ} {c : Checked} (p : in_order f 0 n ≡ in_order f r (n - r)) (h : r < n) (d : c ≡ f r) where
  pub passing_next : (s : ℕ) → s ≡ r + 1 → c ≡ Ok tt → in_order f 0 n ≡ in_order f s (n - s)
  passing_next s e u = p ∙ order_next f n r s h e ∙ first_passes _ u d

  pub passing_halt : {a : Checked} → Handed c a → a ≡ in_order f 0 n
  passing_halt g = first_halts _ g d ∙ sym (p ∙ order_next f n r (r + 1) h refl)

-- the marks of patterns
abbrev pattern_marks : List ℕ
pattern_marks = PI ∷ PN ∷ PT ∷ []

-- the root's scope
pub root_scope_lem : (b i : List ℕ) (bs : List Entry) → scope_of b i bs 0 None ≡ root_scope
unfolding scope_of
root_scope_lem b i bs = refl

-- the functions, and then the root
module _ {b i : List ℕ} (n : ℕ) {q : Judge} {c : Checked} {q₁ : Judge} (f : Stays b i (in_order (function_at b i) 0 n) 0 q c q₁) where
  pub root_last : {x : Checked} {q₂ : Judge} → c ≡ Ok tt → Stays b i (check (expr_of b i (n - 1)) (scope_of b i q₁.bindings 0 None)) 0 q₁ x q₂ → x ≡ result_and (in_order (function_at b i) 0 n) (check (expr_of b i (n - 1)) root_scope)
  root_last h g = g.is ∙ ap (check (expr_of b i (n - 1))) (root_scope_lem b i q₁.bindings) ∙ sym (first_passes _ h f.is)

-- the values, and then these
module _ (b i : List ℕ) (n : ℕ) {c : Checked} (d : c ≡ in_order (value_at b i) 0 n) where
  pub values_halt : {a : Checked} → Handed c a → a ≡ checking b i n
  unfolding checking
  values_halt h = first_halts _ h d

  pub values_then : {x : Checked} → c ≡ Ok tt → x ≡ result_and (in_order (function_at b i) 0 n) (check (expr_of b i (n - 1)) root_scope) → x ≡ checking b i n
  unfolding checking
  values_then h e = e ∙ sym (first_passes _ h d)

-- beyond the records the index has zeros, where the first record is read again: a pattern there has no name twice
module _ {b i : List ℕ} {n r : ℕ} (v : Valid b i n) (w : Tiles b i n) (h : n ≤ r) (s : Stands b i r PATTERN) where
  first_again : get_or i r 0 ≡ get_or i 0 0
  first_again = w.beyond r h ∙ sym w.begins

  first_stands : Stands b i 0 PATTERN
  first_stands = record { records = n; valid = v; inside = v.some; is = ap (kind_at b) (sym first_again) ∙ s.is }

  no_parts_lem : mark b i r ≡ PT → field b i r 0 ≡ 0
  no_parts_lem e =
      let m : mark b i 0 ≡ PT = ap (mark_at b) (sym first_again) ∙ e in
      let z : field b i r 0 ≡ field b i 0 0 = ap (λ (p : ℕ). field_at b p 0) first_again in
      by_lt 0 (field b i 0 0)
      (λ o. absurd (omega (arith, each_below first_stands PT m 1 0 0 (omega arith) o tt tt)))
      (λ o. omega arith)

  once_at : (m : ℕ) → m ≡ mark b i r → twice (names (pattern_of b i r)) ≡ false
  unfolding as_pattern names twice group
  once_at m e = every pattern_marks (λ k. m ≡ k → twice (names (pattern_of b i r)) ≡ false)
      ((λ q. rw (stands_tree s PI (sym e ∙ q)) refl)
      also (λ q. rw (stands_tree s PN (sym e ∙ q)) refl)
      also (λ q. rw (stands_tree s PT (sym e ∙ q), no_parts_lem (sym e ∙ q)) refl)
      also tt)
      m (rw (← e) at (stands_mark s (λ j. among pattern_marks j) tt tt)) refl

  pub beyond_once : twice (names (pattern_of b i r)) ≡ false
  beyond_once = once_at (mark b i r) refl

-- and a function there is none, since it names the type that it gives, which is earlier
beyond_none : {b i : List ℕ} {n r : ℕ} → Valid b i n → Tiles b i n → n ≤ r → Stands b i r FUNCTION → ⊥
beyond_none {b} {n = n} v w h s =
    let first : Stands b _ 0 FUNCTION = record { records = n; valid = v; inside = v.some; is = ap (kind_at b) (w.begins ∙ sym (w.beyond _ h)) ∙ s.is } in
    omega (arith, head_below first FN (function_mark first) 0 tt tt)

-- what the first judgement works on
pub rows_first : {b i : List ℕ} {q : Judge} {n : ℕ} → Valid b i n → Tiles b i n → Doubled b i n q.doubled.now → Known b i q.memo.now → length q.vain ≡ 4096 → length q.bindings ≡ 65280 → Rows b i q
rows_first {n = n} v w d k m l = record {
  long = d.size;
  patterns = λ r s. by_lt r n (λ h. d.patterns r h s.is) (λ h. d.beyond r h ∙ rw (beyond_once v w h s));
  functions = λ r s. by_lt r n (λ h. d.functions r h s.is) (λ h. absurd (beyond_none v w h s));
  known = k;
  missing = m;
  room = l;
}

-- the records of a book that READ accepts lie end to end
answer_tiles : (b : List ℕ) (n : ℕ) → read_of b ≡ Ok n → Tiles b (index_of b) n
unfolding read_of index_of
answer_tiles b n = go (reading b) refl
  where
    go : (o : Outcome) → reading b ≡ o → read.answer_of o ≡ Ok n → Tiles b (places_of o) n
    go (done m i) e q = let z : m ≡ n = cc in rw z at (read_tiles b i m e)
    go (refused w) e q = absurd (let z : ◌≡◌ {A = ℕ} 0 1 = cc in omega arith)

-- CHECK's answer, by READ's
by_read : (b : List ℕ) (n : ℕ) → read_of b ≡ Ok n → check_of b ≡ answer_of n (checking b (index_of b) n)
unfolding check_of
by_read b n e = rw (e, check_of)

by_refusal : (b : List ℕ) (w : Refusal) → read_of b ≡ Err w → check_of b ≡ Err w
unfolding check_of
by_refusal b w e = rw (e, check_of)

-- what is judged, and then the count
judged_answer : (n : ℕ) (c : Checked) → result_and c (Ok n) ≡ answer_of n c
unfolding answer_of
judged_answer n (Ok x) = refl
judged_answer n (Err w) = refl

module _ (b : List ℕ) {x : Result ℕ Refusal} (p : x ≡ read_of b) where
  module _ (n : ℕ) {i : List ℕ} (q : i ≡ index_of b) (e : x ≡ Ok n) where
    pub book_valid : Valid b i n
    book_valid = rw q (answer_valid b n (sym p ∙ e))

    pub book_tiles : Tiles b i n
    book_tiles = rw q (answer_tiles b n (sym p ∙ e))

    module _ {c : Checked} (d : c ≡ checking b i n) where
      answer_is : check_of b ≡ answer_of n c
      answer_is = by_read b n (sym p ∙ e) ∙ rw (d, q)

      pub check_judged : result_and c (Ok n) ≡ check_of b
      check_judged = judged_answer n c ∙ sym answer_is

  pub read_refused : {w : Refusal} → x ≡ Err w → Err w ≡ check_of b
  read_refused {w} e = sym (by_refusal b w (sym p ∙ e))
