-- What a call, a fold, a loop, a hash and a jet ask of their declared types, by the fields of their records and of their function's.
-- Assumes nothing.
use Prim.Native.Nat.{ℕ, zero, suc, ◌+◌, ◌-◌, ◌*◌, ◌/◌, ◌≤◌, ◌<◌}
use mathlib.Core.Bool.{false}
use mathlib.Core.List.{List, [], ◌∷◌}
use mathlib.Core.Path.{◌≡◌, refl, sym, ap, ◌∙◌}
use native.Mathlib.Omega.{arith}
use lib.Dec.{T, leb, leb→le}
use lib.ListN.{length, replicate, length-replicate}
use Rattle.laws.specs.Table.{both, among, both_left, both_right, ◌also◌, every, true_false}
use Rattle.array.specs.Split.{top_of, halvings}
use Rattle.jet.specs.Jets.{jet_of}
use Rattle.jet.specs.declared.Jet.{Jet}
use Rattle.simplicity.specs.Types.{Ty, one, product, two, power, same}
use Rattle.book.specs.Format.{in_range, within, powers, power_in, TS, TYPE, EXPRESSION, FUNCTION, CJ, CF, CQ, CY, CW, CH, FN}
use Rattle.book.specs.Index.{field, Lies}
use Rattle.book.specs.Stands.{Stands}
use Rattle.book.specs.Tree.{as_expr, as_fun, type_of, expr_of, fun_of, group}
use Rattle.book.proofs.Standing.{stands_tree, head_lies, head_stands, each_lies, each_stands, each_ranged, function_mark}
use Rattle.parts.specs.Parts.{Marked, Spanned, span_at}
use Rattle.parts.specs.declared.view.Span.{Span}
use Rattle.parts.proofs.Marks.{most}
use Rattle.shapes.specs.Shapes.{type_is, takes, gives, array_type, list_type, word_type, is_at, all_are, same_all, folds, loops, jet_takes, jet_gives, whole}
use Rattle.shapes.specs.Views.{ListBound, side_is}
use Rattle.shapes.specs.Wholes.{Elements, Declares, Folding, types_at, takes_at, words_at, accumulates, result_type}
use Rattle.shapes.proofs.Walks.{Tests}
use Rattle.shapes.proofs.Rows.{types_at_lem, params_at_lem, words_at_lem, types_length, takes_length, same_length, same_replicate}
use Rattle.shapes.proofs.Constructs.{Part, made, names, ranged, typed_lies, typed_stands}

-- a function's record: its first two fields, and parameter k
module _ {b i : List ℕ} {f : ℕ} (s : Stands b i f FUNCTION) where
  pub result_lies : Lies b i f 0
  result_lies = head_lies s FN (function_mark s) 0 tt

  pub result_stands : Stands b i (field b i f 0) TYPE
  result_stands = head_stands s FN (function_mark s) 0 tt tt

  pub count_lies : Lies b i f 1
  count_lies = head_lies s FN (function_mark s) 1 tt

  pub param_lies : {n : ℕ} (k : ℕ) → n ≡ field b i f 1 → k < n → Lies b i f (3 + 2 * k)
  param_lies k e h = each_lies s FN (function_mark s) (3 + 2 * k) k 1 (omega arith) (omega arith) tt

  param_stands : {n : ℕ} (k : ℕ) → n ≡ field b i f 1 → k < n → Stands b i (field b i f (3 + 2 * k)) TYPE
  param_stands k e h = each_stands s FN (function_mark s) (3 + 2 * k) k 1 (omega arith) (omega arith) tt tt

  pub param_at : {n x : ℕ} (k : ℕ) → n ≡ field b i f 1 → k < n → x ≡ field b i f (3 + 2 * k) → Stands b i x TYPE
  param_at k e h z = rw z (param_stands k e h)

  -- what it takes and gives
  takes_are : takes (fun_of b i f) ≡ takes_at b i f 2 (field b i f 1)
  unfolding takes as_fun
  takes_are = ap (λ x. takes (as_fun x)) (stands_tree s FN (function_mark s)) ∙ params_at_lem b i f (field b i f 1) 2

  gives_is : gives (fun_of b i f) ≡ type_of b i (field b i f 0)
  unfolding gives as_fun
  gives_is = ap (λ x. gives (as_fun x)) (stands_tree s FN (function_mark s))

-- argument k of a call
pub argument : {b i : List ℕ} {r k n j : ℕ} → Elements b i r 1 k n → j < n → Lies b i r (k + j) × Stands b i (field b i r (k + j)) EXPRESSION
argument {j = j} w h = let z : 1 * j ≡ j = omega arith in rw z at (w.each j h)

-- a fold's function takes two, a loop's three
folds_two : (over : Ty → Ty) (ts : List Ty) (u t e a : Ty) → (length ts ≡ 2 → ⊥) → folds over ts u t e a ≡ false
unfolding folds
folds_two over [] u t e a h = refl
folds_two over (x ∷ []) u t e a h = refl
folds_two over (x ∷ y ∷ []) u t e a h = absurd (h refl)
folds_two over (x ∷ y ∷ z ∷ ts) u t e a h = refl

loops_three : (w : ℕ) (ts : List Ty) (u t a x : Ty) → (length ts ≡ 3 → ⊥) → loops w ts u t a x ≡ false
unfolding loops
loops_three w [] u t a x h = refl
loops_three w (p ∷ []) u t a x h = refl
loops_three w (p ∷ q ∷ []) u t a x h = refl
loops_three w (p ∷ q ∷ n ∷ []) u t a x h = absurd (h refl)
loops_three w (p ∷ q ∷ n ∷ o ∷ ts) u t a x h = refl

-- a power of two in a range
power_among : (lo hi x : ℕ) → T (power_in lo hi x) → T (among powers x)
unfolding power_in
power_among lo hi x t = both_right (within lo hi x) (among powers x) t

module _ {b i : List ℕ} {r t : ℕ} where
  -- a call: its arguments are a row
  pub call_row : {n : ℕ} → Declares b i r CF t → n ≡ field b i r 2 → Elements b i r 1 3 n
  call_row {n} g o = record { few = rw o (most g.marked 2 tt refl); low = omega arith; near = omega arith; each = each }
    where
      each : (j : ℕ) → j < n → Lies b i r (3 + 1 * j) × Stands b i (field b i r (3 + 1 * j)) EXPRESSION
      each j h = (each_lies g.marked.stands CF g.marked.is (3 + 1 * j) j 0 (omega arith) (omega arith) tt, each_stands g.marked.stands CF g.marked.is (3 + 1 * j) j 0 (omega arith) (omega arith) tt tt)

  -- its function stands; arguments as many as it takes, and what it gives
  module _ (g : Declares b i r CF t) {f : ℕ} (z : f ≡ field b i r 1) where
    pub call_function : Stands b i f FUNCTION
    call_function = rw z (names g 1 tt tt)

    call_whole : whole (expr_of b i r) ≡ both (same_all (types_at b i r 1 3 (field b i r 2)) (takes_at b i f 2 (field b i f 1))) (same (type_of b i t) (type_of b i (field b i f 0)))
    unfolding whole as_expr
    call_whole = ap whole (made g) ∙ rw (types_at_lem b i r (field b i r 2) 3, ← z, takes_are call_function, gives_is call_function, ← g.is)

    module _ {n c : ℕ} (o : n ≡ field b i r 2) (w : c ≡ field b i f 1) where
      pub call_few : (c ≡ n → ⊥) → false ≡ whole (expr_of b i r)
      call_few h = sym (call_whole ∙ rw (same_length _ _ (λ e. h (w ∙ sym (takes_length b i f (field b i f 1) 2) ∙ sym e ∙ types_length b i r (field b i r 2) 1 3 ∙ sym o))))

      pub call_is : c ≡ n → Tests (whole (expr_of b i r)) (same_all (types_at b i r 1 3 n) (takes_at b i f 2 n) ∷ same (type_of b i t) (type_of b i (field b i f 0)) ∷ [])
      call_is e = record { is = call_whole ∙ rw (← w, e, ← o) }

  -- a hash of n words, each of which lies, is of a power of two's width, and is an expression
  pub hash_is : {n : ℕ} → Declares b i r CH t → n ≡ field b i r 2 → Tests (whole (expr_of b i r)) (words_at b i r 3 n ∷ same (type_of b i t) (word_type 256) ∷ [])
  unfolding whole as_expr
  hash_is g z = record { is = ap whole (made g) ∙ rw (g.is, z, words_at_lem b i r (field b i r 2) 3) }

-- which are not many
pub hash_most : {b i : List ℕ} {r n : ℕ} → Marked b i r CH → n ≡ field b i r 2 → n ≤ 256
hash_most g z = rw z (most g 2 tt refl)

module _ {b i : List ℕ} {r : ℕ} (g : Marked b i r CH) {n : ℕ} (z : n ≡ field b i r 2) (k : ℕ) (h : k < n) where
  pub width_lies : Lies b i r (3 + 2 * k)
  width_lies = each_lies g.stands CH g.is (3 + 2 * k) k 0 (omega arith) (omega arith) tt

  pub width_power : {x : ℕ} → x ≡ field b i r (3 + 2 * k) → T (among powers x)
  unfolding in_range
  width_power e = rw e (power_among 8 256 _ (each_ranged g.stands CH g.is (3 + 2 * k) k 0 (omega arith) (omega arith) tt))

  pub word_part : Lies b i r (4 + 2 * k) × Stands b i (field b i r (4 + 2 * k)) EXPRESSION
  word_part = (each_lies g.stands CH g.is (4 + 2 * k) k 1 (omega arith) (omega arith) tt, each_stands g.stands CH g.is (4 + 2 * k) k 1 (omega arith) (omega arith) tt tt)

-- what stands for a fold's accumulator: field a of its function's record
module _ {b i : List ℕ} {r f t : ℕ} (h : Folding b i r f t) where
  pub second_lies : Lies b i f 5
  second_lies = param_lies h.function 1 (sym h.takes) (omega arith)

  pub second_stands : {a : ℕ} → a ≡ field b i f 5 → Stands b i a TYPE
  second_stands z = rw z (param_stands h.function 1 (sym h.takes) (omega arith))

  pub accumulates_is : {a : ℕ} → a ≡ field b i f 5 → Tests (accumulates b i r f t) (same (type_is (expr_of b i (field b i r 4))) (type_of b i a) ∷ same (type_of b i t) (type_of b i a) ∷ same (type_of b i (field b i f 0)) (type_of b i a) ∷ [])
  unfolding accumulates
  accumulates_is z = record { is = rw z }

-- folds, over lists and over arrays: the function takes two, or there is no type that fits
module _ {b i : List ℕ} {f : ℕ} (s : Stands b i f FUNCTION) (over : Ty → Ty) where
  folds_none : (u e a : Ty) → (field b i f 1 ≡ 2 → ⊥) → folds over (takes (fun_of b i f)) (gives (fun_of b i f)) u e a ≡ false
  folds_none u e a h = folds_two over (takes (fun_of b i f)) _ u e a (λ z. h (sym (takes_length b i f (field b i f 1) 2) ∙ ap length (sym (takes_are s)) ∙ z))

  folds_is : (r t : ℕ) (e : Ty) → field b i f 1 ≡ 2 → folds over (takes (fun_of b i f)) (gives (fun_of b i f)) (type_of b i t) e (type_is (expr_of b i (field b i r 4))) ≡ both (same e (over (type_of b i (field b i f 3)))) (accumulates b i r f t)
  unfolding folds accumulates takes_at group
  folds_is r t e h = rw (takes_are s, h, gives_is s)

-- a fold's record, of which `over` tells the type of what is folded, by its field 2 and an element's type
pub record Fold (b i : List ℕ) (r t : ℕ) (over : ℕ → Ty → Ty) : Type 0 where
  pub is : whole (expr_of b i r) ≡ folds (over (field b i r 2)) (takes (fun_of b i (field b i r 1))) (gives (fun_of b i (field b i r 1))) (type_of b i t) (type_is (expr_of b i (field b i r 3))) (type_is (expr_of b i (field b i r 4)))
  pub function : Stands b i (field b i r 1) FUNCTION
  pub lies : Lies b i r 4
  pub start : Stands b i (field b i r 4) EXPRESSION
  pub type : Stands b i t TYPE

module _ {b i : List ℕ} {r t : ℕ} where
  -- over lists, of a bound; over arrays, of a size
  pub list_fold_lem : Declares b i r CQ t → Fold b i r t (λ n x. list_type x n)
  unfolding whole as_expr
  list_fold_lem g = record { is = ap whole (made g) ∙ rw g.is; function = names g 1 tt tt; lies = typed_lies g 4 tt; start = names g 4 tt tt; type = typed_stands g }

  pub array_fold_lem : Declares b i r CY t → Fold b i r t (λ n x. array_type x n)
  unfolding whole as_expr
  array_fold_lem g = record { is = ap whole (made g) ∙ rw g.is; function = names g 1 tt tt; lies = typed_lies g 4 tt; start = names g 4 tt tt; type = typed_stands g }

  pub fold_bound : {n : ℕ} → Declares b i r CQ t → n ≡ field b i r 2 → ListBound n
  unfolding in_range
  fold_bound g o = rw o (ranged g 2 tt)

  pub fold_size : {n : ℕ} → Declares b i r CY t → n ≡ field b i r 2 → (1 ≤ n) × (n ≤ 256)
  unfolding in_range within
  fold_size g o =
      let w : T (within 1 256 (field b i r 2)) = ranged g 2 tt in
      rw o (leb→le 1 _ (both_left (leb 1 (field b i r 2)) _ w), leb→le _ 256 (both_right (leb 1 (field b i r 2)) _ w))

-- its function f, of c parameters
module _ {b i : List ℕ} {r t f : ℕ} {over : ℕ → Ty → Ty} (w : Fold b i r t over) (z : f ≡ field b i r 1) where
  pub fold_function : Stands b i f FUNCTION
  fold_function = rw z w.function

  module _ {c : ℕ} (q : c ≡ field b i f 1) where
    pub fold_few : (c ≡ 2 → ⊥) → false ≡ whole (expr_of b i r)
    fold_few h = sym (w.is ∙ rw (← z) (folds_none fold_function (over (field b i r 2)) _ _ _ (λ e. h (q ∙ e))))

    pub folding : c ≡ 2 → Folding b i r f t
    folding e = record { lies = w.lies; start = w.start; function = fold_function; takes = sym q ∙ e; type = w.type }

    pub fold_is : {n x p : ℕ} → c ≡ 2 → n ≡ field b i r 2 → x ≡ field b i f 3 → Part b i r 3 p → Tests (whole (expr_of b i r)) (same (type_of b i p) (over n (type_of b i x)) ∷ accumulates b i r f t ∷ [])
    fold_is e o y a = record { is = w.is ∙ rw (← z, folds_is fold_function (over (field b i r 2)) r t (type_is (expr_of b i (field b i r 3))) (sym q ∙ e), a.1, y, o) }

-- a loop and its function f
module _ {b i : List ℕ} {r t f : ℕ} (g : Declares b i r CW t) (z : f ≡ field b i r 1) where
  pub loop_function : Stands b i f FUNCTION
  loop_function = rw z (names g 1 tt tt)

  pub loop_few : {c : ℕ} → c ≡ field b i f 1 → (c ≡ 3 → ⊥) → false ≡ whole (expr_of b i r)
  unfolding whole as_expr
  loop_few q h = sym (ap whole (made g) ∙ rw (← z) (loops_three _ (takes (fun_of b i f)) _ _ _ _ (λ e. h (q ∙ sym (takes_length b i f (field b i f 1) 2) ∙ ap length (sym (takes_are loop_function)) ∙ e))))

  pub loop_power : {w : ℕ} → w ≡ field b i r 2 → T (among powers w)
  unfolding in_range
  loop_power o = rw o (power_among 1 16 _ (ranged g 2 tt))

-- what is read of a loop whose function takes three: the width w, the types of the accumulator a, the context x and the counter y
pub record Looping (b i : List ℕ) (r t f w a x y : ℕ) : Type 0 where
  pub tests : Tests (whole (expr_of b i r)) (same (type_of b i y) (word_type w) ∷ same (type_is (expr_of b i (field b i r 3))) (type_of b i a) ∷ same (type_is (expr_of b i (field b i r 4))) (type_of b i x) ∷ is_at (side_is TS 1 (type_of b i t)) (type_of b i a) ∷ same (type_of b i (field b i f 0)) (type_of b i t) ∷ [])
  pub accumulator : Stands b i a TYPE
  pub context : Stands b i x TYPE
  pub counter : Stands b i y TYPE

pub looping : {b i : List ℕ} {r t f c w a x y : ℕ} → Declares b i r CW t → f ≡ field b i r 1 → c ≡ field b i f 1 → c ≡ 3 → w ≡ field b i r 2 → a ≡ field b i f 3 → x ≡ field b i f 5 → y ≡ field b i f 7 → Looping b i r t f w a x y
unfolding whole as_expr loops takes_at group
looping g z n e o p q u =
    let s = loop_function g z in
    record {
      tests = record { is = ap whole (made g) ∙ rw (← z, ← g.is, takes_are s, ← n, e, gives_is s, o, p, q, u) };
      accumulator = param_at s 0 n (omega arith) p;
      context = param_at s 1 n (omega arith) q;
      counter = param_at s 2 n (omega arith) u;
    }

-- powers of two are not great
power_most : (x : ℕ) → T (among powers x) → x ≤ 256
power_most = every powers (λ x. x ≤ 256) (omega arith also omega arith also omega arith also omega arith also omega arith also omega arith also omega arith also omega arith also omega arith also tt)

-- the jets that a book names: how many arguments, each a word, and what they give
record Usual (j : ℕ) : Type 0 where
  some : 0 < (jet_of j).arguments
  word : T (among powers ((jet_of j).input / (jet_of j).arguments))
  result : T (among (0 ∷ 1 ∷ 9 ∷ []) (jet_of j).output)
  takes : jet_takes j ≡ replicate (jet_of j).arguments (word_type ((jet_of j).input / (jet_of j).arguments))
  gives : jet_gives j ≡ result_type (jet_of j).output

usual : (j : ℕ) → j ≤ 2 → Usual j
unfolding result_type power top_of halvings
usual zero h = record { some = omega arith; word = tt; result = tt; takes = refl; gives = refl }
usual (suc zero) h = record { some = omega arith; word = tt; result = tt; takes = refl; gives = refl }
usual (suc (suc zero)) h = record { some = omega arith; word = tt; result = tt; takes = refl; gives = refl }
usual (suc (suc (suc j))) h = absurd (omega arith)

-- a jet j, which q is
module _ {b i : List ℕ} {r t j : ℕ} (g : Declares b i r CJ t) (z : j ≡ field b i r 2) where
  pub jet_number : j ≤ 2
  unfolding in_range
  jet_number = rw z (leb→le (field b i r 2) 2 (ranged g 2 tt))

  module _ {q : Jet} (e : q ≡ jet_of j) where
    pub jet_some : 0 < q.arguments
    jet_some = rw e (usual j jet_number).some

    pub jet_word : T (among powers (q.input / q.arguments))
    jet_word = rw e (usual j jet_number).word

    pub jet_bits : q.input / q.arguments ≤ 256
    jet_bits = power_most (q.input / q.arguments) jet_word

    pub jet_result : T (among (0 ∷ 1 ∷ 9 ∷ []) q.output)
    jet_result = rw e (usual j jet_number).result

    -- as many arguments, each of them the word, and what it gives
    jet_whole : whole (expr_of b i r) ≡ both (same_all (types_at b i r 1 4 (field b i r 3)) (replicate q.arguments (word_type (q.input / q.arguments)))) (same (type_of b i t) (result_type q.output))
    unfolding whole as_expr
    jet_whole = ap whole (made g) ∙ rw (← z, ← g.is, types_at_lem b i r (field b i r 3) 4, e, (usual j jet_number).takes, (usual j jet_number).gives)

    pub jet_few : {n : ℕ} → n ≡ field b i r 3 → (n ≡ q.arguments → ⊥) → false ≡ whole (expr_of b i r)
    jet_few o h = sym (jet_whole ∙ rw (same_length _ _ (λ w. h (o ∙ sym (types_length b i r (field b i r 3) 1 4) ∙ w ∙ length-replicate q.arguments _))))

    pub jet_is : {n : ℕ} {p : Span} → n ≡ field b i r 3 → n ≡ q.arguments → Spanned b i r CJ p → Tests (whole (expr_of b i r)) (all_are (word_type (q.input / q.arguments)) (types_at b i r p.stride p.from p.count) ∷ same (type_of b i t) (result_type q.output) ∷ [])
    unfolding span_at
    jet_is o w s = record { is = jet_whole ∙ rw (s.is, same_replicate (word_type (q.input / q.arguments)) (types_at b i r 1 4 (field b i r 3)) q.arguments (types_length b i r (field b i r 3) 1 4 ∙ sym o ∙ w)) }

-- what a jet gives is unit, a bit, or a carry beside a word
pub result_unit : {bits : ℕ} (t : Ty) → bits ≡ 0 → same t one ≡ same t (result_type bits)
unfolding result_type
result_unit t e = rw e

pub result_bit : {bits : ℕ} (t : Ty) → bits ≡ 1 → same t two ≡ same t (result_type bits)
unfolding result_type
result_bit t e = rw e

pub result_power : (bits : ℕ) → T (among (0 ∷ 1 ∷ 9 ∷ []) bits) → among (0 ∷ 1 ∷ []) bits ≡ false → T (among powers (bits - 1))
result_power = every (0 ∷ 1 ∷ 9 ∷ []) (λ k. among (0 ∷ 1 ∷ []) k ≡ false → T (among powers (k - 1))) ((λ p. absurd (true_false p)) also (λ p. absurd (true_false p)) also (λ p. tt) also tt)

pub result_rest : (t : Ty) (bits : ℕ) → T (among (0 ∷ 1 ∷ 9 ∷ []) bits) → among (0 ∷ 1 ∷ []) bits ≡ false → same t (product two (word_type (bits - 1))) ≡ same t (result_type bits)
unfolding result_type
result_rest t = every (0 ∷ 1 ∷ 9 ∷ []) (λ k. among (0 ∷ 1 ∷ []) k ≡ false → same t (product two (word_type (k - 1))) ≡ same t (result_type k)) ((λ p. absurd (true_false p)) also (λ p. absurd (true_false p)) also (λ p. refl) also tt)
