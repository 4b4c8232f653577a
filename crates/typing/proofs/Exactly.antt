-- CHECK passes exactly the typed books.
-- Assumes nothing.
use Rattle.book.specs.declared.fault.Refusal.{Refusal}
use Rattle.std.specs.declared.result.Result.{Result}
use Rattle.std.specs.declared.result.Result.TheVariants.{Ok, Err}
use Prim.Native.Nat.{ℕ, zero, suc, ◌+◌, ◌-◌, ◌≤◌, ◌<◌}
use mathlib.Core.Bool.{Bool, true, false}
use mathlib.Core.List.{List}
use mathlib.Core.Path.{◌≡◌, refl, ap, ◌∙◌}
use mathlib.Core.Logic.{⊎_elim}
use native.Mathlib.Nat.{eq-or-lt_of_le}
use native.Mathlib.Omega.{arith}
use borrow.Author.Tests.{eq-eqb, eqb-true}
use lib.Dec.{eqb}
use Rattle.std.specs.Prelude.{Ok, Err}
use Rattle.laws.specs.Table.{pick}
use Rattle.book.specs.Format.{VALUE, FUNCTION}
use Rattle.book.specs.Index.{kind}
use Rattle.book.specs.Read.{read_of, index_of}
use Rattle.book.specs.Tree.{expr_of, fun_of}
use Rattle.book.proofs.Established.{answer_valid}
use Rattle.shapes.specs.Wholes.{value_agrees}
use Rattle.binders.specs.Binders.{root_scope}
use Rattle.typing.specs.Check.{Checked, check_fun}
use Rattle.typing.specs.Whole.{in_order, value_at, function_at, checking, answer_of, check_of}
use Rattle.typing.specs.Typed.{TypedBook}
use Rattle.typing.proofs.Earlier.{read_stands}
use Rattle.typing.proofs.Passing.{both_pass, holds_pass, typed_passes, fun_passes}
use Rattle.typing.proofs.Valued.{values_good}
use Rattle.typing.proofs.Judging.{passed_holds}
use Rattle.typing.proofs.Deepening.{passed_both, passed_typed, passed_funs}

-- what is judged in order passes if each passes, and then each does
module _ (f : ℕ → Checked) where
  order_passes : (r left : ℕ) → ((k : ℕ) → k < r + left → f k ≡ Ok tt) → in_order f r left ≡ Ok tt
  unfolding in_order
  order_passes r zero h = refl
  order_passes r (suc left) h = both_pass (h r (omega arith)) (order_passes (suc r) left (λ k o. h k (omega arith)))

  passed_order : (r left : ℕ) → in_order f r left ≡ Ok tt → (k : ℕ) → r ≤ k → k < r + left → f k ≡ Ok tt
  unfolding in_order
  passed_order r zero h k o l = absurd (omega arith)
  passed_order r (suc left) h k o l =
      let p = passed_both (f r) (in_order f (suc r) left) h in
      ⊎_elim (λ (e : r ≡ k). rw (← e) p.0) (λ (u : r < k). passed_order (suc r) left p.1 k u (omega arith)) (eq-or-lt_of_le o)

-- a judgement of the records of one kind
kind_passes : (kd w : ℕ) {v : Checked} → (kd ≡ w → v ≡ Ok tt) → pick (eqb kd w) v (Ok tt) ≡ Ok tt
kind_passes kd w {v} h = go (eqb kd w) refl
  where
    go : (t : Bool) → eqb kd w ≡ t → pick t v (Ok tt) ≡ Ok tt
    go true e = h (eqb-true kd w e)
    go false e = refl

passed_kind : (kd w : ℕ) (v : Checked) → pick (eqb kd w) v (Ok tt) ≡ Ok tt → kd ≡ w → v ≡ Ok tt
passed_kind kd w v h e = rw (eq-eqb kd w e) at h

-- the records of a book that READ accepts
module _ (b : List ℕ) (n : ℕ) (e : read_of b ≡ Ok n) where
  abbrev i : List ℕ
  i = index_of b

  -- the judgement of them passes if they are typed
  checking_passes : TypedBook b n → checking b i n ≡ Ok tt
  unfolding checking value_at function_at
  checking_passes t =
      both_pass (order_passes (value_at b i) 0 n (λ r o. kind_passes (kind b i r) VALUE (λ k. holds_pass _ r (t.values r (omega arith) k))))
      (both_pass (order_passes (function_at b i) 0 n (λ r o. kind_passes (kind b i r) FUNCTION (λ k. fun_passes (fun_of b i r) (t.functions r (omega arith) k))))
      (typed_passes (expr_of b i (n - 1)) root_scope t.root))

  -- and if it passes they are
  passed_checking : checking b i n ≡ Ok tt → TypedBook b n
  unfolding checking value_at function_at
  passed_checking h =
      let v = answer_valid b n e in
      let p = passed_both (in_order (value_at b i) 0 n) _ h in
      let q = passed_both (in_order (function_at b i) 0 n) _ p.1 in
      let agrees : (r : ℕ) → r < n → kind b i r ≡ VALUE → value_agrees b i r ≡ true = λ r o k. passed_holds _ _ r (passed_kind (kind b i r) VALUE _ (passed_order (value_at b i) 0 n p.0 r (omega arith) (omega arith)) k) in
      let judged : (g : ℕ) → g < n → kind b i g ≡ FUNCTION → check_fun (fun_of b i g) ≡ Ok tt = λ g o k. passed_kind (kind b i g) FUNCTION _ (passed_order (function_at b i) 0 n q.0 g (omega arith) (omega arith)) k in
      let good = values_good n (λ r o s. agrees r o s.is) in
      let typed = passed_funs n good (λ g o s. judged g o s.is) in
      record {
        reads = e;
        values = agrees;
        functions = λ r o k. typed r o (read_stands e r o k);
        root = passed_typed (read_stands e (n - 1) (omega (arith, v.some)) v.root) (λ r o. good r (omega arith)) (λ g o. typed g (omega arith)) root_scope q.1;
      }

-- an answer that is a number of records is that of a pass
passed_answer : (k n : ℕ) (v : Checked) → answer_of k v ≡ Ok n → (k ≡ n) × (v ≡ Ok tt)
unfolding answer_of
passed_answer k n (Ok u) e = (cc, refl)
passed_answer k n (Err w) e = absurd (let z : ◌≡◌ {A = ℕ} 0 1 = cc in omega arith)

-- what CHECK answers after READ's answer
abbrev after_read : List ℕ → Result ℕ Refusal → Result ℕ Refusal
after_read b v = elim v [ Ok k ↦ answer_of k (checking b (index_of b) k) | Err w ↦ Err w ]

-- CHECK's answer is the number of records exactly where the book is typed
pub passes_exactly : (b : List ℕ) (n : ℕ) → (check_of b ≡ Ok n → TypedBook b n) × (TypedBook b n → check_of b ≡ Ok n)
unfolding check_of answer_of
passes_exactly b n = (go (read_of b) refl, λ t. ap (after_read b) t.reads ∙ ap (answer_of n) (checking_passes b n t.reads t))
  where
    go : (v : Result ℕ Refusal) → read_of b ≡ v → after_read b v ≡ Ok n → TypedBook b n
    go (Ok k) e h =
        let p = passed_answer k n (checking b (index_of b) k) h in
        passed_checking b n (e ∙ ap Ok p.0) (rw (← p.0) p.1)
    go (Err w) e h = absurd (let z : ◌≡◌ {A = ℕ} 0 1 = cc in omega arith)
