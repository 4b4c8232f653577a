-- READ's loop: what is left of the book answers for it all.
-- Assumes nothing.
use Rattle.std.specs.declared.result.Result.{Result}
use Rattle.std.specs.declared.result.Result.TheVariants.{Ok, Err}
use Prim.Native.Nat.{ℕ, suc, ◌+◌, ◌-◌, ◌≤◌, ◌<◌}
use mathlib.Core.Path.{◌≡◌, refl, sym, ap, subst, ◌∙◌}
use mathlib.Core.Bool.{true, false}
use mathlib.Core.List.{List}
use native.Mathlib.Omega.{arith}
use lib.Dec.{T, ltb, ltb→lt}
use lib.ListN.{length, replicate}
use Rattle.std.specs.Prelude.{Result, Ok, Err, MatchResult}
use Rattle.std.specs.Result.{IsErrAnd}
use Rattle.std.proofs.lemmas.Result.{err_from_is_err_and}
use Rattle.laws.specs.Table.{both, both_left, both_right}
use Rattle.book.specs.Faults.{refusal}
use Rattle.book.specs.Read.{State, state, on, stop, step, Outcome, done, refused, loose, records, start, sized, reading, answer_of, places_of, read_of, index_of}
use Rattle.book.specs.Ready.{Ready, Chained, Carried, moved_of, outcome_of}
use Rattle.book.specs.declared.fault.Fault.{Fault}
use Rattle.book.specs.declared.fault.Fault.TheVariants.{Records, Size}
use Rattle.book.specs.declared.fault.Refusal.{Refusal}
use Rattle.book.specs.declared.read.Reader.{Reader}
use Rattle.book.proofs.Course.{over, onward, halts, full}
use Rattle.book.proofs.Moves.{moves}

-- READ's state with these rows, at record r at p
abbrev pub comes : Reader → ℕ → ℕ → State
comes s p r = state p r s.index s.named s.depths

-- READ has come to record r at p with these rows, and what it will answer from here is o
pub record Going (b : List ℕ) (o : Outcome) (s : Reader) (p r : ℕ) : Type 0 where
  pub left : records (4096 - r) b (comes s p r) ≡ o
  pub ready : Ready b s.index s.named s.depths r
  pub chained : Chained b s r
  pub inside : p ≤ length b
  pub begun : 0 < p → 0 < r

module _ (b : List ℕ) (s : State) (r : ℕ) where
  pub none_more : s.place < length b → r ≡ 4096 → refused (refusal Records 4096) ≡ records (4096 - r) b s
  none_more h e = let q : 4096 - r ≡ 0 = omega arith in rw q (sym (full b s h))

  room : r < 4096 → 4096 - r ≡ suc (4096 - (r + 1))
  room l = omega arith

  pub stopped : s.place < length b → r < 4096 → (f : Fault) → stop f ≡ step b s → refused (refusal f s.number) ≡ records (4096 - r) b s
  stopped h l f e = rw (room l) (sym (halts b s _ f h (sym e)))

  pub gone_on : s.place < length b → r < 4096 → (t : State) → on t ≡ step b s → records (4096 - (r + 1)) b t ≡ records (4096 - r) b s
  gone_on h l t e = rw (room l) (sym (onward b s _ t h (sym e)))

  pub ended : length b ≤ s.place → loose b s 0 (s.number - 1) ≡ records (4096 - r) b s
  ended h = sym (over b s _ h)

-- a fault that gets its place: what the answer was before
pub ok_before : (Q : Fault → Refusal → Type 0) (v : Result ℕ Fault) (w : Result ℕ Refusal) → MatchResult v (λ x. w ≡ Ok x) (λ f. IsErrAnd w (Q f)) → (n : ℕ) → w ≡ Ok n → v ≡ Ok n
ok_before Q (Ok x) w h n e = let z : x ≡ n = cc in ap (λ (k : ℕ). Ok k) z
ok_before Q (Err f) w h n e = let p = err_from_is_err_and w h in let z = p.1 in cc

pub err_before : (Q : Fault → Refusal → Type 0) (v : Result ℕ Fault) (w : Result ℕ Refusal) → MatchResult v (λ x. w ≡ Ok x) (λ f. IsErrAnd w (Q f)) → (u : Refusal) → w ≡ Err u → (f : Fault) × (v ≡ Err f) × Q f u
err_before Q (Ok x) w h u e = cc
err_before Q (Err f) w h u e =
    let p = err_from_is_err_and w h in
    let q = p.1 in
    let z : p.0 ≡ u = cc in
    (f, refl, subst (λ (k : Refusal). Q f k) z p.2)

-- the code's answer on a record, beside the rows that it left
module _ (b : List ℕ) (o : Outcome) (s : Reader) (p r : ℕ) (g : Going b o s p r) (h : p < length b) (l : r < 4096)
    (v : Result ℕ Fault) (t : Reader) (is : (moved_of v r t.index t.named t.depths ≡ step b (comes s p r)) × Carried v b t r) where
  pub going_bad : (f : Fault) → v ≡ Err f → refused (refusal f r) ≡ o
  going_bad f e = stopped b (comes s p r) r h l f (sym (ap (λ (u : Result ℕ Fault). moved_of u r t.index t.named t.depths) e) ∙ is.0) ∙ g.left

  module _ (e : ℕ) (at : v ≡ Ok e) where
    moved : on (comes t e (r + 1)) ≡ step b (comes s p r)
    moved = sym (ap (λ (u : Result ℕ Fault). moved_of u r t.index t.named t.depths) at) ∙ is.0

    pub going_further : p < e
    going_further = (moves b (comes s p r) (comes t e (r + 1)) g.ready l (sym moved)).further

    pub going_on_lem : Going b o t e (r + 1)
    going_on_lem =
        let w = moves b (comes s p r) (comes t e (r + 1)) g.ready l (sym moved) in
        record {
          left = gone_on b (comes s p r) r h l _ moved ∙ g.left;
          ready = w.ready;
          chained = subst (λ (u : Result ℕ Fault). Carried u b t r) at is.1;
          inside = w.inside;
          begun = λ z. omega arith;
        }

-- a book of a right size has 1 to 65,535 bytes
pub sized_is : (n : ℕ) → sized n ≡ true → (0 < n) × (n < 65536)
unfolding sized
sized_is n e =
    let t : T (both (ltb 0 n) (ltb n 65536)) = rw e tt in
    (ltb→lt 0 n (both_left (ltb 0 n) (ltb n 65536) t), ltb→lt n 65536 (both_right (ltb 0 n) (ltb n 65536) t))

-- what READ answers, and its index
abbrev Answers : List ℕ → Result ℕ Refusal → List ℕ → Type 0
Answers b v i = (v ≡ read_of b) × (i ≡ index_of b)

outcome_answers : (b : List ℕ) (o : Outcome) → reading b ≡ o → Answers b (answer_of o) (places_of o)
unfolding read_of index_of
outcome_answers b o e = (ap answer_of (sym e), ap places_of (sym e))

pub unsized_answers : (b : List ℕ) → sized (length b) ≡ false → Answers b (Err (refusal Size 0)) (replicate 4096 0)
unfolding reading
unsized_answers b e = outcome_answers b (refused (refusal Size 0)) (rw (reading, e))

module _ (b : List ℕ) (e : sized (length b) ≡ true) (v : Result ℕ Refusal) (i : List ℕ) (is : outcome_of v i ≡ records 4096 b start) where
  whole : (o : Outcome) → outcome_of v i ≡ o → Answers b (answer_of o) (places_of o)
  unfolding reading
  whole o q = outcome_answers b o (rw (reading, e) (sym is ∙ q))

  pub records_answer : (n : ℕ) → v ≡ Ok n → Answers b (Ok n) i
  records_answer n q = whole (done n i) (ap (λ (u : Result ℕ Refusal). outcome_of u i) q)

  pub refusal_answers : (w : Refusal) → v ≡ Err w → Answers b (Err w) (replicate 4096 0)
  refusal_answers w q = whole (refused w) (ap (λ (u : Result ℕ Refusal). outcome_of u i) q)
