-- From the machine's end to the answer and the cells.
-- Assumes nothing.
use Rattle.std.specs.declared.result.Result.{Result}
use Rattle.std.specs.declared.result.Result.TheVariants.{Ok, Err}
use mathlib.Core.Path.{◌≡◌, refl, sym, ap, ◌∙◌}
use mathlib.Core.List.{List, []}
use mathlib.Core.Bool.{Bool, true, false}
use Prim.Native.Nat.{ℕ, ◌-◌, ◌≤◌, ◌<◌}
use native.Mathlib.Omega.{arith}
use lib.ListN.{length, length-replicate}
use lib.Dec.{eqb, ltb}
use borrow.Author.Tests.{eqb-false, ltb-false}
use Rattle.laws.specs.Table.{pick}
use Rattle.book.specs.Faults.{refusal}
use Rattle.book.specs.Read.{read_of, index_of}
use Rattle.book.specs.Valid.{Valid}
use Rattle.book.specs.declared.fault.Fault.TheVariants as faults
use Rattle.book.specs.declared.fault.Refusal.{Refusal}
use Rattle.book.proofs.Established.{answer_valid}
use Rattle.named.proofs.Images.{zeros}
use Rattle.machine.specs.declared.State.{State}
use Rattle.cells.specs.declared.table.Kept.{Kept}
use Rattle.run.specs.Whole.{RunAnswer}
use Rattle.book.specs.Text.{Text, text}
use Rattle.nodes.specs.Given.{Given, given}
use Rattle.nodes.specs.Nodes.{Judged, judge}
use Rattle.cells.specs.Cells.{world, fails, refuses, Out, got, halt, add, bind}
use Rattle.cells.specs.Keeping.{leads}
use Rattle.machine.specs.Run.{DEEP, run}
use Rattle.run.specs.Whole.{seeds, ended, result_of, after_read, resulting, answer_of, cells_of, run_of, table_of}
use Rattle.machine.specs.declared.Step.TheVariants.{Enter}
use Rattle.machine.specs.declared.Halt.{Halt}
use Rattle.machine.specs.declared.Frame.{Frame}
use Rattle.machine.specs.Machine.{frames, waiting, resume, over_at, going_on, future, Stopped}
use Rattle.std.specs.Prelude.{Result, Ok, Err}
use Rattle.run.specs.Calls.{Started, Answered}
use Rattle.cells.proofs.Outs.{bind_got}

-- nodes entered before change no result
result_add : (t : ℕ) (o : Out) → result_of (add t o) ≡ result_of o
unfolding add
result_add t (got s v w) = refl
result_add t (halt s fails n) = refl
result_add t (halt s (refuses f) n) = refl

-- THE MACHINE'S START: a node on a cell, no frame
pub machine_starts : (g : Given) (n u : ℕ) (t : List ℕ) (f : List Frame) {t' : List ℕ} {r : Result State Halt}
    → Stopped (future g t f (record { depth = 0; node = n; value = 0; used = u; step = Enter })) t' r → Stopped (run DEEP g n 0 (world u t [])) t' r
unfolding future going_on frames waiting resume
machine_starts g n u t f p = record { t = p.t; same = p.same }

-- THE RUN, after the initial cells
module _ (g : Given) (c : ℕ) {t t₁ : List ℕ} {p : Kept} (z : t ≡ zeros (length t)) (s : Started g.book g.book.records t p t₁) where
  ended_leads : ended g c (length t) ≡ bind (leads 0 t₁ [] p) (λ v. run DEEP g (c - 1) 0)
  unfolding ended
  ended_leads = ap (λ (o : Out). bind o (λ v. run DEEP g (c - 1) 0)) (ap (λ (x : List ℕ). seeds g.book g.book.records (world 0 x [])) (sym z) ∙ sym (s.same []))

  pub table_full : {t₂ : List ℕ} → p.full ≡ true → length t₁ ≡ length t → t₂ ≡ zeros (length t₁)
      → Answered (result_of (ended g c (length t))) (length t) (Err (refusal faults.Cells 0)) t₂
  unfolding leads bind
  table_full e l y = let q : ended g c (length t) ≡ halt 0 (refuses faults.Cells) 0 = ended_leads ∙ rw e in record { answer = rw q; table = rw q (rw l at y) }

  pub table_ran : {m : ℕ} {t₂ : List ℕ} {r : Result State Halt} {a : RunAnswer} {t₃ : List ℕ} → p.full ≡ false → Stopped (run DEEP g (c - 1) 0 (world p.used t₁ [])) t₂ r
      → m ≡ length t → Answered (result_of (over_at t₂ r)) m a t₃
      → Answered (result_of (ended g c (length t))) (length t) a t₃
  unfolding leads
  table_ran {t₂ = t₂} {r = r} e st l an =
      let q : ended g c (length t) ≡ add st.t (over_at t₂ r) = ended_leads ∙ rw e (bind_got p.cell (world p.used t₁ []) (λ v. run DEEP g (c - 1) 0) ∙ st.same) in
      record { answer = an.answer ∙ ap answer_of (sym (ap result_of q ∙ result_add st.t _)); table = rw l at an.table ∙ ap (cells_of (length t)) (sym (ap result_of q ∙ result_add st.t _)) }

-- AFTER READ: the check
-- a table that passed has a count in range
pub well_counts : {v : Judged} (b : Text) (ns : List ℕ) (c : ℕ) → v ≡ judge b ns c → v ≡ Ok tt → (0 < c) × (c ≤ 65535)
unfolding judge
well_counts b ns c e w = go _ (eqb c 0) (ltb 65535 c) refl refl (sym e ∙ w)
  where
    go : (x : Judged) (p q : Bool) → eqb c 0 ≡ p → ltb 65535 c ≡ q → pick p (Err 0) (pick q (Err 65535) x) ≡ Ok tt → (0 < c) × (c ≤ 65535)
    go x true q a d h = absurd (cc)
    go x false true a d h = absurd (cc)
    go x false false a d h = let z = eqb-false c 0 a in (omega (arith, z), ltb-false 65535 c d)

-- THE WHOLE CALL
pub book_valid : {b i : List ℕ} {n : ℕ} → read_of b ≡ Ok n → i ≡ index_of b → Valid b i n
book_valid {b} {n = n} e q = rw q (answer_valid b n e)

module _ (b ws ns : List ℕ) (c m : ℕ) {x : Result ℕ Refusal} {t : List ℕ} (p : x ≡ read_of b) where
  pub whole_refused : {w : Refusal} → x ≡ Err w → t ≡ zeros m → (Err w ≡ run_of b ws ns c m) × (t ≡ table_of b ws ns c m)
  unfolding run_of table_of resulting
  whole_refused e z = let q : read_of b ≡ Err _ = sym p ∙ e in (rw (q, resulting), rw (q, resulting) z)

  pub whole_read : {n : ℕ} {i : List ℕ} {a : RunAnswer} {t' : List ℕ} → x ≡ Ok n → i ≡ index_of b → t ≡ zeros m
      → Answered (after_read (given (text b i n) ws ns) c (length t)) (length t) a t' → (a ≡ run_of b ws ns c m) × (t' ≡ table_of b ws ns c m)
  unfolding run_of table_of resulting
  whole_read {n} {i} e j z h =
      let q : read_of b ≡ Ok n = sym p ∙ e in
      let l : length t ≡ m = ap length z ∙ length-replicate {A = ℕ} m 0 in
      (rw (q, resulting) (rw (j, l) at h.answer), rw (q, resulting) (rw (j, l) at h.table))
