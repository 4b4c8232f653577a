-- What RUN answers, and the published meaning of the term that its node table unfolds to.
-- Assumes nothing.
use Rattle.std.specs.declared.result.Result as results
use Rattle.std.specs.declared.result.Result.TheVariants.{Ok, Err}
use Prim.Native.Nat.{ℕ, ◌-◌}
use mathlib.Core.List.{List, []}
use mathlib.Core.Logic.{◌⊎◌, inl, inr}
use mathlib.Core.Path.{◌≡◌, refl, sym, ap, ◌∙◌}
use native.Mathlib.Nat.{le_refl}
use native.Mathlib.Omega.{arith}
use lib.ListN.{replicate}
use Rattle.simplicity.specs.Values.{Value, unit}
use Rattle.simplicity.specs.Outcomes.{Outcome, value, failed, stuck, missing}
use Rattle.book.specs.Faults.{fault_number}
use Rattle.book.specs.Read.{read_of, index_of}
use Rattle.book.specs.Valid.{Valid}
use Rattle.book.specs.declared.fault.Fault.{Fault}
use Rattle.book.specs.declared.fault.Fault.TheVariants.{Steep, Witness, Cells, Stuck, Jet}
use Rattle.book.specs.declared.fault.Refusal.{Refusal}
use Rattle.book.proofs.Established.{answer_valid}
use Rattle.book.specs.Text.{Text, text}
use Rattle.nodes.specs.Given.{Given, given}
use Rattle.nodes.specs.Nodes.{Judged, judge}
use Rattle.cells.specs.Cells.{world, fails, refuses, Out, got, halt, bind}
use Rattle.machine.specs.Run.{DEEP, run}
use Rattle.run.specs.Whole.{seeds, ended, Result, refused, result_of, after_check, after_read, resulting, answer_of, cells_of, run_of, table_of}
use Rattle.agreement.specs.Unfold.{value_at}
use Rattle.agreement.specs.Agreement.{meaning_of, Says, says_steep, says_witness, says_cells, says_stuck, says_jet, Tells, tells_value, tells_failed, tells_refused, RefusedFor, Short}
use Rattle.run.specs.Whole.{RunAnswer}
use Rattle.run.specs.declared.Outcome.TheVariants as outcomes
use Rattle.agreement.proofs.Reading.{value_back}
use Rattle.agreement.proofs.Unfolding.{judged, unfolds_at}
use Rattle.agreement.proofs.Seeding.{Seeded, seeded}
use Rattle.agreement.proofs.Agree.{Agrees, agrees_add, agree}

tells : (b : Text) (o : Out) (q : Outcome) → Agrees b [] o q → Tells (result_of o) q
tells b (got s x w) q h = rw (h.1, ← value_back w.table h.2.reads) tells_value
tells b (halt s fails n) q h = rw h tells_failed
tells b (halt s (refuses f) n) q h = tells_refused h

module _ (g : Given) (c m : ℕ) (valid : Valid g.book.bytes g.book.index g.book.records) (well : judge g.book g.nodes c ≡ Ok tt) where
  -- after the initial cells
  begun : (o : Out) → Seeded g.book g.book.records o → Agrees g.book [] (bind o (λ v. run DEEP g (c - 1) 0)) (meaning_of g c)
  unfolding bind meaning_of
  begun (got s x w) h =
      let j = judged g.book g.nodes c well in
      agrees_add g.book [] s (run DEEP g (c - 1) 0 w) _ (agree g valid DEEP (unfolds_at g c j.1 (c - 1) (omega (arith, j.0))) 0 w unit [] h.0.first h.0)
  begun (halt s e n) h = rw h says_cells

  -- THE MEANING: the result of a run of a checked table over a valid book tells the published meaning of its last node's term on the unit
  pub means : Tells (result_of (ended g c m)) (meaning_of g c)
  unfolding ended
  means = tells g.book (ended g c m) (meaning_of g c) (begun (seeds g.book g.book.records (world 0 (replicate m 0) [])) (seeded g.book valid m g.book.records (le_refl g.book.records)))

-- the published meaning of a call over a book of n records: of the last of c nodes on the unit
abbrev pub meant : List ℕ → List ℕ → List ℕ → ℕ → ℕ → Outcome
meant b ws ns c n = meaning_of (given (text b (index_of b) n) ws ns) c

-- READ accepts the book, which has n records, and the check accepts the table of c nodes
pub record Accepts (b ns : List ℕ) (c n : ℕ) : Type 0 where
  pub read : read_of b ≡ Ok n
  pub well : judge (text b (index_of b) n) ns c ≡ Ok tt

-- an answer beside its cells, and the meaning that came out: its value, read back; its failure; its being stuck; what is missing
abbrev pub ComesOut : RunAnswer → List ℕ → Outcome → Type 0
ComesOut a t (value x) = (v : ℕ) × (u : ℕ) × (a ≡ Ok (outcomes.Value v u)) × (value_at t v ≡ x)
ComesOut a t failed = a ≡ Ok outcomes.Failed
ComesOut a t stuck = RefusedFor Stuck a
ComesOut a t missing = RefusedFor Witness a ⊎ RefusedFor Jet a

-- what a refusal says of a meaning
abbrev Said : Fault → Outcome → Type 0
Said f o = ((f ≡ Steep) ⊎ (f ≡ Cells)) ⊎ (((f ≡ Stuck) × (o ≡ stuck)) ⊎ (((f ≡ Witness) ⊎ (f ≡ Jet)) × (o ≡ missing)))

said : {f : Fault} {o : Outcome} → Says f o → Said f o
said says_steep = inl (inl refl)
said says_witness = inr (inr (inl refl, refl))
said says_cells = inl (inr refl)
said says_stuck = inr (inl (refl, refl))
said says_jet = inr (inr (inr refl, refl))

-- a result that tells a meaning: it came out, unless the run was short of depth or cells
comes : (m : ℕ) {r : Result} {o : Outcome} → Tells r o → ComesOut (answer_of r) (cells_of m r) o ⊎ Short (answer_of r)
comes m (tells_value {v} {u} {t}) = inl (v, u, refl, refl)
comes m tells_failed = inl refl
comes m (tells_refused {w} {o} s) = go (said s)
  where
    go : Said w.fault o → ComesOut (Err w) (cells_of m (refused w)) o ⊎ Short (Err w)
    go (inl (inl f)) = inr (inl (w, refl, f))
    go (inl (inr f)) = inr (inr (w, refl, f))
    go (inr (inl h)) = inl (rw h.1 (w, refl, h.0))
    go (inr (inr (inl f, e))) = inl (rw e (inl (w, refl, f)))
    go (inr (inr (inr f, e))) = inl (rw e (inr (w, refl, f)))

-- an answer's form, by number
abbrev pub form_of : RunAnswer → ℕ
form_of (Ok (outcomes.Value v u)) = 0
form_of (Ok outcomes.Failed) = 1
form_of (Err w) = 2

value_of : (m : ℕ) {r : Result} {o : Outcome} → Tells r o → (v u : ℕ) → answer_of r ≡ Ok (outcomes.Value v u) → o ≡ value (value_at (cells_of m r) v)
value_of m (tells_value {v} {u} {t}) v' u' e = let z : v ≡ v' = cc in rw z
value_of m tells_failed v u e = absurd (let z = ap form_of e in omega arith)
value_of m (tells_refused s) v u e = absurd (let z = ap form_of e in omega arith)

failed_of : {r : Result} {o : Outcome} → Tells r o → answer_of r ≡ Ok outcomes.Failed → o ≡ failed
failed_of tells_value e = absurd (let z = ap form_of e in omega arith)
failed_of tells_failed e = refl
failed_of (tells_refused s) e = absurd (let z = ap form_of e in omega arith)

stuck_said : (f : Fault) (o : Outcome) → f ≡ Stuck → Said f o → o ≡ stuck
stuck_said f o e (inl (inl g)) = absurd (let z = ap fault_number (sym g ∙ e) in omega arith)
stuck_said f o e (inl (inr g)) = absurd (let z = ap fault_number (sym g ∙ e) in omega arith)
stuck_said f o e (inr (inl h)) = h.1
stuck_said f o e (inr (inr (inl g, h))) = absurd (let z = ap fault_number (sym g ∙ e) in omega arith)
stuck_said f o e (inr (inr (inr g, h))) = absurd (let z = ap fault_number (sym g ∙ e) in omega arith)

stuck_of : {r : Result} {o : Outcome} → Tells r o → RefusedFor Stuck (answer_of r) → o ≡ stuck
stuck_of tells_value h = absurd (let z = ap form_of h.1 in omega arith)
stuck_of tells_failed h = absurd (let z = ap form_of h.1 in omega arith)
stuck_of (tells_refused {w} {o} s) h = let z : w ≡ h.0 = cc in stuck_said w.fault o (rw z h.2) (said s)

module _ (b ws ns : List ℕ) (c m : ℕ) where
  -- the same over bytes, for every list of them
  pub told : (n : ℕ) → Accepts b ns c n → Tells (resulting b ws ns c m) (meant b ws ns c n)
  unfolding resulting
  told n a = rw (resulting, a.read, a.well) (means (given (text b (index_of b) n) ws ns) c m (answer_valid b n a.read) a.well)

  -- what is not refused was accepted
  went : ((w : Refusal) → run_of b ws ns c m ≡ Err w → ⊥) → (n : ℕ) × Accepts b ns c n
  unfolding run_of resulting
  went = go (read_of b) refl
    where
      check : (n : ℕ) → read_of b ≡ Ok n → (j : Judged) → judge (text b (index_of b) n) ns c ≡ j
          → ((w : Refusal) → answer_of (after_check j (given (text b (index_of b) n) ws ns) c m) ≡ Err w → ⊥) → (n : ℕ) × Accepts b ns c n
      check n r (Ok x) e h = (n, record { read = r; well = e })
      check n r (Err p) e h = absurd (h _ refl)

      go : (a : results.Result ℕ Refusal) → read_of b ≡ a
          → ((w : Refusal) → answer_of (elim a [ Ok n ↦ after_read (given (text b (index_of b) n) ws ns) c m | Err w ↦ refused w ]) ≡ Err w → ⊥) → (n : ℕ) × Accepts b ns c n
      go (Ok n) r h = check n r (judge (text b (index_of b) n) ns c) refl h
      go (Err w) r h = absurd (h w refl)

  -- a value that RUN answers is the meaning's, read back from the cells
  pub value_meant : (v u : ℕ) → run_of b ws ns c m ≡ Ok (outcomes.Value v u) → (n : ℕ) × Accepts b ns c n × (meant b ws ns c n ≡ value (value_at (table_of b ws ns c m) v))
  unfolding run_of table_of
  value_meant v u e =
      let a = went (λ w z. absurd (let y = ap form_of (sym e ∙ z) in omega arith)) in
      (a.0, a.1, value_of m (told a.0 a.1) v u e)

  -- a failure that RUN answers is the meaning's
  pub failed_meant : run_of b ws ns c m ≡ Ok outcomes.Failed → (n : ℕ) × Accepts b ns c n × (meant b ws ns c n ≡ failed)
  unfolding run_of
  failed_meant e =
      let a = went (λ w z. absurd (let y = ap form_of (sym e ∙ z) in omega arith)) in
      (a.0, a.1, failed_of (told a.0 a.1) e)

  module _ (n : ℕ) (a : Accepts b ns c n) where
    -- RUN is refused with STUCK only where the meaning is stuck
    pub stuck_meant : RefusedFor Stuck (run_of b ws ns c m) → meant b ws ns c n ≡ stuck
    unfolding run_of
    stuck_meant = stuck_of (told n a)

    -- whatever the meaning is comes out, unless the run is refused for depth or cells
    pub comes_out : ComesOut (run_of b ws ns c m) (table_of b ws ns c m) (meant b ws ns c n) ⊎ Short (run_of b ws ns c m)
    unfolding run_of table_of
    comes_out = comes m (told n a)

    -- so does a value, a failure, being stuck, what is missing
    pub value_comes : (x : Value) → meant b ws ns c n ≡ value x → ((v : ℕ) × (u : ℕ) × (run_of b ws ns c m ≡ Ok (outcomes.Value v u)) × (value_at (table_of b ws ns c m) v ≡ x)) ⊎ Short (run_of b ws ns c m)
    value_comes x e = rw e at comes_out

    pub failed_comes : meant b ws ns c n ≡ failed → (run_of b ws ns c m ≡ Ok outcomes.Failed) ⊎ Short (run_of b ws ns c m)
    failed_comes e = rw e at comes_out

    pub stuck_comes : meant b ws ns c n ≡ stuck → RefusedFor Stuck (run_of b ws ns c m) ⊎ Short (run_of b ws ns c m)
    stuck_comes e = rw e at comes_out

    pub missing_comes : meant b ws ns c n ≡ missing → (RefusedFor Witness (run_of b ws ns c m) ⊎ RefusedFor Jet (run_of b ws ns c m)) ⊎ Short (run_of b ws ns c m)
    missing_comes e = rw e at comes_out
