-- RUN: its answer and every byte of its cells, for every list of bytes and every number.
-- Assumes nothing.
use Rattle.std.specs.Prelude.{ℕ, zero, suc, ◌-◌, List, [], ◌∷◌, replicate, eqb, Ok, Err}
use Rattle.laws.specs.Table.{pick, at, choose}
use Rattle.book.specs.Format.{VALUE, VU, VL, VR}
use Rattle.book.specs.Index.{kind, mark, field}
use Rattle.book.specs.Read.{read_of, index_of}
use Rattle.book.specs.Faults.{refusal}
use Rattle.book.specs.declared.fault.Fault.TheVariants.{Nodes}
use Rattle.book.specs.declared.fault.Refusal.{Refusal}
use Rattle.book.specs.Text.{Text, text}
use Rattle.nodes.specs.Given.{Given, given, cell_of}
use Rattle.nodes.specs.Nodes.{Judged, judge}
use Rattle.cells.specs.Cells.{unit_cell, left_cell, right_cell, pair_cell, World, world, fails, refuses, Out, got, halt, bind, store}
use Rattle.machine.specs.Run.{DEEP, run}
use Rattle.std.specs.declared.result.Result as results
use Rattle.run.specs.declared.Outcome as ran
use Rattle.run.specs.declared.Outcome.TheVariants as outcomes

-- the cell of field k of record r, which names a value
abbrev pub part_of : Text → ℕ → ℕ → ℕ
part_of b r k = cell_of b (field b.bytes b.index r k)

-- a value record's cell, stored before the run
unfoldable pub seed : Text → ℕ → World → Out
seed b r =
    choose
    (at VU (store 0 unit_cell 0 0) ∷ at VL (store 0 left_cell (part_of b r 1) 0) ∷ at VR (store 0 right_cell (part_of b r 1) 0) ∷ [])
    (mark b.bytes b.index r)
    (store 0 pair_cell (part_of b r 1) (part_of b r 2))

-- record r's cell, if it is a value
abbrev pub seed_one : Text → ℕ → ℕ → World → Out
seed_one b r v w = pick (eqb (kind b.bytes b.index r) VALUE) (seed b r w) (got 0 v w)

-- document 01, CHECK and the meanings: cell 0 is unit; then one per value record, of the first n records
unfoldable pub seeds : Text → ℕ → World → Out
seeds b zero w = store 0 unit_cell 0 0 w
seeds b (suc n) w = bind (seeds b n w) (seed_one b n)

-- document 01, CHECK and the meanings: the last node on cell 0, after the initial cells, in a zero table of m bytes
unfoldable pub ended : Given → ℕ → ℕ → Out
ended g c m = bind (seeds g.book g.book.records (world 0 (replicate m 0) [])) (λ v. run DEEP g (c - 1) 0)

-- how a call ends: with a value's cell, the cells used and the table; with a failure; refused
pub data Result : Type 0 where
  valued : ℕ → ℕ → List ℕ → Result
  failing : Result
  refused : Refusal → Result

abbrev pub result_of : Out → Result
result_of (got t v w) = valued v w.used w.table
result_of (halt t fails n) = failing
result_of (halt t (refuses f) n) = refused (refusal f n)

-- document 01, CHECK and the meanings: the table's check comes before the initial cells
abbrev pub after_check : Judged → Given → ℕ → ℕ → Result
after_check (Ok x) g c m = result_of (ended g c m)
after_check (Err p) g c m = refused (refusal Nodes p)

abbrev pub after_read : Given → ℕ → ℕ → Result
after_read g c m = after_check (judge g.book g.nodes c) g c m

-- document 01, Refusals by number: READ's refusal comes first. The book b, the witness list ws, the node table ns with its count c, m bytes for cells
unfoldable pub resulting : List ℕ → List ℕ → List ℕ → ℕ → ℕ → Result
resulting b ws ns c m = elim (read_of b) [ Ok n ↦ after_read (given (text b (index_of b) n) ws ns) c m | Err w ↦ refused w ]

-- document 01, Refusals by number: a value's cell with the cells used, or FAILED; or a refusal
abbrev pub RunAnswer : Type 0
RunAnswer = results.Result ran.Outcome Refusal

abbrev pub answer_of : Result → RunAnswer
answer_of (valued v u t) = Ok (outcomes.Value v u)
answer_of failing = Ok outcomes.Failed
answer_of (refused w) = Err w

-- document 01, CHECK and the meanings: FAILED and a refusal leave a zero table of m bytes
abbrev pub cells_of : ℕ → Result → List ℕ
cells_of m (valued v u t) = t
cells_of m failing = replicate m 0
cells_of m (refused w) = replicate m 0

-- RUN's answer, and its cells
unfoldable pub run_of : List ℕ → List ℕ → List ℕ → ℕ → ℕ → RunAnswer
run_of b ws ns c m = answer_of (resulting b ws ns c m)

unfoldable pub table_of : List ℕ → List ℕ → List ℕ → ℕ → ℕ → List ℕ
table_of b ws ns c m = cells_of m (resulting b ws ns c m)
