-- What RUN's result says of the published meaning: of the term that the node table unfolds to, on the unit.
-- Assumes nothing.
use Rattle.std.specs.Prelude.{ℕ, ◌+◌, ◌*◌, ◌-◌, List, ◌⊎◌, ◌≡◌, length, ltb, Err}
use Rattle.laws.specs.Table.{pick, both}
use Rattle.simplicity.specs.Types.{same}
use Rattle.simplicity.specs.Values as values
use Rattle.simplicity.specs.Outcomes.{Outcome, value, failed, stuck, missing}
use Rattle.simplicity.specs.Meaning.{Witnesses, eval}
use Rattle.book.specs.Format.{VALUE}
use Rattle.book.specs.Tree.{value_of, declared_of}
use Rattle.book.specs.declared.fault.Fault.{Fault}
use Rattle.book.specs.declared.fault.Fault.TheVariants.{Steep, Witness, Cells, Stuck, Jet}
use Rattle.book.specs.declared.fault.Refusal.{Refusal}
use Rattle.book.specs.Text.{Text}
use Rattle.nodes.specs.Given.{Given, holds, entry_of}
use Rattle.run.specs.Whole.{Result, valued, failing, refused}
use Rattle.run.specs.Whole.{RunAnswer}
use Rattle.agreement.specs.Unfold.{term_at, value_at}

-- document 01, CHECK and the meanings: the witness of name x and type a is the value record that the name's entry says, if it is there and of that type
unfoldable pub witnesses_of : Text → List ℕ → Witnesses
witnesses_of b ws x a =
    pick (both (ltb (2 * x + 1) (length ws)) (both (holds b VALUE (entry_of ws x)) (same (declared_of b.bytes b.index (entry_of ws x)) a)))
    (value (value_of b.bytes b.index (entry_of ws x)))
    missing

-- the published meaning of a table of c nodes: its last node as a term, on the unit
unfoldable pub meaning_of : Given → ℕ → Outcome
meaning_of g c = eval (witnesses_of g.book g.witnesses) (term_at g (c - 1)) values.unit

-- a refusal and the meanings that it may stand for: stuck, or what is missing; of a run that was too deep or short of cells nothing is said
pub data Says : Fault → Outcome → Type 0 where
  says_steep : {o : Outcome} → Says Steep o
  says_witness : Says Witness missing
  says_cells : {o : Outcome} → Says Cells o
  says_stuck : Says Stuck stuck
  says_jet : Says Jet missing

-- a result and the meaning that it tells: the value that is read back from the cells, the failure, or the refusal's
pub data Tells : Result → Outcome → Type 0 where
  tells_value : {v u : ℕ} {t : List ℕ} → Tells (valued v u t) (value (value_at t v))
  tells_failed : Tells failing failed
  tells_refused : {w : Refusal} {o : Outcome} → Says w.fault o → Tells (refused w) o

-- document 01, Refusals 16 and 18: an answer that is a refusal with this fault; one for want of depth or cells
abbrev pub RefusedFor : Fault → RunAnswer → Type 0
RefusedFor f a = (w : Refusal) × (a ≡ Err w) × (w.fault ≡ f)

abbrev pub Short : RunAnswer → Type 0
Short a = RefusedFor Steep a ⊎ RefusedFor Cells a
