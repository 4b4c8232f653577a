-- Demand 3, over bytes: what the source means is what runs.
-- Assumes nothing.
use Rattle.std.specs.Prelude.{ℕ, ◌-◌, Bool, List, [], ◌⊎◌, ◌≡◌, Ok, Err}
use Rattle.simplicity.specs.Types.{Ty}
use Rattle.simplicity.specs.Values.{Value}
use Rattle.simplicity.specs.Outcomes.{Outcome, value, failed, missing}
use Rattle.simplicity.specs.Typing.{Good}
use Rattle.book.specs.Faults.{fault_number}
use Rattle.book.specs.Read.{index_of}
use Rattle.book.specs.Tree.{expr_of}
use Rattle.book.specs.declared.fault.Refusal.{Refusal}
use Rattle.compile.specs.Whole.{lower_of}
use Rattle.compile.specs.Whole as lowered
use Rattle.shapes.specs.Shapes.{type_is}
use Rattle.typing.specs.Whole.{check_of}
use Rattle.book.specs.Text.{text}
use Rattle.run.specs.Whole.{run_of}
use Rattle.run.specs.Whole as ran
use Rattle.run.specs.Whole.{RunAnswer}
use Rattle.run.specs.declared.Outcome.TheVariants as outcomes
use Rattle.agreement.specs.Unfold.{value_at}
use Rattle.agreement.specs.Agreement.{witnesses_of, Short}
use Rattle.meaning.specs.Source.{mean}
use Rattle.meaning.specs.Premises.{Supplied}

-- the source meaning of a book of n records with a witness list: its root, where no name is in scope; and the root's declared type
unfoldable pub source_of : List ℕ → ℕ → List ℕ → Outcome
source_of b n ws = mean (witnesses_of (text b (index_of b) n) ws) (expr_of b (index_of b) (n - 1)) []

unfoldable pub root_type : List ℕ → ℕ → Ty
root_type b n = type_is (expr_of b (index_of b) (n - 1))

-- RUN's answer a with its cells t, beside the source meaning o of a program of type d
pub record AsMeant (a : RunAnswer) (t : List ℕ) (o : Outcome) (d : Ty) : Type 0 where
  -- what is meant is a value of the declared type, or a failure
  pub good : Good o d
  -- a cell is answered only where its reading is the value that is meant, and FAILED only where a failure is
  pub value_is : (v u : ℕ) → a ≡ Ok (outcomes.Value v u) → o ≡ value (value_at t v)
  pub failed_is : a ≡ Ok outcomes.Failed → o ≡ failed
  -- the value that is meant is answered, and so is a failure, unless depth or cells are wanting
  pub value_comes : (x : Value) → o ≡ value x → ((v : ℕ) × (u : ℕ) × (a ≡ Ok (outcomes.Value v u)) × (value_at t v ≡ x)) ⊎ Short a
  pub failed_comes : o ≡ failed → (a ≡ Ok outcomes.Failed) ⊎ Short a
  -- no refusal but for want of depth or cells
  pub refused_is : (w : Refusal) → a ≡ Err w → (fault_number w.fault ≡ 16) ⊎ (fault_number w.fault ≡ 18)

-- a book b that CHECK passes; LOWER, with symbols or without (y), accepts it in a table of m bytes; each witness is supplied by ws;
-- no hash is reached; k bytes for cells: RUN on LOWER's table is as meant
abbrev pub Demand3 : Type 0
Demand3 = (b ws : List ℕ) (n m c k : ℕ) (y : Bool)
    → check_of b ≡ Ok n → lower_of b y m ≡ Ok c → Supplied b n ws → (source_of b n ws ≡ missing → ⊥)
    → AsMeant (run_of b ws (lowered.table_of b y m) c k) (ran.table_of b ws (lowered.table_of b y m) c k) (source_of b n ws) (root_type b n)
