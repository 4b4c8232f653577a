-- LOWER's and RUN's answers as the host has them: numbers.
-- Assumes nothing.
use Rattle.book.specs.declared.fault.Refusal.{Refusal}
use Rattle.std.specs.Prelude.{ℕ, Bool, not, eqb, Result, Ok, Err}
use Rattle.book.specs.Faults.{fault_number}
use Rattle.run.specs.Whole.{RunAnswer}
use Rattle.run.specs.declared.Outcome.TheVariants as outcomes
use Rattle.host.specs.declared.LowerOutcome.{LowerOutcome}
use Rattle.host.specs.declared.RunOutcome.{RunOutcome}

-- the host's number for symbols: 0 is without, any other with
abbrev pub asked : ℕ → Bool
asked s = not (eqb s 0)

-- an answer in numbers
abbrev pub outcome : ℕ → ℕ → ℕ → LowerOutcome
outcome n p c = record { number = n; place = p; count = c }

-- document 01, Refusals by number: a success is number 0 at place 0 with its count; a refusal has count 0
abbrev pub outcome_of : Result ℕ Refusal → LowerOutcome
outcome_of (Ok n) = outcome 0 0 n
outcome_of (Err w) = outcome (fault_number w.fault) w.place 0

abbrev pub ran : ℕ → ℕ → ℕ → ℕ → RunOutcome
ran n p c v = record { number = n; place = p; count = c; cell = v }

-- document 01, Refusals by number: a value is number 0 at place 0 with the cells used and its cell; FAILED has count 0, and so has a refusal
abbrev pub ran_of : RunAnswer → RunOutcome
ran_of (Ok (outcomes.Value v u)) = ran 0 0 u v
ran_of (Ok outcomes.Failed) = ran 0 0 0 0
ran_of (Err w) = ran (fault_number w.fault) w.place 0 0
