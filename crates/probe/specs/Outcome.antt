-- READ's and CHECK's answers in numbers.
-- Assumes nothing.
use Rattle.std.specs.Prelude.{ℕ, Result, Ok, Err}
use Rattle.book.specs.Faults.{fault_number}
use Rattle.book.specs.declared.fault.Refusal.{Refusal}
use Rattle.probe.specs.declared.Outcome.{Outcome}

-- document 01, Refusals by number: a success is number 0 at place 0 with its count; a refusal has count 0
abbrev pub outcome_of : Result ℕ Refusal → Outcome
outcome_of (Ok n) = record { number = 0; place = 0; count = n }
outcome_of (Err w) = record { number = fault_number w.fault; place = w.place; count = 0 }
