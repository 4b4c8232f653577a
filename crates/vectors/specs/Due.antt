-- An answer held against the one that is due.
-- Assumes nothing.
use Rattle.std.specs.Prelude.{ℕ, Bool, ◌==◌, ◌&&◌, Result, Ok, Err}
use Rattle.book.specs.Faults.{fault_number}
use Rattle.book.specs.declared.fault.Numbers.{Numbers}
use Rattle.book.specs.declared.fault.Refusal.{Refusal}

-- a success is due by number 0 and its count, a refusal by its number and its place
abbrev pub is_due : Result ℕ Refusal → Numbers → Bool
is_due (Ok n) due = (due.number == 0) && (due.count == n)
is_due (Err why) due = (due.number == fault_number why.fault) && (due.place == why.place)
