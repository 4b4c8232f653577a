-- The refusals by number, and READ's answer.
-- Assumes nothing.
use Rattle.std.specs.Prelude.{ℕ, Result, Ok, Err}
use Rattle.book.specs.declared.fault.Fault.{Fault}
use Rattle.book.specs.declared.fault.Fault.TheVariants.{Size, Records, Cut, Mark, Number, Reference, Twice, Depth, Loose, Undefined, Room, Bindings, Ty, Name, Nodes, Steep, Witness, Cells, Stuck, Jet}
use Rattle.book.specs.declared.fault.Refusal.{Refusal}
use Rattle.book.specs.declared.fault.Numbers.{Numbers}

-- document 01, Refusals by number: each fault's number
abbrev pub fault_number : Fault → ℕ
fault_number Size = 1
fault_number Records = 2
fault_number Cut = 3
fault_number Mark = 4
fault_number Number = 5
fault_number Reference = 6
fault_number Twice = 7
fault_number Depth = 8
fault_number Loose = 9
fault_number Undefined = 10
fault_number Room = 11
fault_number Bindings = 12
fault_number Ty = 13
fault_number Name = 14
fault_number Nodes = 15
fault_number Steep = 16
fault_number Witness = 17
fault_number Cells = 18
fault_number Stuck = 19
fault_number Jet = 20

-- a refusal, with its place
abbrev pub refusal : Fault → ℕ → Refusal
refusal f p = record { fault = f; place = p }

-- an answer in numbers
abbrev pub numbers : ℕ → ℕ → ℕ → Numbers
numbers n p c = record { number = n; place = p; count = c }

-- document 01, Refusals by number: a success is number 0 at place 0 with its count; a refusal has count 0
abbrev pub numbers_of : Result ℕ Refusal → Numbers
numbers_of (Ok n) = numbers 0 0 n
numbers_of (Err w) = numbers (fault_number w.fault) w.place 0
