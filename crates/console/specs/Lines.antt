-- What the programs print. A line's text ends in the byte 10.
-- Assumes nothing.
use Rattle.std.specs.Prelude.{ℕ, List, [], ◌∷◌, ◌++◌, codes, Result, Ok, Err}
use Rattle.std.specs.Fmt.{decimal}
use Rattle.book.specs.Faults.{fault_number}
use Rattle.book.specs.declared.fault.Refusal.{Refusal}

-- a word, a blank and a number, on a line of their own
abbrev pub count_line : List ℕ → ℕ → List ℕ
count_line word n = word ++ (codes " " ++ decimal n ++ 10 ∷ [])

-- `refused`, the fault's number, `at`, the place
abbrev pub refusal_line : Refusal → List ℕ
refusal_line why = codes "refused " ++ decimal (fault_number why.fault) ++ count_line (codes " at") why.place

-- an answer: a word and a count, or a refusal
abbrev pub answer_line : List ℕ → Result ℕ Refusal → List ℕ
answer_line word (Ok n) = count_line word n
answer_line word (Err why) = refusal_line why
