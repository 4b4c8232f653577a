-- What is printed of READ's answer.
-- Assumes nothing.
use Rattle.book.specs.declared.fault.Refusal.{Refusal}
use Rattle.std.specs.Prelude.{ℕ, List, codes, Result}
use Rattle.console.specs.Lines.{answer_line}

abbrev pub shown : Result ℕ Refusal → List ℕ
shown = answer_line (codes "records")
