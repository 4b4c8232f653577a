-- `lower` meets its contract: READ's refusal, or what the root comes to.
-- Assumes nothing.
use Rattle.std.proofs.lemmas.Result.{err_from_is_err_and}
use mathlib.Core.Path.{sym, ◌∙◌}
use Rattle.compile.proofs.Wholes.{some_records, root_stands_in, clear_length, whole_read, whole_refused}
use Rattle.compile.proofs.lower.Goals as goal

pub overflow_sub-records : goal.overflow_sub-records
overflow_sub-records c = some_records _ _ (sym c.index_book-indexed.ensures.0 ∙ c.in_ok-records.was)

pub lower_root-requires-clause-stands : goal.lower_root-requires-clause-stands
lower_root-requires-clause-stands c =
    rw c.new-book.ensures (root_stands_in _ _ (sym c.index_book-indexed.ensures.0 ∙ c.in_ok-records.was) c.index_book-indexed.ensures.1)

pub returns : goal.returns
returns c =
    whole_read _ _ _ c.index_book-indexed.ensures.0 _ c.index_book-indexed.ensures.1 c.in_ok-records.was (clear_length c.clear.ensures) (rw c.new-book.ensures at c.lower_root.ensures)

pub returns-in_err-records : goal.returns-in_err-records
returns-in_err-records c =
    let p = err_from_is_err_and c.from_residual.result c.from_residual.ensures.1 in rw (p.1, p.2) (whole_refused _ _ _ c.index_book-indexed.ensures.0 c.in_err-records.was c.clear.ensures)
