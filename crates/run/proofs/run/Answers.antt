-- `run` meets its contract: READ, the check, the initial cells, the machine.
-- Assumes nothing.
use Rattle.std.proofs.lemmas.Result.{err_from_is_err_and}
use mathlib.Core.Path.{sym, ◌∙◌}
use lib.ListN.{length}
use Rattle.run.proofs.Ends.{book_valid, whole_read, whole_refused}
use Rattle.run.proofs.run.Goals as goal

pub run_read-requires-clause-valid : goal.run_read-requires-clause-valid
run_read-requires-clause-valid c =
    rw c.new-book.ensures (book_valid (sym c.index_book-indexed.ensures.0 ∙ c.in_ok-records.was) c.index_book-indexed.ensures.1)

pub returns : goal.returns
returns c =
    whole_read _ _ _ _ (length c.args.cells.now) c.index_book-indexed.ensures.0 c.in_ok-records.was c.index_book-indexed.ensures.1 c.clear.ensures (rw c.new-book.ensures at c.run_read.ensures)

pub returns-in_err-records : goal.returns-in_err-records
returns-in_err-records c =
    let p = err_from_is_err_and c.from_residual.result c.from_residual.ensures.1 in rw (p.1, p.2) (whole_refused _ _ _ _ (length c.args.cells.now) c.index_book-indexed.ensures.0 c.in_err-records.was c.clear.ensures)
