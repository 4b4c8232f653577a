-- `check` meets its contract: READ's refusal, or what is judged of the records.
-- Assumes nothing.
use Rattle.std.proofs.lemmas.Result.{err_from_is_err_and}
use Rattle.typing.proofs.Orders.{book_valid, book_tiles, check_judged, read_refused}
use Rattle.typing.proofs.check.Goals as goal

pub records-requires : goal.records-requires
records-requires c =
    rw c.new-book.ensures (record { valid = book_valid _ c.index_book-indexed.ensures.0 _ c.index_book-indexed.ensures.1 c.in_ok-n.was; tiles = book_tiles _ c.index_book-indexed.ensures.0 _ c.index_book-indexed.ensures.1 c.in_ok-n.was })

pub returns : goal.returns
returns c =
    rw c.and.ensures (check_judged _ c.index_book-indexed.ensures.0 _ c.index_book-indexed.ensures.1 c.in_ok-n.was (rw c.new-book.ensures at c.records.ensures))

pub returns-in_err-n : goal.returns-in_err-n
returns-in_err-n c =
    let p = err_from_is_err_and c.from_residual.result c.from_residual.ensures.1 in rw (p.1, p.2) (read_refused _ c.index_book-indexed.ensures.0 c.in_err-n.was)
