-- `is_next_book_right`: the part that is read is as long as the book.
use Rattle.std.proofs.lemmas.List.{length-take-le}
use Rattle.vectors.proofs.Books.{judged_part}
use Rattle.vectors.proofs.is_next_book_right.Goals as goal

pub returns : goal.returns
returns g c =
    let left = g.R.Read.remaining in
    judged_part (goal.F-post g c.args.is_right.now) c.args.head.due c.args.head.size (left c.args.input.now) (left c.is_read_right.new.input) c.is_read_right.result _ c.is_read_right.ensures
    (length-take-le _ _ c.if-head-gt-ROOM.false)
