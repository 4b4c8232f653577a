-- `replay_books`: each turn judges a book, and leaves the closure as it was.
use Rattle.std.proofs.Common.{rules}
use Rattle.vectors.specs.Books.{BookTurn}
use Rattle.vectors.proofs.Books.{told_each, judged_turn}
use Rattle.vectors.proofs.replay_books.Goals as goal

pub returns : goal.returns
returns g c =
    let says = goal.F-post g c.args.is_right in
    let left = g.R.Read.remaining in
    told_each _ (BookTurn says) _ _ _ c.replay.result _ c.replay.ensures
    (λ p v q s. (judged_turn says s.0 s.2.due s.2.size p (left s.1.now) (left s.3.now) q.1 v s.4 s.5 s.6 s.8 (search rules), search rules))
