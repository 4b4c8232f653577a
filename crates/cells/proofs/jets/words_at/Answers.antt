-- `words_at` meets its contract: no pair, or a half that is no word, or two words.
-- Assumes nothing.
use Rattle.cells.proofs.Words.{words_right}
use Rattle.cells.proofs.jets.words_at.Goals as goal

pub returns-in_err-b : goal.returns-in_err-b
returns-in_err-b c =
    rw c.from_residual-in_err-b.ensures
    (words_right _ c.kind_at.ensures c.if-kind_at-ne-PAIR.false c.left_at.ensures c.word_at.ensures c.right_at.ensures c.word_at-2.ensures c.in_ok-a.was c.in_err-b.was)
