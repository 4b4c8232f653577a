-- `at` of twice a width meets its contract: no pair, or a half that is no word, or two halves.
-- Assumes nothing.
use Rattle.cells.proofs.Words.{word_none, word_both}
use Rattle.cells.proofs.jets.TwiceWidth.at.Goals as goal

pub returns-then-kind_at-ne-PAIR : goal.returns-then-kind_at-ne-PAIR
returns-then-kind_at-ne-PAIR g c = word_none c.kind_at.ensures g.H.Width.k c.if-kind_at-ne-PAIR.true

pub returns : goal.returns
returns g c =
    word_both c.kind_at.ensures g.H.Width.k c.if-kind_at-ne-PAIR.false c.left_at.ensures c.at.ensures c.right_at.ensures c.at-2.ensures c.in_ok-high.was c.in_ok-low.was c.span.ensures
