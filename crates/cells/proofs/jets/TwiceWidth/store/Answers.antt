-- `store` of twice a width meets its contract: its halves, and then their pair.
-- Assumes nothing.
use Rattle.cells.proofs.Words.{keep_halves}
use Rattle.cells.proofs.jets.TwiceWidth.store.Goals as goal

pub returns : goal.returns
returns g c =
    keep_halves _ g.H.Width.k c.span-half.ensures c.store-high.ensures c.store-low.ensures c.keep.ensures
