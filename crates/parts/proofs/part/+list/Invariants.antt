-- `list` meets its contract: the first block, and then the rest at half the bound.
-- Assumes nothing.
use Rattle.parts.proofs.part.+list.Given as goal

abbrev pub decreases-list : goal.decreases-list
decreases-list l = l.half
