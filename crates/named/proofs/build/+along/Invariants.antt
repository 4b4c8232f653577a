-- `along` meets its contract: one wrap more than for the part that the element is in.
-- Assumes nothing.
use Rattle.named.proofs.build.+along.Given as goal

abbrev pub decreases-along : goal.decreases-along
decreases-along l = l.n
