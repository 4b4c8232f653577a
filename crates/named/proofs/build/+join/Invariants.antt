-- `join` meets its contract: the left part, the right part, and then the node that joins them.
-- Assumes nothing.
use lib.ListN.{length}
use Rattle.named.proofs.build.+join.Given as goal

abbrev pub decreases-join : goal.decreases-join
decreases-join l = length l.row.now
