-- `add_tuple` meets its contract: the left part, the right part, and then both.
-- Assumes nothing.
use lib.ListN.{length}
use Rattle.builtins.proofs.raw_hash.+add_tuple.Given as goal

abbrev pub decreases-add_tuple : goal.decreases-add_tuple
decreases-add_tuple l = length l.widths.now
