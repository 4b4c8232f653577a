-- `read::Reader::is_repeated` meets its contract: what is left of the chain answers for all earlier records.
-- Assumes nothing.
use Rattle.book.proofs.Chains.{Walk}
use Rattle.book.proofs.read.Reader.is_repeated.Given as goal

abbrev pub invariant-loop-j : goal.invariant-loop-j
invariant-loop-j l = Walk l.book l.self l.r l.frame l.j

abbrev pub decreases-loop-j : goal.decreases-loop-j
decreases-loop-j l = l.j
