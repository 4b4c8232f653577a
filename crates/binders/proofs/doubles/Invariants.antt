-- `doubles` meets its contract: the entries of the records before r are right, and no name was met with a stamp greater than r.
-- Assumes nothing.
use Rattle.binders.proofs.Doubling.{Doubling}
use Rattle.binders.proofs.doubles.Given as goal

abbrev pub invariant-loop-r : goal.invariant-loop-r
invariant-loop-r l = Doubling l.book.bytes l.book.index l.n l.r l.doubled l.met l.nameless
