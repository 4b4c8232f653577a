-- `bearer` meets its contract: of the elements before k none bears names, or one alone.
-- Assumes nothing.
use Rattle.binders.proofs.Bearing.{Bearing}
use Rattle.binders.proofs.bearer.Given as goal

abbrev pub invariant-loop-k : goal.invariant-loop-k
invariant-loop-k l = Bearing l.book.bytes l.book.index l.p l.n l.k l.only
