-- `widths_of` meets its contract: one width more each time.
-- Assumes nothing.
use Rattle.parts.specs.Parts.{Widths}
use Rattle.parts.proofs.part.widths_of.Given as goal

abbrev pub invariant-loop-k : goal.invariant-loop-k
invariant-loop-k l = Widths l.book.bytes l.book.index l.r l.k l.widths
