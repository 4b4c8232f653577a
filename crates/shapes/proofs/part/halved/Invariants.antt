-- `halved` meets its contract: a pair of one type twice, as often as the number can be halved.
-- Assumes nothing.
use Rattle.book.specs.Tree.{type_of}
use Rattle.array.specs.Split.{top_of}
use Rattle.shapes.specs.Views.{halved_of}
use Rattle.shapes.proofs.Powers.{Down}
use Rattle.shapes.proofs.part.halved.Given as goal

abbrev pub invariant-loop-count : goal.invariant-loop-count
invariant-loop-count l = Down l.book.bytes l.book.index halved_of (halved_of (top_of l.n) (type_of l.book.bytes l.book.index l.t)) l.at l.count

abbrev pub decreases-loop-count : goal.decreases-loop-count
decreases-loop-count l = l.count
