-- `place` meets its contract: each turn leads to a side, until one place is left.
-- Assumes nothing.
use Rattle.book.specs.Tree.{type_of}
use Rattle.shapes.specs.Shapes.{place_of}
use Rattle.shapes.specs.Views.{sort_of}
use Rattle.shapes.proofs.Ways.{On}
use Rattle.shapes.proofs.part.place.Given as goal

abbrev pub invariant-loop-count : goal.invariant-loop-count
invariant-loop-count l =
    On l.book.bytes l.book.index l.m (place_of (sort_of l.m) l.n l.k (type_of l.book.bytes l.book.index l.t)) l.at l.count l.left

abbrev pub decreases-loop-count : goal.decreases-loop-count
decreases-loop-count l = l.count
