-- `is_list` meets its contract: block by block, each of half as many as the one before.
-- Assumes nothing.
use Rattle.simplicity.specs.Types.{same}
use Rattle.book.specs.Tree.{type_of}
use Rattle.shapes.specs.Shapes.{list_type}
use Rattle.shapes.proofs.Powers.{Down}
use Rattle.shapes.proofs.Lists.{is_lists}
use Rattle.shapes.proofs.part.is_list.Given as goal

abbrev pub invariant-loop-half : goal.invariant-loop-half
invariant-loop-half l =
    Down l.book.bytes l.book.index (is_lists (type_of l.book.bytes l.book.index l.element)) (same (type_of l.book.bytes l.book.index l.t) (list_type (type_of l.book.bytes l.book.index l.element) l.bound)) l.at l.half

abbrev pub decreases-loop-half : goal.decreases-loop-half
decreases-loop-half l = l.half
