-- `element_of` meets its contract: the last block's right side, after as many blocks as the bound can be halved.
-- Assumes nothing.
use Rattle.book.specs.Tree.{type_of}
use Rattle.array.specs.Split.{top_of}
use Rattle.shapes.specs.Shapes.{element_of}
use Rattle.shapes.proofs.Powers.{Down}
use Rattle.shapes.proofs.Lists.{last_of}
use Rattle.shapes.proofs.part.element_of.Given as goal

abbrev pub invariant-loop-half : goal.invariant-loop-half
invariant-loop-half l = Down l.book.bytes l.book.index last_of (element_of (top_of l.bound) (type_of l.book.bytes l.book.index l.t)) l.at l.half

abbrev pub decreases-loop-half : goal.decreases-loop-half
decreases-loop-half l = l.half
