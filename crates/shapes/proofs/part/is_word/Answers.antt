-- `is_word` meets its contract: a word's type, halved, is a bit.
-- Assumes nothing.
use Rattle.simplicity.specs.Types.{two}
use Rattle.array.specs.Split.{top_of}
use Rattle.book.specs.Tree.{type_of}
use Rattle.shapes.proofs.Same.{gives_stands}
use Rattle.shapes.proofs.Halves.{power_none, power_some}
use Rattle.shapes.proofs.part.is_word.Goals as goal

pub is_bit-requires : goal.is_bit-requires
is_bit-requires c = gives_stands c.in-Some.ensures

pub returns-in-Some : goal.returns-in-Some
returns-in-Some c = power_some (top_of c.args.bits) (type_of c.args.book.now.bytes c.args.book.now.index c.args.t) two c.in-Some.ensures c.is_bit.ensures

pub returns-in-None : goal.returns-in-None
returns-in-None c = power_none (top_of c.args.bits) (type_of c.args.book.now.bytes c.args.book.now.index c.args.t) two c.in-None.ensures
