-- `get_among` meets its contract: each element before k is no row and has not the name.
-- Assumes nothing.
use Rattle.book.specs.Index.{field}
use Rattle.book.specs.Tree.{pattern_of}
use Rattle.pattern.specs.Find.{find}
use Rattle.pattern.proofs.Passes.{Passes}
use Rattle.pattern.proofs.Search.get_among.Given as goal

abbrev pub invariant-loop-k : goal.invariant-loop-k
invariant-loop-k l =
    Passes (find l.self.name (pattern_of l.self.book.now.bytes l.self.book.now.index l.p)) l.self.name 1 (λ j. pattern_of l.self.book.now.bytes l.self.book.now.index (field l.self.book.now.bytes l.self.book.now.index l.p j)) 1 l.n l.k l.initial.nodes l.nodes
