-- `get_from` and `get_row` meet their contracts: by the pattern's mark; each element before k has not the name.
-- Assumes nothing.
use Prim.Native.Nat.{◌+◌, ◌*◌}
use Rattle.book.specs.Index.{field}
use Rattle.book.specs.Tree.{pattern_of}
use Rattle.pattern.specs.Find.{find}
use Rattle.pattern.specs.Seeks.{Memo}
use Rattle.pattern.proofs.Passes.{Passes}
use Rattle.pattern.proofs.Search.+seeking.Given as goal

abbrev pub decreases-get_from : goal.decreases-get_from
decreases-get_from l = 2 * l.p + 1

abbrev pub decreases-get_row : goal.decreases-get_row
decreases-get_row l = 2 * l.p

abbrev pub invariant-get_row-loop-k : goal.invariant-get_row-loop-k
invariant-get_row-loop-k l =
    Memo l.self.book.now.bytes l.self.book.now.index l.self.name l.missing × Passes (find l.self.name (pattern_of l.self.book.now.bytes l.self.book.now.index l.p)) l.self.name 1 (λ j. pattern_of l.self.book.now.bytes l.self.book.now.index (field l.self.book.now.bytes l.self.book.now.index l.p j)) 1 l.n l.k l.initial.nodes l.nodes
