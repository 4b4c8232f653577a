-- `note_all` and `note_row` meet their contracts: by the pattern's mark; each name of the elements before k was met.
-- Assumes nothing.
use Prim.Native.Nat.{◌+◌, ◌*◌}
use Rattle.book.specs.Index.{field}
use Rattle.book.specs.Tree.{pattern_of}
use Rattle.binders.specs.Binders.{names}
use Rattle.binders.specs.Memos.{Nameless}
use Rattle.binders.proofs.Tallies.{Meets}
use Rattle.binders.proofs.+noting.Given as goal

abbrev pub decreases-note_all : goal.decreases-note_all
decreases-note_all l = 2 * l.p + 1

abbrev pub decreases-note_row : goal.decreases-note_row
decreases-note_row l = 2 * l.p

abbrev pub invariant-note_row-loop-k : goal.invariant-note_row-loop-k
invariant-note_row-loop-k l =
    Nameless l.book.bytes l.book.index l.nameless × Meets l.stamp (names (pattern_of l.book.bytes l.book.index l.p)) l.initial.met 1 (λ j. names (pattern_of l.book.bytes l.book.index (field l.book.bytes l.book.index l.p j))) 1 l.n l.k l.any l.met
