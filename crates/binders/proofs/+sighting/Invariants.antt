-- `type_in` and `type_in_row` meet their contracts: by the pattern's mark; each element before k has not the name, and fits the type at its place.
-- Assumes nothing.
use Prim.Native.Nat.{◌+◌, ◌*◌}
use Rattle.book.specs.Index.{field}
use Rattle.book.specs.Tree.{pattern_of}
use Rattle.pattern.specs.Seeks.{Memo}
use Rattle.binders.proofs.Sights.{Skips}
use Rattle.binders.proofs.+sighting.Given as goal

abbrev pub decreases-type_in : goal.decreases-type_in
decreases-type_in l = 2 * l.p + 1

abbrev pub decreases-type_in_row : goal.decreases-type_in_row
decreases-type_in_row l = 2 * l.p

abbrev pub invariant-type_in_row-loop-k : goal.invariant-type_in_row-loop-k
invariant-type_in_row-loop-k l =
    Memo l.book.bytes l.book.index l.name l.missing × Skips l.name (pattern_of l.book.bytes l.book.index l.p) 1 (λ j. pattern_of l.book.bytes l.book.index (field l.book.bytes l.book.index l.p j)) 1 l.n l.k
