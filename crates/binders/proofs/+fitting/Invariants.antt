-- `fits` and `fits_row` meet their contracts: by the pattern's mark, and what is marked fits; each element before k fits at its place.
-- Assumes nothing.
use Prim.Native.Nat.{◌+◌, ◌*◌}
use Rattle.book.specs.Index.{field}
use Rattle.book.specs.Tree.{type_of, pattern_of}
use Rattle.binders.specs.Binders.{fits}
use Rattle.binders.proofs.Fitting.{Fitting}
use Rattle.binders.proofs.+fitting.Given as goal

abbrev pub decreases-fits : goal.decreases-fits
decreases-fits l = 2 * l.p + 1

abbrev pub decreases-fits_row : goal.decreases-fits_row
decreases-fits_row l = 2 * l.p

abbrev pub invariant-fits_row-loop-k : goal.invariant-fits_row-loop-k
invariant-fits_row-loop-k l =
    Fitting l.book.bytes l.book.index (fits (pattern_of l.book.bytes l.book.index l.p) (type_of l.book.bytes l.book.index l.t)) l.n (λ j. pattern_of l.book.bytes l.book.index (field l.book.bytes l.book.index l.p j)) (type_of l.book.bytes l.book.index l.t) l.k l.initial.memo l.memo
