-- `fits` and `fits_row` meet their contracts: by the pattern's mark, and what is marked fits; each element before k fits at its place.
-- Assumes nothing.
use mathlib.Core.Path.{refl}
use native.Mathlib.Omega.{arith}
use Rattle.book.proofs.Standing.{stands_begins}
use Rattle.pattern.proofs.Records.{row_count, row_lies, row_part}
use Rattle.shapes.proofs.Same.{gives_stands}
use Rattle.binders.proofs.Fitting.{fitted_other, fitted_known, fitted_empty, fitted_marked, fitting_none, fitting_all, fitting_nowhere, fitting_not, fitting_next}
use borrow.Author.Rules.{rules}
use Rattle.binders.proofs.+fitting.Goals as goal

pub fits-mark_at-requires : goal.fits-mark_at-requires
fits-mark_at-requires t c = search stands_begins

pub fits-returns-then-mark_at-ne-PT : goal.fits-returns-then-mark_at-ne-PT
fits-returns-then-mark_at-ne-PT t c = fitted_other c.requires.1.1 c.requires.0 _ c.mark_at.ensures c.if-mark_at-ne-PT.true

pub fits-returns-then-known : goal.fits-returns-then-known
fits-returns-then-known t c = fitted_known c.requires.1.1 _ _ c.known.ensures c.if-known.true

pub fits-returns-then-fits_row : goal.fits-returns-then-fits_row
fits-returns-then-fits_row t c = fitted_marked c.fits_row.ensures c.if-fits_row.true c.mark.ensures

pub fits-returns : goal.fits-returns
fits-returns t c = rw c.if-fits_row.false at c.fits_row.ensures

pub fits_row-field_at-n-requires : goal.fits_row-field_at-n-requires
fits_row-field_at-n-requires t c = search row_count

pub fits_row-returns-then-n-eq0 : goal.fits_row-returns-then-n-eq0
fits_row-returns-then-n-eq0 t c = fitted_empty c.requires.1.1.1 c.requires.0 _ c.requires.1.0 c.field_at-n.ensures c.if-n-eq0.true c.is_unit.ensures

pub fits_row-loop-k-init : goal.fits_row-loop-k-init
fits_row-loop-k-init t c = fitting_none c.requires.1.1.1 c.requires.0 _ c.requires.1.0 c.field_at-n.ensures c.if-n-eq0.false

pub fits_row-field_at-part-requires : goal.fits_row-field_at-part-requires
fits_row-field_at-part-requires t c = search row_lies

pub fits_row-returns-in_default : goal.fits_row-returns-in_default
fits_row-returns-in_default t c = fitting_nowhere c.loop-k.invariant c.loop-k-test.true c.in_default.ensures

pub fits_row-fits-requires : goal.fits_row-fits-requires
fits_row-fits-requires t c =
    let part = row_part c.requires.0 _ _ _ c.requires.1.0 c.field_at-n.ensures c.loop-k-test.true refl _ c.field_at-part.ensures in (omega (arith, part.1), (part.0, (gives_stands c.in-Some.ensures, c.loop-k.invariant.known)))

pub fits_row-returns-then-not-fits : goal.fits_row-returns-then-not-fits
fits_row-returns-then-not-fits t c =
    fitting_not c.loop-k.invariant c.loop-k-test.true c.in-Some.ensures (rw c.field_at-part.ensures at c.fits.ensures) c.if-not-fits.true

pub fits_row-loop-k-preserved : goal.fits_row-loop-k-preserved
fits_row-loop-k-preserved t c =
    fitting_next c.loop-k.invariant c.loop-k-test.true c.in-Some.ensures (rw c.field_at-part.ensures at c.fits.ensures) c.if-not-fits.false (omega arith) (search rules)

pub fits_row-returns : goal.fits_row-returns
fits_row-returns t c = fitting_all c.loop-k.invariant (omega arith)
