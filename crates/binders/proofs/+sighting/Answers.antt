-- `type_in` and `type_in_row` meet their contracts: by the pattern's mark; each element before k has not the name, and fits the type at its place.
-- Assumes nothing.
use mathlib.Core.Path.{refl, sym, ◌∙◌}
use native.Mathlib.Omega.{arith}
use Rattle.book.proofs.Standing.{stands_begins}
use Rattle.pattern.proofs.Records.{name_lies, row_count, row_lies, row_most, row_part}
use Rattle.binders.proofs.Sights.{binds_place, binds_element, skips_none, skips_element, sights_known, sights_row, sights_name, sights_other, sights_ignored, element_none, element_found}
use Rattle.binders.proofs.+sighting.Goals as goal
use Rattle.binders.proofs.+sighting.Goals.{type_in-else-mark-eq-PI-via-then-mark-eq-PI+else-field_at-name, type_in-else-mark-eq-PI-via-else-mark-eq-PI, type_in_row-then-may_have+else-is_some, type_in_row-else-may_have}

pub type_in-returns-then-missing-p : goal.type_in-returns-then-missing-p
type_in-returns-then-missing-p t c = search sights_known

pub type_in-mark_at-mark-requires : goal.type_in-mark_at-mark-requires
type_in-mark_at-mark-requires t c = stands_begins c.requires.0.pattern

pub type_in-field_at-requires : goal.type_in-field_at-requires
type_in-field_at-requires t c = name_lies c.requires.0.pattern _ c.mark_at-mark.ensures c.if-mark-eq-PI.true

pub type_in-returns-then-field_at-name : goal.type_in-returns-then-field_at-name
type_in-returns-then-field_at-name t c = search sights_name

pub type_in-returns : goal.type_in-returns
type_in-returns t c =
    elim c.else-mark-eq-PI.branch [ type_in-else-mark-eq-PI-via-then-mark-eq-PI+else-field_at-name w ↦ sights_other c.requires.0 _ c.mark_at-mark.ensures c.requires.1 _ w.if-mark-eq-PI.true w.field_at.ensures w.if-field_at-name.false | type_in-else-mark-eq-PI-via-else-mark-eq-PI w ↦ sights_ignored c.requires.0 _ c.mark_at-mark.ensures c.requires.1 c.if-mark-eq-PT.false w.if-mark-eq-PI.false ]

pub type_in_row-field_at-n-requires : goal.type_in_row-field_at-n-requires
type_in_row-field_at-n-requires t c = search row_count

pub type_in_row-loop-k-init : goal.type_in_row-loop-k-init
type_in_row-loop-k-init t c = (c.requires.1.1, skips_none c.requires.0 _ _ c.requires.1.0 c.field_at-n.ensures)

pub type_in_row-field_at-part-requires : goal.type_in_row-field_at-part-requires
type_in_row-field_at-part-requires t c = search row_lies

pub type_in_row-may_have-requires : goal.type_in_row-may_have-requires
type_in_row-may_have-requires t c =
    record { stands = (row_part c.requires.0.pattern _ _ _ c.requires.1.0 c.field_at-n.ensures c.loop-k-test.true refl _ c.field_at-part.ensures).0; memo = c.loop-k.invariant.0 }

pub type_in_row-place-requires : goal.type_in_row-place-requires
type_in_row-place-requires t c =
    record { stands = c.requires.0.type; sort = tt; k_in_range = c.loop-k-test.true; n_in_range = row_most c.requires.0.pattern _ c.requires.1.0 c.field_at-n.ensures }

pub type_in_row-unwrap-s-requires : goal.type_in_row-unwrap-s-requires
type_in_row-unwrap-s-requires t c =
    binds_place c.requires.0 _ _ _ _ c.requires.1.0 c.field_at-n.ensures c.loop-k-test.true refl c.field_at-part.ensures c.place.ensures

pub type_in_row-type_in-found-requires : goal.type_in_row-type_in-found-requires
type_in_row-type_in-found-requires t c =
    let e = binds_element c.requires.0 _ _ _ _ _ c.requires.1.0 c.field_at-n.ensures c.loop-k-test.true refl c.field_at-part.ensures (rw c.unwrap-s.ensures at c.place.ensures) in (omega (arith, e.below), (e.binds, c.loop-k.invariant.0))

pub type_in_row-returns-then-is_some : goal.type_in_row-returns-then-is_some
type_in_row-returns-then-is_some t c =
    element_found c.loop-k.invariant.1 (binds_element c.requires.0 _ _ _ _ _ c.requires.1.0 c.field_at-n.ensures c.loop-k-test.true refl c.field_at-part.ensures (rw c.unwrap-s.ensures at c.place.ensures)) c.type_in-found.ensures _ c.loop-k-test.true refl c.field_at-part.ensures (sym c.is_some.ensures ∙ c.if-is_some.true)

pub type_in_row-loop-k-preserved : goal.type_in_row-loop-k-preserved
type_in_row-loop-k-preserved t c =
    elim c.if-may_have.branch [ type_in_row-then-may_have+else-is_some w ↦ rw w.missing-is (element_none c.loop-k.invariant.1 (binds_element c.requires.0 _ _ _ _ _ c.requires.1.0 c.field_at-n.ensures c.loop-k-test.true refl c.field_at-part.ensures (rw w.unwrap-s.ensures at w.place.ensures)) w.type_in-found.ensures _ c.loop-k-test.true refl c.field_at-part.ensures _ refl (sym w.is_some.ensures ∙ w.if-is_some.false)) | type_in_row-else-may_have w ↦ rw w.missing-is (c.loop-k.invariant.0, skips_element c.requires.0 c.loop-k.invariant.1 _ c.loop-k-test.true refl c.field_at-part.ensures _ refl (c.may_have.ensures w.if-may_have.false)) ]

pub type_in_row-returns : goal.type_in_row-returns
type_in_row-returns t c = search sights_row
