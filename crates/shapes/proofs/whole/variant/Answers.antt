-- `variant` meets its contract: all places, and then the payload's.
-- Assumes nothing.
use mathlib.Core.Path.{◌∙◌, refl}
use Rattle.shapes.proofs.Constructs.{at_none, at_some, typed_lies, typed_stands, variant_is, variant_most, variant_under}
use Rattle.shapes.proofs.Rows.{span_row}
use Rattle.shapes.proofs.Same.{gives_none, gives_some, gives_stands}
use Rattle.shapes.proofs.Walks.{fails, no, passes, tells, yes}
use Rattle.shapes.proofs.whole.variant.Goals as goal

pub field_at-n-requires : goal.field_at-n-requires
field_at-n-requires c = typed_lies c.requires 2 tt

pub has_places-requires : goal.has_places-requires
has_places-requires c = record { stands = typed_stands c.requires; n_in_range = variant_most c.requires c.field_at-n.ensures }

pub returns-then-not-has_places : goal.returns-then-not-has_places
returns-then-not-has_places c =
    fails (variant_is c.requires c.field_at-n.ensures refl c.span_of-span.ensures) (no c.has_places.ensures c.if-not-has_places.true)

pub field_at-requires : goal.field_at-requires
field_at-requires c = typed_lies c.requires 1 tt

pub place-requires : goal.place-requires
place-requires c =
    record { stands = typed_stands c.requires; sort = tt; k_in_range = variant_under c.requires c.field_at-n.ensures c.field_at.ensures; n_in_range = variant_most c.requires c.field_at-n.ensures }

pub is_row-requires : goal.is_row-requires
is_row-requires c = record { stands = gives_stands c.in-Some.ensures; elements = span_row c.requires.marked tt c.span_of-span.ensures }

pub returns-in-Some : goal.returns-in-Some
returns-in-Some c =
    tells (passes (variant_is c.requires c.field_at-n.ensures c.field_at.ensures c.span_of-span.ensures) (yes c.has_places.ensures c.if-not-has_places.false)) (c.is_row.ensures ∙ at_some _ (gives_some c.in-Some.ensures))

pub returns-in-None : goal.returns-in-None
returns-in-None c =
    fails (passes (variant_is c.requires c.field_at-n.ensures c.field_at.ensures c.span_of-span.ensures) (yes c.has_places.ensures c.if-not-has_places.false)) (at_none _ (gives_none c.in-None.ensures))
