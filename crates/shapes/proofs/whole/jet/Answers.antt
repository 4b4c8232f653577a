-- `jet` meets its contract: as many arguments, words, and what it gives.
-- Assumes nothing.
use native.Mathlib.Omega.{arith}
use Rattle.shapes.proofs.Constructs.{typed_lies, typed_stands}
use Rattle.shapes.proofs.Functions.{jet_few, jet_is, jet_number, jet_result, jet_some, jet_word}
use Rattle.shapes.proofs.Rows.{span_row}
use Rattle.shapes.proofs.Walks.{passes, stops, tells, yes}
use Rattle.shapes.proofs.whole.jet.Goals as goal

pub field_at-requires : goal.field_at-requires
field_at-requires c = typed_lies c.requires 2 tt

pub jet_at-jet-requires : goal.jet_at-jet-requires
jet_at-jet-requires c = omega (arith, jet_number c.requires c.field_at.ensures)

pub field_at-requires-2 : goal.field_at-requires-2
field_at-requires-2 c = typed_lies c.requires 3 tt

pub returns-then-field_at-jet : goal.returns-then-field_at-jet
returns-then-field_at-jet c = jet_few c.requires c.field_at.ensures c.jet_at-jet.ensures c.field_at-2.ensures c.if-field_at-jet.true

pub nonzero_div-bits : goal.nonzero_div-bits
nonzero_div-bits c = jet_some c.requires c.field_at.ensures c.jet_at-jet.ensures

pub are_words-requires : goal.are_words-requires
are_words-requires c =
    record { elements = span_row c.requires.marked tt c.span_of-span.ensures; among = jet_word c.requires c.field_at.ensures c.jet_at-jet.ensures }

pub returns-else-are_words : goal.returns-else-are_words
returns-else-are_words c =
    stops (jet_is c.requires c.field_at.ensures c.jet_at-jet.ensures c.field_at-2.ensures c.if-field_at-jet.false c.span_of-span.ensures) c.are_words.ensures c.if-are_words.false

pub is_result-requires : goal.is_result-requires
is_result-requires c = record { stands = typed_stands c.requires; among = jet_result c.requires c.field_at.ensures c.jet_at-jet.ensures }

pub returns-then-are_words : goal.returns-then-are_words
returns-then-are_words c =
    tells (passes (jet_is c.requires c.field_at.ensures c.jet_at-jet.ensures c.field_at-2.ensures c.if-field_at-jet.false c.span_of-span.ensures) (yes c.are_words.ensures c.if-are_words.true)) c.is_result.ensures
