-- `list` meets its contract: there is no element type, or the tests are of it.
-- Assumes nothing.
use Rattle.shapes.proofs.Constructs.{list_bound, list_is, list_none, typed_lies, typed_stands}
use Rattle.shapes.proofs.Rows.{span_row}
use Rattle.shapes.proofs.Same.{gives_none, gives_some, gives_stands}
use Rattle.shapes.proofs.Walks.{passes, stops, tells, yes}
use Rattle.shapes.proofs.whole.list.Goals as goal

pub field_at-bound-requires : goal.field_at-bound-requires
field_at-bound-requires c = typed_lies c.requires 1 tt

pub element_of-requires : goal.element_of-requires
element_of-requires c = record { stands = typed_stands c.requires; list_bound = list_bound c.requires c.field_at-bound.ensures }

pub is_list-requires : goal.is_list-requires
is_list-requires c =
    record { stands = typed_stands c.requires; stands_element = gives_stands c.in-Some.ensures; list_bound = list_bound c.requires c.field_at-bound.ensures }

pub are_all-requires : goal.are_all-requires
are_all-requires c = record { stands = gives_stands c.in-Some.ensures; elements = span_row c.requires.marked tt c.span_of-span.ensures }

pub returns-else-is_list : goal.returns-else-is_list
returns-else-is_list c =
    stops (list_is c.requires c.field_at-bound.ensures c.span_of-span.ensures (gives_some c.in-Some.ensures)) c.is_list.ensures c.if-is_list.false

pub returns-then-is_list : goal.returns-then-is_list
returns-then-is_list c =
    tells (passes (list_is c.requires c.field_at-bound.ensures c.span_of-span.ensures (gives_some c.in-Some.ensures)) (yes c.is_list.ensures c.if-is_list.true)) c.are_all.ensures

pub returns-in-None : goal.returns-in-None
returns-in-None c = list_none c.requires c.field_at-bound.ensures (gives_none c.in-None.ensures)
