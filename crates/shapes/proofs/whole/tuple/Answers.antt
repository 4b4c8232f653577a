-- `tuple` meets its contract: its span is a row.
-- Assumes nothing.
use Rattle.shapes.proofs.Constructs.{tuple_is, typed_stands}
use Rattle.shapes.proofs.Rows.{span_row}
use Rattle.shapes.proofs.Walks.{tells}
use Rattle.shapes.proofs.whole.tuple.Goals as goal

pub is_row-requires : goal.is_row-requires
is_row-requires c = record { stands = typed_stands c.requires; elements = span_row c.requires.marked tt c.span_of.ensures }

pub returns : goal.returns
returns c = tells (tuple_is c.requires c.span_of.ensures) c.is_row.ensures
