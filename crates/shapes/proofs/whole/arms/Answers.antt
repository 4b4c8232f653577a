-- `arms` meets its contract: its span is a row.
-- Assumes nothing.
use Rattle.shapes.proofs.Constructs.{arms_is, typed_stands}
use Rattle.shapes.proofs.Rows.{span_row}
use Rattle.shapes.proofs.Walks.{tells}
use Rattle.shapes.proofs.whole.arms.Goals as goal

pub are_all-requires : goal.are_all-requires
are_all-requires c = record { stands = typed_stands c.requires; elements = span_row c.requires.marked tt c.span_of.ensures }

pub returns : goal.returns
returns c = tells (arms_is c.requires c.span_of.ensures) c.are_all.ensures
