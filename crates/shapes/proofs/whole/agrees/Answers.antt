-- `agrees` meets its contract: a call by its own function, and else in each arm the mark is known, and nothing is asked of what is left.
-- Assumes nothing.
use Rattle.laws.specs.Table.{free}
use Rattle.shapes.proofs.Declared.{expr_declares}
use Rattle.shapes.proofs.Marks.{other_rest, other_marks}
use Rattle.shapes.proofs.whole.agrees.Goals as goal

pub field_at-t-requires : goal.field_at-t-requires
field_at-t-requires c = (expr_declares c.requires.stands).lies

pub returns-in_default : goal.returns-in_default
returns-in_default c = other_rest c.requires c.if-m-ge-CJ.false (free other_marks _ Unit c.in_default.in_default-own.rest).1
