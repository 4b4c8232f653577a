-- `variable` meets its contract: its name, which is field 1, is found in the scope.
-- Assumes nothing.
use Rattle.parts.proofs.Marks.{lies}
use Rattle.compile.proofs.Shapes.{variable_is}
use Rattle.compile.proofs.cycle.Lowering.variable.Goals as goal

pub field_at-name-requires : goal.field_at-name-requires
field_at-name-requires c = lies c.requires.marked 1 tt

pub returns : goal.returns
returns c = rw (variable_is _ _ _ _ _ c.requires.marked) (rw c.field_at-name.ensures at c.get.ensures)
