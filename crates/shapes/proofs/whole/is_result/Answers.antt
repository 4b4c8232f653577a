-- `is_result` meets its contract: by the width.
-- Assumes nothing.
use mathlib.Core.List.{[], ◌∷◌}
use mathlib.Core.Path.{◌∙◌}
use Rattle.laws.specs.Table.{free}
use Rattle.shapes.proofs.Functions.{result_bit, result_rest, result_unit}
use Rattle.shapes.proofs.whole.is_result.Goals as goal

pub returns-in-0 : goal.returns-in-0
returns-in-0 c = c.is_unit.ensures ∙ result_unit _ c.in-0.is

pub returns-in-1 : goal.returns-in-1
returns-in-1 c = c.is_bit.ensures ∙ result_bit _ c.in-1.is

pub returns-in_default : goal.returns-in_default
returns-in_default c = c.is_carried.ensures ∙ result_rest _ c.args.bits c.requires.among (free (0 ∷ 1 ∷ []) _ Unit c.in_default.in_default-own.rest).1
