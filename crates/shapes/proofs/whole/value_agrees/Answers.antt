-- `value_agrees` meets its contract: by the mark.
-- Assumes nothing.
use mathlib.Core.List.{[], ◌∷◌}
use native.Mathlib.Omega.{arith}
use Rattle.laws.specs.Table.{free}
use Rattle.book.proofs.Standing.{stands_begins}
use Rattle.book.specs.Format.{VL, VR, VU}
use Rattle.shapes.proofs.Declared.{value_declares}
use Rattle.shapes.proofs.Marks.{pair_rest, value_left, value_lies, value_names, value_right, value_type_stands, value_unit}
use Rattle.shapes.proofs.Same.{tells_at}
use Rattle.shapes.proofs.Walks.{tells}
use Rattle.shapes.proofs.whole.value_agrees.Goals as goal

pub field_at-t-requires : goal.field_at-t-requires
field_at-t-requires c = (value_declares c.requires).lies

pub mark_at-requires : goal.mark_at-requires
mark_at-requires c = stands_begins c.requires

pub is_unit-requires : goal.is_unit-requires
is_unit-requires c = value_type_stands c.requires c.mark_at.ensures c.field_at-t.ensures

pub side-requires : goal.side-requires
side-requires c =
    record { stands = value_type_stands c.requires c.mark_at.ensures c.field_at-t.ensures; sort = tt; k_in_range = omega arith }

pub value_type-requires : goal.value_type-requires
value_type-requires c =
    record { lies = value_lies c.requires c.mark_at.ensures VL c.in-5.is 1 tt; stands = value_names c.requires c.mark_at.ensures VL c.in-5.is 1 tt tt }

pub side-requires-in-6 : goal.side-requires-in-6
side-requires-in-6 c =
    record { stands = value_type_stands c.requires c.mark_at.ensures c.field_at-t.ensures; sort = tt; k_in_range = omega arith }

pub value_type-requires-in-6 : goal.value_type-requires-in-6
value_type-requires-in-6 c =
    record { lies = value_lies c.requires c.mark_at.ensures VR c.in-6.is 1 tt; stands = value_names c.requires c.mark_at.ensures VR c.in-6.is 1 tt tt }

pub pair_agrees-requires : goal.pair_agrees-requires
pair_agrees-requires c =
    record { stands = c.requires; mark_is = pair_rest c.requires c.mark_at.ensures (free (VU ∷ VL ∷ VR ∷ []) _ Unit c.in_default.in_default-own.rest).1; t_is = c.field_at-t.ensures }

pub returns-in-4 : goal.returns-in-4
returns-in-4 c = tells (value_unit c.requires c.mark_at.ensures c.field_at-t.ensures c.in-4.is) c.is_unit.ensures

pub returns-in-5 : goal.returns-in-5
returns-in-5 c =
    tells (value_left c.requires c.mark_at.ensures c.field_at-t.ensures c.value_type.ensures c.in-5.is) (tells_at c.side.ensures c.value_type.ensures.0 c.eq.ensures)

pub returns-in-6 : goal.returns-in-6
returns-in-6 c =
    tells (value_right c.requires c.mark_at.ensures c.field_at-t.ensures c.value_type-in-6.ensures c.in-6.is) (tells_at c.side-in-6.ensures c.value_type-in-6.ensures.0 c.eq-in-6.ensures)
