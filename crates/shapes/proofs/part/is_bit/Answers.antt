-- `is_bit` meets its contract: a sum whose sides are unit.
-- Assumes nothing.
use native.Mathlib.Omega.{arith}
use mathlib.Core.Path.{refl, sym, ◌∙◌}
use Rattle.simplicity.specs.Types.{one, two}
use Rattle.book.specs.Format.{TS}
use Rattle.book.proofs.Standing.{stands_begins}
use Rattle.shapes.proofs.Sides.{first_fails, first_holds, same_not, same_sum, side_lies, side_at}
use Rattle.shapes.proofs.part.is_bit.Goals as goal

pub mark_at-requires : goal.mark_at-requires
mark_at-requires c = stands_begins c.requires

pub returns-then-mark_at-ne-TS : goal.returns-then-mark_at-ne-TS
returns-then-mark_at-ne-TS c = sym (same_not c.requires c.mark_at.ensures two refl c.if-mark_at-ne-TS.true)

pub field_at-requires : goal.field_at-requires
field_at-requires c = side_lies c.requires c.mark_at.ensures {m = TS} tt c.if-mark_at-ne-TS.false 0 (omega arith)

pub is_unit-requires : goal.is_unit-requires
is_unit-requires c = side_at c.requires c.mark_at.ensures {m = TS} tt c.if-mark_at-ne-TS.false {k = 0} (omega arith) c.field_at.ensures

pub returns-else-is_unit : goal.returns-else-is_unit
returns-else-is_unit c =
    c.if-is_unit.false ∙ sym (first_fails _ c.is_unit.ensures (same_sum c.requires c.mark_at.ensures c.field_at.ensures refl one one c.if-mark_at-ne-TS.false) c.if-is_unit.false)

pub field_at-requires-then-is_unit : goal.field_at-requires-then-is_unit
field_at-requires-then-is_unit c = side_lies c.requires c.mark_at.ensures {m = TS} tt c.if-mark_at-ne-TS.false 1 (omega arith)

pub is_unit-requires-then-is_unit : goal.is_unit-requires-then-is_unit
is_unit-requires-then-is_unit c = side_at c.requires c.mark_at.ensures {m = TS} tt c.if-mark_at-ne-TS.false {k = 1} (omega arith) c.field_at-then-is_unit.ensures

pub returns-then-is_unit : goal.returns-then-is_unit
returns-then-is_unit c =
    c.is_unit-then-is_unit.ensures ∙ sym (first_holds _ c.is_unit.ensures (same_sum c.requires c.mark_at.ensures c.field_at.ensures c.field_at-then-is_unit.ensures one one c.if-mark_at-ne-TS.false) c.if-is_unit.true)
