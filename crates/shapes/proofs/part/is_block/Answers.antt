-- `is_block` meets its contract: a sum of unit and a power of the type.
-- Assumes nothing.
use native.Mathlib.Omega.{arith}
use mathlib.Core.Path.{refl, sym, ◌∙◌}
use Rattle.simplicity.specs.Types.{one, power}
use Rattle.array.specs.Split.{top_of}
use Rattle.book.specs.Format.{TS}
use Rattle.book.specs.Tree.{type_of}
use Rattle.book.proofs.Standing.{stands_begins}
use Rattle.shapes.specs.Views.{block_type}
use Rattle.shapes.proofs.Sides.{first_fails, first_holds, same_not, same_sum, side_lies, side_at}
use Rattle.shapes.proofs.Halves.{power_at}
use Rattle.shapes.proofs.part.is_block.Goals as goal

pub mark_at-requires : goal.mark_at-requires
mark_at-requires c = stands_begins c.requires.stands

pub returns-then-mark_at-ne-TS : goal.returns-then-mark_at-ne-TS
returns-then-mark_at-ne-TS c =
    sym (same_not c.requires.stands c.mark_at.ensures (block_type (type_of c.args.book.now.bytes c.args.book.now.index c.args.element) (top_of c.args.n)) refl c.if-mark_at-ne-TS.true)

pub field_at-requires : goal.field_at-requires
field_at-requires c = side_lies c.requires.stands c.mark_at.ensures {m = TS} tt c.if-mark_at-ne-TS.false 0 (omega arith)

pub is_unit-requires : goal.is_unit-requires
is_unit-requires c =
    side_at c.requires.stands c.mark_at.ensures {m = TS} tt c.if-mark_at-ne-TS.false {k = 0} (omega arith) c.field_at.ensures

pub returns-else-is_unit : goal.returns-else-is_unit
returns-else-is_unit c =
    c.if-is_unit.false ∙ sym (first_fails _ c.is_unit.ensures (same_sum c.requires.stands c.mark_at.ensures c.field_at.ensures refl one (power (type_of c.args.book.now.bytes c.args.book.now.index c.args.element) (top_of c.args.n)) c.if-mark_at-ne-TS.false) c.if-is_unit.false)

pub field_at-requires-then-is_unit : goal.field_at-requires-then-is_unit
field_at-requires-then-is_unit c = side_lies c.requires.stands c.mark_at.ensures {m = TS} tt c.if-mark_at-ne-TS.false 1 (omega arith)

pub halved-requires : goal.halved-requires
halved-requires c =
    record { stands = side_at c.requires.stands c.mark_at.ensures {m = TS} tt c.if-mark_at-ne-TS.false {k = 1} (omega arith) c.field_at-then-is_unit.ensures; among = c.requires.among }

pub returns-then-is_unit : goal.returns-then-is_unit
returns-then-is_unit c =
    c.eq.ensures ∙ power_at (top_of c.args.n) _ c.halved.ensures c.requires.stands_element ∙ sym (first_holds _ c.is_unit.ensures (same_sum c.requires.stands c.mark_at.ensures c.field_at.ensures c.field_at-then-is_unit.ensures one (power (type_of c.args.book.now.bytes c.args.book.now.index c.args.element) (top_of c.args.n)) c.if-mark_at-ne-TS.false) c.if-is_unit.true)
