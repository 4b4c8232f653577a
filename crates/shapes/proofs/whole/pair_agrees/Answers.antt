-- `pair_agrees` meets its contract: the declared type is a product, of the parts' types.
-- Assumes nothing.
use mathlib.Core.Path.{refl}
use native.Mathlib.Omega.{arith}
use borrow.Author.Tests.{ne_eqb}
use Rattle.book.proofs.Standing.{stands_begins}
use Rattle.book.specs.Format.{VP}
use Rattle.shapes.proofs.Constructs.{test_is}
use Rattle.shapes.proofs.Marks.{pair_is, pair_not, pair_type, value_lies, value_names}
use Rattle.shapes.proofs.Sides.{side_at, side_lies}
use Rattle.shapes.proofs.Walks.{equal, passes, stops, tells}
use Rattle.shapes.proofs.whole.pair_agrees.Goals as goal

pub mark_at-requires : goal.mark_at-requires
mark_at-requires c = stands_begins (pair_type c.requires.stands c.requires.mark_is c.requires.t_is)

pub returns-then-mark_at-ne-TP : goal.returns-then-mark_at-ne-TP
returns-then-mark_at-ne-TP c = pair_not c.requires.stands c.requires.mark_is c.requires.t_is c.mark_at.ensures c.if-mark_at-ne-TP.true

pub field_at-requires : goal.field_at-requires
field_at-requires c =
    side_lies (pair_type c.requires.stands c.requires.mark_is c.requires.t_is) c.mark_at.ensures tt c.if-mark_at-ne-TP.false 0 (omega arith)

pub value_type-requires : goal.value_type-requires
value_type-requires c =
    record { lies = value_lies c.requires.stands refl VP c.requires.mark_is 1 tt; stands = value_names c.requires.stands refl VP c.requires.mark_is 1 tt tt }

pub returns-else-field_at-value_type : goal.returns-else-field_at-value_type
returns-else-field_at-value_type c =
    let s = pair_type c.requires.stands c.requires.mark_is c.requires.t_is in stops (pair_is c.requires.stands c.requires.mark_is c.requires.t_is c.mark_at.ensures c.if-mark_at-ne-TP.false c.field_at.ensures refl) (test_is (side_at s c.mark_at.ensures tt c.if-mark_at-ne-TP.false (omega arith) c.field_at.ensures) c.value_type.ensures) (ne_eqb _ _ c.if-field_at-value_type.false)

pub field_at-requires-then-field_at-value_type : goal.field_at-requires-then-field_at-value_type
field_at-requires-then-field_at-value_type c =
    side_lies (pair_type c.requires.stands c.requires.mark_is c.requires.t_is) c.mark_at.ensures tt c.if-mark_at-ne-TP.false 1 (omega arith)

pub value_type-requires-then-field_at-value_type : goal.value_type-requires-then-field_at-value_type
value_type-requires-then-field_at-value_type c =
    record { lies = value_lies c.requires.stands refl VP c.requires.mark_is 2 tt; stands = value_names c.requires.stands refl VP c.requires.mark_is 2 tt tt }

pub returns-then-field_at-value_type : goal.returns-then-field_at-value_type
returns-then-field_at-value_type c =
    let s = pair_type c.requires.stands c.requires.mark_is c.requires.t_is in tells (passes (pair_is c.requires.stands c.requires.mark_is c.requires.t_is c.mark_at.ensures c.if-mark_at-ne-TP.false c.field_at.ensures c.field_at-then-field_at-value_type.ensures) (equal (test_is (side_at s c.mark_at.ensures tt c.if-mark_at-ne-TP.false (omega arith) c.field_at.ensures) c.value_type.ensures) c.if-field_at-value_type.true)) (test_is (side_at s c.mark_at.ensures tt c.if-mark_at-ne-TP.false (omega arith) c.field_at-then-field_at-value_type.ensures) c.value_type-then-field_at-value_type.ensures)
