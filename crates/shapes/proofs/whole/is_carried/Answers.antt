-- `is_carried` meets its contract: a product, of a bit and a word.
-- Assumes nothing.
use mathlib.Core.Path.{◌∙◌, refl, sym}
use native.Mathlib.Omega.{arith}
use Rattle.simplicity.specs.Types.{two, product}
use Rattle.book.proofs.Standing.{stands_begins}
use Rattle.book.specs.Format.{TP}
use Rattle.shapes.specs.Shapes.{word_type}
use Rattle.shapes.proofs.Sides.{first_fails, first_holds, same_not, same_product, side_at, side_lies}
use Rattle.shapes.proofs.whole.is_carried.Goals as goal

pub mark_at-requires : goal.mark_at-requires
mark_at-requires c = stands_begins c.requires.stands

pub returns-then-mark_at-ne-TP : goal.returns-then-mark_at-ne-TP
returns-then-mark_at-ne-TP c = sym (same_not c.requires.stands c.mark_at.ensures (product two (word_type c.args.bits)) refl c.if-mark_at-ne-TP.true)

pub field_at-requires : goal.field_at-requires
field_at-requires c = side_lies c.requires.stands c.mark_at.ensures {m = TP} tt c.if-mark_at-ne-TP.false 0 (omega arith)

pub is_bit-requires : goal.is_bit-requires
is_bit-requires c = side_at c.requires.stands c.mark_at.ensures {m = TP} tt c.if-mark_at-ne-TP.false {k = 0} (omega arith) c.field_at.ensures

pub returns-else-is_bit : goal.returns-else-is_bit
returns-else-is_bit c =
    c.if-is_bit.false ∙ sym (first_fails _ c.is_bit.ensures (same_product c.requires.stands c.mark_at.ensures c.field_at.ensures refl two (word_type c.args.bits) c.if-mark_at-ne-TP.false) c.if-is_bit.false)

pub field_at-requires-then-is_bit : goal.field_at-requires-then-is_bit
field_at-requires-then-is_bit c = side_lies c.requires.stands c.mark_at.ensures {m = TP} tt c.if-mark_at-ne-TP.false 1 (omega arith)

pub is_word-requires : goal.is_word-requires
is_word-requires c =
    record { stands = side_at c.requires.stands c.mark_at.ensures {m = TP} tt c.if-mark_at-ne-TP.false {k = 1} (omega arith) c.field_at-then-is_bit.ensures; among = c.requires.among }

pub returns-then-is_bit : goal.returns-then-is_bit
returns-then-is_bit c =
    c.is_word.ensures ∙ sym (first_holds _ c.is_bit.ensures (same_product c.requires.stands c.mark_at.ensures c.field_at.ensures c.field_at-then-is_bit.ensures two (word_type c.args.bits) c.if-mark_at-ne-TP.false) c.if-is_bit.true)
