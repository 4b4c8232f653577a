-- `is_list` meets its contract: block by block, each of half as many as the one before.
-- Assumes nothing.
use native.Mathlib.Omega.{arith}
use mathlib.Core.Path.{refl}
use Rattle.book.specs.Format.{TP}
use Rattle.book.specs.Tree.{type_of}
use Rattle.book.proofs.Standing.{stands_begins}
use Rattle.shapes.proofs.Sides.{side_lies, side_at}
use Rattle.shapes.proofs.Lists.{list_start, list_end, list_not, list_other, list_next}
use Rattle.shapes.proofs.part.is_list.Goals as goal

pub loop-half-init : goal.loop-half-init
loop-half-init c =
    list_start c.requires.stands c.args.bound c.requires.list_bound (type_of c.args.book.now.bytes c.args.book.now.index c.args.element)

pub mark_at-requires : goal.mark_at-requires
mark_at-requires c = stands_begins c.loop-half.invariant.stands

pub returns-then-mark_at-ne-TP : goal.returns-then-mark_at-ne-TP
returns-then-mark_at-ne-TP c =
    list_not (type_of c.args.book.now.bytes c.args.book.now.index c.args.element) c.loop-half.invariant c.loop-half-test.true c.mark_at.ensures c.if-mark_at-ne-TP.true

pub field_at-requires : goal.field_at-requires
field_at-requires c = side_lies c.loop-half.invariant.stands c.mark_at.ensures {m = TP} tt c.if-mark_at-ne-TP.false 0 (omega arith)

pub is_block-requires : goal.is_block-requires
is_block-requires c =
    record { stands = side_at c.loop-half.invariant.stands c.mark_at.ensures {m = TP} tt c.if-mark_at-ne-TP.false {k = 0} (omega arith) c.field_at.ensures; stands_element = c.requires.stands_element; among = c.loop-half.invariant.power }

pub returns-then-not-is_block : goal.returns-then-not-is_block
returns-then-not-is_block c =
    list_other (type_of c.args.book.now.bytes c.args.book.now.index c.args.element) c.loop-half.invariant c.loop-half-test.true c.mark_at.ensures c.if-mark_at-ne-TP.false c.field_at.ensures refl c.is_block.ensures c.if-not-is_block.true

pub field_at-at-requires : goal.field_at-at-requires
field_at-at-requires c = side_lies c.loop-half.invariant.stands c.mark_at.ensures {m = TP} tt c.if-mark_at-ne-TP.false 1 (omega arith)

pub loop-half-preserved : goal.loop-half-preserved
loop-half-preserved c =
    list_next (type_of c.args.book.now.bytes c.args.book.now.index c.args.element) c.loop-half.invariant c.loop-half-test.true c.mark_at.ensures c.if-mark_at-ne-TP.false c.field_at.ensures c.field_at-at.ensures c.is_block.ensures c.if-not-is_block.false

pub returns : goal.returns
returns c =
    list_end (type_of c.args.book.now.bytes c.args.book.now.index c.args.element) c.loop-half.invariant c.loop-half-test.false c.is_block-2.ensures
