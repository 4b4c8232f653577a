-- `bearer` meets its contract: of the elements before k none bears names, or one alone.
-- Assumes nothing.
use mathlib.Core.Path.{refl, sym, ◌∙◌}
use Rattle.pattern.proofs.Records.{row_count, row_lies, row_part}
use Rattle.binders.proofs.Tallies.{nameless_fits}
use Rattle.binders.proofs.Bearing.{bearing_none, bearing_all, bearing_same, bearing_first, bears_self}
use Rattle.binders.proofs.bearer.Goals as goal
use Rattle.binders.proofs.bearer.Goals.{then-not-nameless-part+else-is_some, else-not-nameless-part}

pub field_at-n-requires : goal.field_at-n-requires
field_at-n-requires c = search row_count

pub loop-k-init : goal.loop-k-init
loop-k-init c = bearing_none c.requires.stands c.requires.mark_is c.field_at-n.ensures

pub field_at-part-requires : goal.field_at-part-requires
field_at-part-requires c = search row_lies

pub bounds-nameless-part : goal.bounds-nameless-part
bounds-nameless-part c =
    nameless_fits c.requires.nameless (row_part c.requires.stands _ _ _ c.requires.mark_is c.field_at-n.ensures c.loop-k-test.true refl _ c.field_at-part.ensures).0

pub returns-then-is_some : goal.returns-then-is_some
returns-then-is_some c = bears_self c.requires.stands

pub loop-k-preserved : goal.loop-k-preserved
loop-k-preserved c =
    elim c.if-not-nameless-part.branch [ then-not-nameless-part+else-is_some w ↦ bearing_first _ _ _ c.loop-k-test.true refl c.field_at-part.ensures refl c.loop-k.invariant (sym w.is_some.ensures ∙ w.if-is_some.false) (row_part c.requires.stands _ _ _ c.requires.mark_is c.field_at-n.ensures c.loop-k-test.true refl _ c.field_at-part.ensures) w.only-is | else-not-nameless-part w ↦ bearing_same _ _ _ c.loop-k-test.true refl c.field_at-part.ensures refl c.loop-k.invariant (c.requires.nameless.sound _ w.if-not-nameless-part.false) w.only-is ]

pub returns : goal.returns
returns c = bearing_all c.loop-k.invariant c.loop-k-test.false
