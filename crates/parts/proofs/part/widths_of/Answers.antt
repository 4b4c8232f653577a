-- `widths_of` meets its contract: one width more each time.
-- Assumes nothing.
use native.Mathlib.Omega.{arith}
use Rattle.parts.proofs.Marks.{width_lies}
use Rattle.parts.proofs.Ends.{widths_none, widths_next, widths_all}
use Rattle.parts.proofs.part.widths_of.Goals as goal

pub loop-k-init : goal.loop-k-init
loop-k-init c = widths_none _

pub field_at-requires : goal.field_at-requires
field_at-requires c = width_lies c.requires.marked _ (omega (arith, c.requires.count_is))

pub loop-k-preserved : goal.loop-k-preserved
loop-k-preserved c = widths_next c.loop-k.invariant (omega arith) c.field_at.ensures

pub returns-clause-widths : goal.returns-clause-widths
returns-clause-widths c = widths_all c.loop-k.k (omega arith) (omega arith) c.loop-k.invariant
