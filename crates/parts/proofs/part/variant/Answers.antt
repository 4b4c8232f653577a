-- `variant` meets its contract: the payload is there already, and its path is stored around it.
-- Assumes nothing.
use native.Mathlib.Omega.{arith}
use Rattle.parts.specs.Parts.{wrap_run}
use Rattle.parts.proofs.Marks.{lies}
use Rattle.parts.proofs.Numbers.{variant_under, variant_most}
use Rattle.parts.proofs.part.variant.Goals as goal

pub field_at-k-requires : goal.field_at-k-requires
unfolding wrap_run
field_at-k-requires c = lies c.requires 1 tt

pub field_at-n-requires : goal.field_at-n-requires
unfolding wrap_run
field_at-n-requires c = lies c.requires 2 tt

pub along-requires : goal.along-requires
unfolding wrap_run
along-requires c = (omega (arith, variant_under c.requires), omega (arith, variant_most c.requires))

pub returns : goal.returns
unfolding wrap_run
returns c =
    rw (← c.field_at-n.ensures, ← c.field_at-k.ensures) c.along.ensures
