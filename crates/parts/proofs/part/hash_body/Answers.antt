-- `hash_body` meets its contract: the row of widths, and then the hash of it.
-- Assumes nothing.
use native.Mathlib.Omega.{arith}
use mathlib.Core.Path.{refl, sym, ◌∙◌}
use lib.Seq.{length-take-le}
use Rattle.builtins.specs.RawHash as hashes
use Rattle.parts.specs.Parts.{plain_run}
use Rattle.parts.proofs.Marks.{lies, most}
use Rattle.parts.proofs.Ends.{widths_add, widths_row_lem, done_at}
use Rattle.parts.proofs.part.hash_body.Goals as goal

pub field_at-count-requires : goal.field_at-count-requires
field_at-count-requires c = lies c.requires 2 tt

pub slice_bounds-row-end : goal.slice_bounds-row-end
slice_bounds-row-end c = omega (arith, most c.requires 2 tt refl, c.field_at-count.ensures)

pub slice_bounds-widths-end : goal.slice_bounds-widths-end
slice_bounds-widths-end c = sym (length-take-le c.field_at-count.result _ (omega (arith, most c.requires 2 tt refl, c.field_at-count.ensures)))

pub widths_of-requires-clause-count_is : goal.widths_of-requires-clause-count_is
widths_of-requires-clause-count_is c =
    length-take-le c.field_at-count.result _ (omega (arith, most c.requires 2 tt refl, c.field_at-count.ensures)) ∙ c.field_at-count.ensures

pub raw_hash-requires-clause-count_in_range : goal.raw_hash-requires-clause-count_in_range
raw_hash-requires-clause-count_in_range c = omega (arith, most c.requires 2 tt refl, c.widths_of.ensures.count)

pub raw_hash-requires-clause-widths : goal.raw_hash-requires-clause-widths
raw_hash-requires-clause-widths c = record { each = widths_add c.requires c.widths_of.ensures.count c.widths_of.ensures.widths }

pub returns : goal.returns
unfolding plain_run
returns c =
    done_at (λ ws. hashes.raw_hash c.args.r ws) (widths_row_lem _ _ _ _ c.widths_of.ensures.count c.widths_of.ensures.widths) c.raw_hash.ensures
