-- `initial::seed_value` meets its contract: in each arm the cell of the mark, its parts' cells by the row.
-- Assumes nothing.
use mathlib.Core.Path.{sym, ◌∙◌}
use Rattle.book.specs.Format.{VALUE, VL, VR, VP}
use Rattle.book.proofs.Standing.{stands_begins, head_lies}
use Rattle.book.specs.Text.{text}
use Rattle.nodes.proofs.Checks.{holds_stands}
use Rattle.run.proofs.Seeds.{pair_mark, seed_unit, seed_left, seed_right, seed_pair, seed_kept}
use Rattle.run.proofs.initial.seed_value.Goals as goal

pub mark_at-requires : goal.mark_at-requires
mark_at-requires c = stands_begins (holds_stands (text _ _ _) VALUE _ c.requires.sound.valid c.requires.holds_is)

pub part-requires : goal.part-requires
part-requires c =
    head_lies (holds_stands (text _ _ _) VALUE _ c.requires.sound.valid c.requires.holds_is) VL (sym c.mark_at.ensures ∙ c.in-5.is) 1 tt

pub part-requires-in-6 : goal.part-requires-in-6
part-requires-in-6 c =
    head_lies (holds_stands (text _ _ _) VALUE _ c.requires.sound.valid c.requires.holds_is) VR (sym c.mark_at.ensures ∙ c.in-6.is) 1 tt

pub part-requires-in_default : goal.part-requires-in_default
part-requires-in_default c =
    head_lies (holds_stands (text _ _ _) VALUE _ c.requires.sound.valid c.requires.holds_is) VP (pair_mark (holds_stands (text _ _ _) VALUE _ c.requires.sound.valid c.requires.holds_is) c.mark_at.ensures c.in_default.in_default-own.rest) 1 tt

pub part-requires-in_default-2 : goal.part-requires-in_default-2
part-requires-in_default-2 c =
    head_lies (holds_stands (text _ _ _) VALUE _ c.requires.sound.valid c.requires.holds_is) VP (pair_mark (holds_stands (text _ _ _) VALUE _ c.requires.sound.valid c.requires.holds_is) c.mark_at.ensures c.in_default.in_default-own.rest) 2 tt

pub returns-in-4 : goal.returns-in-4
returns-in-4 c = seed_kept c.keep.ensures (seed_unit (text _ _ _) _ (sym c.mark_at.ensures ∙ c.in-4.is))

pub returns-in-5 : goal.returns-in-5
returns-in-5 c =
    seed_kept c.keep-in-5.ensures (seed_left (text _ _ _) _ (sym c.mark_at.ensures ∙ c.in-5.is) (c.part.ensures ∙ c.requires.sound.placed.each _))

pub returns-in-6 : goal.returns-in-6
returns-in-6 c =
    seed_kept c.keep-in-6.ensures (seed_right (text _ _ _) _ (sym c.mark_at.ensures ∙ c.in-6.is) (c.part-in-6.ensures ∙ c.requires.sound.placed.each _))

pub returns-in_default : goal.returns-in_default
returns-in_default c =
    seed_kept c.keep-in_default.ensures (seed_pair (text _ _ _) _ (pair_mark (holds_stands (text _ _ _) VALUE _ c.requires.sound.valid c.requires.holds_is) c.mark_at.ensures c.in_default.in_default-own.rest) (c.part-in_default.ensures ∙ c.requires.sound.placed.each _) (c.part-in_default-2.ensures ∙ c.requires.sound.placed.each _))
