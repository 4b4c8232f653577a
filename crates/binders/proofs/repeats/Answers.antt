-- `repeats` meets its contract: by the record that has the row's names; a row of its own is met on top of none with this stamp.
-- Assumes nothing.
use mathlib.Core.Path.{refl, sym}
use borrow.Author.Rules.{rules}
use Rattle.binders.proofs.Tallies.{met_fresh, notes_twice, notes_new_all, notes_empty}
use Rattle.binders.proofs.Doubling.{repeats_row, repeats_none, repeats_part}
use Rattle.binders.proofs.repeats.Goals as goal

pub returns-in_default : goal.returns-in_default
returns-in_default c = repeats_none c.requires.stands c.requires.met c.requires.nameless c.in_default.ensures

pub returns-then-s-p : goal.returns-then-s-p
returns-then-s-p c =
    repeats_part c.requires.stands c.requires.met c.requires.nameless c.in-Some.ensures c.requires.doubled c.if-s-p.true

pub returns-in-Twice : goal.returns-in-Twice
returns-in-Twice c =
    repeats_row c.requires.stands (sym (notes_twice c.note_all.ensures.notes (met_fresh c.requires.met refl) (search rules))) c.note_all.ensures.notes.row c.note_all.ensures.nameless

pub returns-in-Named : goal.returns-in-Named
returns-in-Named c =
    repeats_row c.requires.stands (sym (notes_new_all c.note_all.ensures.notes (met_fresh c.requires.met refl) (search rules))) c.note_all.ensures.notes.row c.note_all.ensures.nameless

pub returns-in-Unnamed : goal.returns-in-Unnamed
returns-in-Unnamed c =
    repeats_row c.requires.stands (sym (notes_empty c.note_all.ensures.notes (met_fresh c.requires.met refl) (search rules))) c.note_all.ensures.notes.row c.note_all.ensures.nameless
