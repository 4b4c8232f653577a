-- `note_all` and `note_row` meet their contracts: by the pattern's mark; each name of the elements before k was met.
-- Assumes nothing.
use mathlib.Core.Path.{refl, sym, ◌∙◌}
use native.Mathlib.Omega.{arith}
use borrow.Author.Rules.{rules}
use Rattle.book.proofs.Standing.{stands_begins}
use Rattle.pattern.proofs.Records.{name_lies, row_count, row_lies, row_part}
use Rattle.binders.proofs.Names.{names_row_lem, names_one, names_none}
use Rattle.binders.proofs.Tallies.{nameless_more, notes_none, meets_none, meets_named, meets_nameless, meets_twice, meets_more, meets_same}
use Rattle.binders.proofs.+noting.Goals as goal
use Rattle.binders.proofs.+noting.Goals.{note_row-in-Named, note_row-in-Unnamed}

pub note_all-returns-then-nameless-p : goal.note_all-returns-then-nameless-p
note_all-returns-then-nameless-p t c = record { nameless = search rules; notes = notes_none c.requires.1.0 (c.requires.1.1.sound _ c.if-nameless-p.true) }

pub note_all-mark_at-mark-requires : goal.note_all-mark_at-mark-requires
note_all-mark_at-mark-requires t c = search stands_begins

pub note_all-field_at-name-requires : goal.note_all-field_at-name-requires
note_all-field_at-name-requires t c = name_lies (search rules) _ c.mark_at-mark.ensures c.if-mark-eq-PI.true

pub note_all-returns-then-mark-eq-PI : goal.note_all-returns-then-mark-eq-PI
note_all-returns-then-mark-eq-PI t c =
    record { nameless = search rules; notes = rw (names_one c.requires.0 _ (sym c.mark_at-mark.ensures ∙ c.if-mark-eq-PI.true) c.field_at-name.ensures) c.note.ensures }

pub note_all-returns : goal.note_all-returns
note_all-returns t c =
    record { nameless = search rules; notes = notes_none c.requires.1.0 (names_none (search rules) (λ e. c.if-mark-eq-PT.false (c.mark_at-mark.ensures ∙ e)) (λ e. c.if-mark-eq-PI.false (c.mark_at-mark.ensures ∙ e))) }

pub note_row-field_at-n-requires : goal.note_row-field_at-n-requires
note_row-field_at-n-requires t c = search row_count

pub note_row-loop-k-init : goal.note_row-loop-k-init
note_row-loop-k-init t c = (search rules, meets_none (search rules) (search names_row_lem))

pub note_row-field_at-part-requires : goal.note_row-field_at-part-requires
note_row-field_at-part-requires t c = search row_lies

pub note_row-note_all-requires : goal.note_row-note_all-requires
note_row-note_all-requires t c =
    let part = row_part c.requires.0 _ _ _ c.requires.1.0 c.field_at-n.ensures c.loop-k-test.true refl _ c.field_at-part.ensures in (omega (arith, part.1), (part.0, search rules))

pub note_row-returns-in-Twice : goal.note_row-returns-in-Twice
note_row-returns-in-Twice t c =
    record { nameless = c.note_all.ensures.nameless; notes = meets_twice c.loop-k.invariant.1 _ (omega arith) (omega arith) (rw c.field_at-part.ensures at c.note_all.ensures.notes) (search rules) }

pub note_row-loop-k-preserved : goal.note_row-loop-k-preserved
note_row-loop-k-preserved t c =
    (c.note_all.ensures.nameless, let one = rw c.field_at-part.ensures at c.note_all.ensures.notes in elim c.match-note_all.branch [ note_row-in-Named w ↦ meets_more c.loop-k.invariant.1 _ (omega arith) (omega arith) one _ (omega arith) w.in-Named.is w.any-is | note_row-in-Unnamed w ↦ meets_same c.loop-k.invariant.1 _ (omega arith) (omega arith) one _ (omega arith) w.in-Unnamed.is w.any-is ])

pub note_row-returns-then-any : goal.note_row-returns-then-any
note_row-returns-then-any t c = record { nameless = c.loop-k.invariant.0; notes = meets_named c.loop-k.invariant.1 (omega arith) }

pub note_row-returns : goal.note_row-returns
note_row-returns t c =
    let all = meets_nameless c.loop-k.invariant.1 (omega arith) c.if-any.false in record { nameless = nameless_more c.loop-k.invariant.0 _ all.0; notes = all.1 }
