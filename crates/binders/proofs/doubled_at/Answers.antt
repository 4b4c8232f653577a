-- `doubled_at` meets its contract: by the record's mark.
-- Assumes nothing.
use mathlib.Core.Path.{sym, ◌∙◌}
use Rattle.book.proofs.Standing.{stands_begins}
use Rattle.binders.proofs.Doubling.{row_stands, function_stands, blank_nameless, repeats_params, repeats_other}
use Rattle.binders.proofs.doubled_at.Goals as goal

pub mark_at-m-requires : goal.mark_at-m-requires
mark_at-m-requires c = stands_begins c.requires.stands

pub repeats-requires : goal.repeats-requires
repeats-requires c =
    record { stands = row_stands c.requires.stands c.mark_at-m.ensures c.if-m-eq-PT.true; mark_is = sym c.mark_at-m.ensures ∙ c.if-m-eq-PT.true; met = c.requires.met; nameless = c.requires.nameless; doubled = c.requires.doubled }

pub params_repeat-requires : goal.params_repeat-requires
params_repeat-requires c = record { stands = function_stands c.requires.stands c.mark_at-m.ensures c.if-m-eq-FN.true; met = c.requires.met }

pub returns-then-m-eq-FN : goal.returns-then-m-eq-FN
returns-then-m-eq-FN c =
    repeats_params (function_stands c.requires.stands c.mark_at-m.ensures c.if-m-eq-FN.true) c.params_repeat.ensures.0 c.params_repeat.ensures.1 c.requires.nameless

pub returns-then-m-eq-PN : goal.returns-then-m-eq-PN
returns-then-m-eq-PN c =
    repeats_other c.requires.stands c.mark_at-m.ensures c.if-m-eq-PT.false c.if-m-eq-FN.false c.requires.met (blank_nameless c.requires.stands c.mark_at-m.ensures c.requires.nameless c.if-m-eq-PN.true)

pub returns-else-m-eq-PN : goal.returns-else-m-eq-PN
returns-else-m-eq-PN c =
    repeats_other c.requires.stands c.mark_at-m.ensures c.if-m-eq-PT.false c.if-m-eq-FN.false c.requires.met c.requires.nameless
