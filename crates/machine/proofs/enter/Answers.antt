-- `enter` meets its contract.
-- Assumes nothing.
use mathlib.Core.Path.{sym, ap, ◌∙◌}
use Rattle.nodes.specs.Given.{cell_of}
use mathlib.Core.Logic.{inl, inr}
use Rattle.machine.proofs.Turns.{turned_answers, turned_handed, turned_down, turned_steep}
use Rattle.machine.proofs.Ways.{range_none, kind_iden, kind_unit, kind_injl, kind_injr, kind_comp, kind_pair, kind_fail, kind_witness, kind_scribe, kind_jet, kind_none}
use native.Mathlib.Omega.{arith}
use borrow.Author.Rules.{rules}
use Rattle.machine.proofs.enter.Goals as goal
use Rattle.machine.proofs.enter.Goals.{in_default-via-then-kind-lt1, in_default-via-else-kind-lt1+else-kind-lt7+else-kind-lt12}

pub returns-then-s-ge-DEEPEST : goal.returns-then-s-ge-DEEPEST
returns-then-s-ge-DEEPEST c = turned_steep c.requires.step_is.0 (omega (arith, c.if-s-ge-DEEPEST.true, c.requires.step_is.1)) c.halt.ensures

pub returns-in-1 : goal.returns-in-1
returns-in-1 c =
    turned_answers c.requires.step_is.0 c.if-s-ge-DEEPEST.false c.back.ensures (λ kids. kind_iden _ _ _ _ kids (sym c.kind_at-kind.ensures ∙ c.in-1.is))

pub returns-in-2 : goal.returns-in-2
returns-in-2 c =
    turned_answers c.requires.step_is.0 c.if-s-ge-DEEPEST.false c.back-in-2.ensures (λ kids. kind_unit _ _ _ _ kids (sym c.kind_at-kind.ensures ∙ c.in-2.is))

pub returns-in-3 : goal.returns-in-3
returns-in-3 c =
    turned_down c.requires.step_is.0 c.if-s-ge-DEEPEST.false c.down.ensures (λ kids. kind_injl _ _ _ _ kids _ (sym c.kind_at-kind.ensures ∙ c.in-3.is) c.left_at.ensures)

pub returns-in-4 : goal.returns-in-4
returns-in-4 c =
    turned_down c.requires.step_is.0 c.if-s-ge-DEEPEST.false c.down-in-4.ensures (λ kids. kind_injr _ _ _ _ kids _ (sym c.kind_at-kind.ensures ∙ c.in-4.is) c.left_at-in-4.ensures)

pub returns-in-7 : goal.returns-in-7
returns-in-7 c =
    turned_down c.requires.step_is.0 c.if-s-ge-DEEPEST.false c.down-in-7.ensures (λ kids. kind_comp _ _ _ _ kids _ (sym c.kind_at-kind.ensures ∙ c.in-7.is) c.left_at-in-7.ensures)

pub returns-in-9 : goal.returns-in-9
returns-in-9 c =
    turned_down c.requires.step_is.0 c.if-s-ge-DEEPEST.false c.down-in-9.ensures (λ kids. kind_pair _ _ _ _ kids _ (sym c.kind_at-kind.ensures ∙ c.in-9.is) c.left_at-in-9.ensures)

pub returns-in-12 : goal.returns-in-12
returns-in-12 c =
    turned_answers c.requires.step_is.0 c.if-s-ge-DEEPEST.false c.halt-in-12.ensures (λ kids. kind_fail _ _ _ _ kids (sym c.kind_at-kind.ensures ∙ c.in-12.is))

pub returns-in-13 : goal.returns-in-13
returns-in-13 c =
    turned_answers c.requires.step_is.0 c.if-s-ge-DEEPEST.false c.enter_witness.ensures (λ kids. kind_witness _ _ _ _ kids (sym c.kind_at-kind.ensures ∙ c.in-13.is))

pub returns-in-14 : goal.returns-in-14
returns-in-14 c =
    turned_answers c.requires.step_is.0 c.if-s-ge-DEEPEST.false c.back-in-14.ensures (λ kids. kind_scribe _ _ _ _ kids _ (sym c.kind_at-kind.ensures ∙ c.in-14.is) (c.entry.ensures ∙ c.requires.sound.placed.each _ ∙ ap (cell_of _) c.left_at-in-14.ensures))

pub returns-in-15 : goal.returns-in-15
returns-in-15 c =
    turned_handed c.requires.step_is.0 c.if-s-ge-DEEPEST.false c.enter_jet.ensures (λ kids. kind_jet _ _ _ _ kids _ (sym c.kind_at-kind.ensures ∙ c.in-15.is) c.left_at-in-15.ensures)

pub returns-in_default : goal.returns-in_default
returns-in_default c =
    turned_answers c.requires.step_is.0 c.if-s-ge-DEEPEST.false c.halt-in_default.ensures (λ kids. kind_none _ _ _ _ kids _ (sym c.kind_at-kind.ensures) (range_none _ c.in_default-1.rest (elim c.in_default.branch [ in_default-via-then-kind-lt1 w ↦ inl (search rules) | in_default-via-else-kind-lt1+else-kind-lt7+else-kind-lt12 w ↦ inr (search rules) ])))
