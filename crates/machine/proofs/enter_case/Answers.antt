-- `enter_case` meets its contract.
-- Assumes nothing.
use mathlib.Core.Path.{sym, ◌∙◌}
use Rattle.machine.proofs.Turns.{turned_answers, turned_entered}
use Rattle.machine.proofs.Ways.{branch_other, branch_none, branch_left, branch_right, branch_hidden_left, branch_hidden_right}
use native.Mathlib.Omega.{arith}
use borrow.Author.Rules.{rules}
use Rattle.machine.proofs.enter_case.Goals as goal

pub returns-then-kind_at-ne-PAIR : goal.returns-then-kind_at-ne-PAIR
returns-then-kind_at-ne-PAIR c =
    λ b ws. turned_answers c.requires.step_is.0 c.requires.step_is.1 c.halt.ensures (λ kids. branch_other _ _ _ _ kids _ c.requires.kind_at_is.0 c.requires.kind_at_is.1 (λ z. c.if-kind_at-ne-PAIR.true (c.kind_at.ensures ∙ z)))

pub returns-in-2 : goal.returns-in-2
returns-in-2 c =
    λ b ws. turned_answers c.requires.step_is.0 c.requires.step_is.1 c.halt-in-2.ensures (λ kids. branch_hidden_left _ _ _ _ kids _ c.requires.kind_at_is.0 c.requires.kind_at_is.1 _ (sym c.kind_at.ensures ∙ c.if-kind_at-ne-PAIR.false) c.left_at-sum.ensures (sym c.kind_at-side.ensures ∙ c.in-2.is) c.if-kind-eq-ASSERTR.true)

-- the child's number is left to the search, which names no call
pub returns-in-2-2 : goal.returns-in-2-2
returns-in-2-2 c =
    λ b ws. turned_entered c.requires.step_is.0 c.requires.step_is.1 c.hand_on.ensures (λ kids. branch_left _ _ _ _ kids _ c.requires.kind_at_is.0 c.requires.kind_at_is.1 _ (sym c.kind_at.ensures ∙ c.if-kind_at-ne-PAIR.false) c.left_at-sum.ensures _ _ _ (sym c.kind_at-side.ensures ∙ c.in-2.is) c.if-kind-eq-ASSERTR.false (search rules) c.left_at-a.ensures c.right_at-e.ensures)

pub returns-in-3 : goal.returns-in-3
returns-in-3 c =
    λ b ws. turned_answers c.requires.step_is.0 c.requires.step_is.1 c.halt-in-3.ensures (λ kids. branch_hidden_right _ _ _ _ kids _ c.requires.kind_at_is.0 c.requires.kind_at_is.1 _ (sym c.kind_at.ensures ∙ c.if-kind_at-ne-PAIR.false) c.left_at-sum.ensures (sym c.kind_at-side.ensures ∙ c.in-3.is) c.if-kind-eq-ASSERTL.true)

pub returns-in-3-2 : goal.returns-in-3-2
returns-in-3-2 c =
    λ b ws. turned_entered c.requires.step_is.0 c.requires.step_is.1 c.hand_on-in-3-2.ensures (λ kids. branch_right _ _ _ _ kids _ c.requires.kind_at_is.0 c.requires.kind_at_is.1 _ (sym c.kind_at.ensures ∙ c.if-kind_at-ne-PAIR.false) c.left_at-sum.ensures _ _ _ (sym c.kind_at-side.ensures ∙ c.in-3.is) c.if-kind-eq-ASSERTL.false (search rules) c.left_at-a.ensures c.right_at-e.ensures)

pub returns-in_default : goal.returns-in_default
returns-in_default c =
    λ b ws. turned_answers c.requires.step_is.0 c.requires.step_is.1 c.halt-in_default.ensures (λ kids. branch_none _ _ _ _ kids _ c.requires.kind_at_is.0 c.requires.kind_at_is.1 _ (sym c.kind_at.ensures ∙ c.if-kind_at-ne-PAIR.false) c.left_at-sum.ensures (λ z. omega arith) (λ z. omega arith))
