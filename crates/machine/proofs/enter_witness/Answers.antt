-- `enter_witness` meets its contract.
-- Assumes nothing.
use Rattle.machine.proofs.Turns.{answers_as}
use Rattle.machine.proofs.Backs.{witness_absent, witness_given, witness_refused}
use Rattle.machine.proofs.enter_witness.Goals as goal

pub returns-then-at-witnesses : goal.returns-then-at-witnesses
returns-then-at-witnesses c = answers_as (λ w. witness_absent _ _ _ w c.left_at.ensures c.if-at-witnesses.true) c.halt.ensures

pub returns-then-is_typed : goal.returns-then-is_typed
returns-then-is_typed c =
    answers_as (λ w. witness_given _ _ _ w c.left_at.ensures _ _ c.if-at-witnesses.false c.right_at.ensures c.word-r.ensures _ _ c.is_typed.ensures c.if-is_typed.true c.entry.ensures c.requires) c.back.ensures

pub returns : goal.returns
returns c =
    answers_as (λ w. witness_refused _ _ _ w c.left_at.ensures _ _ c.if-at-witnesses.false c.right_at.ensures c.word-r.ensures c.is_typed.ensures c.if-is_typed.false) c.halt-2.ensures
