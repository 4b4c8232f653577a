-- `mark` meets its contract: the bit that is added was not set, so that it fits and changes no other.
-- Assumes nothing.
use mathlib.Core.Path.{sym, ◌∙◌}
use native.Mathlib.Omega.{arith}
use Rattle.binders.proofs.Bits.{one_moved, marks_old, marks_new, mark_fits}
use Rattle.binders.proofs.mark.Goals as goal

pub returns-then-known : goal.returns-then-known
returns-then-known c = marks_old

pub returns-then-memo-at : goal.returns-then-memo-at
returns-then-memo-at c = marks_old

pub overflow_add-memo : goal.overflow_add-memo
overflow_add-memo c =
    omega (arith, mark_fits c.args.memo.now c.args.p c.args.t c.word_of-at.ensures c.if-memo-at.false (λ j. omega (arith, c.slice_known-2-1.given j)) (sym c.known.ensures ∙ c.if-known.false) (one_moved _ (omega arith)))

pub returns : goal.returns
returns c =
    marks_new c.args.memo.now c.args.p c.args.t c.word_of-at.ensures c.if-memo-at.false (λ j. omega (arith, c.slice_known-2-1.given j)) (sym c.known.ensures ∙ c.if-known.false) (one_moved _ (omega arith))
