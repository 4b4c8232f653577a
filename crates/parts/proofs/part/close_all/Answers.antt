-- `close_all` meets its contract: what is left of the block suffices, from the last statement on.
-- Assumes nothing.
use native.Mathlib.Omega.{arith}
use Rattle.named.proofs.Storing.{handed}
use Rattle.parts.proofs.Spans.{stmt_lies, stmt_stands}
use Rattle.parts.proofs.Ends.{close_none, close_next, close_halt}
use Rattle.parts.proofs.part.close_all.Goals as goal

pub loop-k-init : goal.loop-k-init
loop-k-init c = λ s u p. p

pub field_at-s-requires : goal.field_at-s-requires
field_at-s-requires c = stmt_lies c.requires.marked _ (omega (arith, c.requires.count_is))

pub close-requires : goal.close-requires
close-requires c = stmt_stands c.requires.marked _ (omega (arith, c.requires.count_is)) c.field_at-s.ensures

pub loop-k-preserved : goal.loop-k-preserved
loop-k-preserved c =
    λ s u p. c.loop-k.invariant s u (close_next _ _ _ _ _ _ _ _ (omega arith) c.field_at-s.ensures c.in_ok-rest.ensures p)

pub returns-in_err-rest : goal.returns-in_err-rest
returns-in_err-rest c =
    rw (handed c.from_residual.ensures.1) (c.loop-k.invariant _ _ (close_halt _ _ _ _ _ _ _ _ (omega arith) c.field_at-s.ensures c.in_err-rest.ensures))

pub returns : goal.returns
returns c = c.loop-k.invariant _ _ (close_none _ _ _ _ _ _ c.loop-k-test.false)
