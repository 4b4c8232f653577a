-- `read::Reader::judge_loose` meets its contract: what is left of the records answers for them all.
-- Assumes nothing.
use Rattle.book.proofs.Endings.{loose_here, loose_on, loose_last, loose_none, loose_all}
use Prim.Native.Nat.{◌-◌}
use mathlib.Core.Path.{◌≡◌, sym, ◌∙◌}
use native.Mathlib.Omega.{arith}
use Rattle.book.proofs.read.Reader.judge_loose.Goals as goal

pub returns-then-is_unnamed : goal.returns-then-is_unnamed
returns-then-is_unnamed c =
    λ p. rw c.refusal.ensures (loose_here _ _ _ _ (omega arith) (sym c.is_unnamed.ensures ∙ c.if-is_unnamed.true) ∙ (c.loop-j.invariant p ∙ loose_all _ _ _))

pub loop-j-preserved : goal.loop-j-preserved
loop-j-preserved c =
    λ p. loose_on _ _ _ _ (omega arith) (sym c.is_unnamed.ensures ∙ c.if-is_unnamed.false) ∙ c.loop-j.invariant p

pub returns-then-kind_at-ne-EXPRESSION : goal.returns-then-kind_at-ne-EXPRESSION
returns-then-kind_at-ne-EXPRESSION c =
    let e : c.loop-j.j ≡ c.args.count - 1 = omega arith in
    λ p. rw c.refusal-then-kind_at-ne-EXPRESSION.ensures (loose_last _ _ _ _ (omega arith) (λ z. c.if-kind_at-ne-EXPRESSION.true (c.kind_at.ensures ∙ z)) ∙ (rw e at (c.loop-j.invariant p) ∙ loose_all _ _ _))

pub returns : goal.returns
returns c =
    let e : c.loop-j.j ≡ c.args.count - 1 = omega arith in
    λ p. loose_none _ _ _ _ (omega arith) (sym c.kind_at.ensures ∙ c.if-kind_at-ne-EXPRESSION.false) ∙ (rw e at (c.loop-j.invariant p) ∙ loose_all _ _ _)
