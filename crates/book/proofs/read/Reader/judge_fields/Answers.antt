-- `read::Reader::judge_fields` meets its contract: what is left of the fields answers for them all.
-- Assumes nothing.
use Rattle.book.proofs.Frames.{layout_is, field_within, role_is, total_at_lem}
use Rattle.book.proofs.Ways.{field_refused, field_passed, fields_end, fields_all}
use mathlib.Core.Path.{sym, ◌∙◌}
use native.Mathlib.Omega.{arith}
use borrow.Author.Rules.{rules}
use Rattle.std.proofs.lemmas.Result.{err_from_is_err_and}
use Rattle.book.proofs.read.Reader.judge_fields.Goals as goal

pub judge_field-requires-clause-at_fits : goal.judge_field-requires-clause-at_fits
judge_field-requires-clause-at_fits c =
    let t = (total_at_lem _ _ _ _ _ (layout_is _ _ _ _ c.layout_of-layout.ensures c.requires.opens.mark) c.requires.opens.count c.total_of-total.ensures) in
    omega (arith, field_within c.args.book.now c.args.frame.at c.loop-k.k (rw t at c.loop-k-test.true), c.requires.opens.framed.ends)

pub judge_field-requires-clause-role_is : goal.judge_field-requires-clause-role_is
judge_field-requires-clause-role_is c = role_is _ _ _ _ _ _ (layout_is _ _ _ _ c.layout_of-layout.ensures c.requires.opens.mark) c.requires.opens.count c.role_of-role.ensures

pub returns-in_err-deep-clause-verdict : goal.returns-in_err-deep-clause-verdict
returns-in_err-deep-clause-verdict c =
    let k = c.loop-k.invariant.1 in
    let p = err_from_is_err_and c.from_residual.result c.from_residual.ensures.1 in
    let t = total_at_lem _ _ _ _ _ (layout_is _ _ _ _ c.layout_of-layout.ensures c.requires.opens.mark) c.requires.opens.count c.total_of-total.ensures in
    rw (p.1, p.2) (field_refused _ _ _ _ _ _ _ _ _ c.loop-k-test.true _ _ (rw (k.index, k.depths) at c.judge_field.ensures.verdict) _ c.in_err-deep.was ∙ (c.loop-k.invariant.0 ∙ fields_all _ _ _ _ _ _ _ _ _ t))

pub loop-k-preserved : goal.loop-k-preserved
loop-k-preserved c =
    let k = c.loop-k.invariant.1 in
    (field_passed _ _ _ _ _ _ _ _ _ c.loop-k-test.true _ _ (rw (k.index, k.depths) at c.judge_field.ensures.verdict) _ c.in_ok-deep.was ∙ c.loop-k.invariant.0, search rules)

pub returns-clause-verdict : goal.returns-clause-verdict
returns-clause-verdict c = sym (fields_end _ _ _ _ _ _ _ _ _ c.loop-k-test.false) ∙ (c.loop-k.invariant.0 ∙ fields_all _ _ _ _ _ _ _ _ _ (total_at_lem _ _ _ _ _ (layout_is _ _ _ _ c.layout_of-layout.ensures c.requires.opens.mark) c.requires.opens.count c.total_of-total.ensures))
