-- `read::Reader::read_record` meets its contract: the frame, the fields, and then its place.
-- Assumes nothing.
use Rattle.book.proofs.Endings.{settle_bad, settle_good, step_opens, step_bad, step_settles, step_place}
use Rattle.book.specs.Read.{state}
use Rattle.std.proofs.lemmas.Result.{err_from_is_err_and}
use mathlib.Core.Path.{◌∙◌}
use Rattle.book.proofs.read.Reader.read_record.Goals as goal

pub returns-in_err-frame-clause-moved : goal.returns-in_err-frame-clause-moved
returns-in_err-frame-clause-moved c =
    let p = err_from_is_err_and c.from_residual.result c.from_residual.ensures.1 in
    rw (p.1, p.2) (step_bad _ (state c.args.at c.args.r c.args.self.now.index c.args.self.now.named c.args.self.now.depths) _ c.in_err-frame.ensures)

pub judge_fields-requires-clause-opens : goal.judge_fields-requires-clause-opens
judge_fields-requires-clause-opens c =
    let b = c.args.book.now in
    let u = state c.args.at c.args.r c.args.self.now.index c.args.self.now.named c.args.self.now.depths in
    step_opens b u _ c.in_ok-frame.ensures c.requires.ready.rows.size

pub settle_record-requires-clause-opens : goal.settle_record-requires-clause-opens
settle_record-requires-clause-opens c =
    let b = c.args.book.now in
    let u = state c.args.at c.args.r c.args.self.now.index c.args.self.now.named c.args.self.now.depths in
    step_opens b u _ c.in_ok-frame.ensures c.requires.ready.rows.size

pub returns-in_err-deep-clause-moved : goal.returns-in_err-deep-clause-moved
returns-in_err-deep-clause-moved c =
    let b = c.args.book.now in
    let u = state c.args.at c.args.r c.args.self.now.index c.args.self.now.named c.args.self.now.depths in
    let e = step_place b u _ c.in_ok-frame.ensures in
    let p = err_from_is_err_and c.from_residual-in_err-deep.result c.from_residual-in_err-deep.ensures.1 in
    rw (p.1, p.2) (settle_bad b u _ _ _ (rw e at c.judge_fields.ensures.verdict) _ c.in_err-deep.was ∙ step_settles b u _ c.in_ok-frame.ensures)

pub returns-clause-moved : goal.returns-clause-moved
returns-clause-moved c =
    let b = c.args.book.now in
    let u = state c.args.at c.args.r c.args.self.now.index c.args.self.now.named c.args.self.now.depths in
    let e = step_place b u _ c.in_ok-frame.ensures in
    let k = c.judge_fields.ensures.others in
    rw (k.index, k.depths, e) at (c.settle_record.ensures.moved c.args.self.now.named) ∙ (settle_good b u _ _ _ (rw e at c.judge_fields.ensures.verdict) _ c.in_ok-deep.was ∙ step_settles b u _ c.in_ok-frame.ensures)
