-- `read::Reader::read_records` meets its contract: what is left of the book answers for it all.
-- Assumes nothing.
use Rattle.book.proofs.Going.{none_more, ended, ok_before, err_before, going_bad, going_further, going_on_lem}
use Rattle.std.proofs.lemmas.Result.{err_from_is_err_and}
use mathlib.Core.Path.{◌≡◌, ◌∙◌}
use borrow.Author.Rules.{rules}
use Rattle.book.specs.Faults.{refusal}
use native.Mathlib.Omega.{arith}
use Rattle.book.proofs.read.Reader.read_records.Goals as goal

pub returns-then-r-eq4096 : goal.returns-then-r-eq4096
returns-then-r-eq4096 c = rw (c.refusal.ensures, c.if-r-eq4096.true) (none_more _ _ _ c.loop-at-test.true c.if-r-eq4096.true ∙ c.loop-at.invariant.left)

pub returns-in_err-at : goal.returns-in_err-at
returns-in_err-at c =
    let p = err_from_is_err_and c.from_residual.result c.from_residual.ensures.1 in
    let z = err_before _ c.read_record.result _ c.map_err.ensures.cases _ c.in_err-at.was in
    let q : c.in_err-at.field-0.0 ≡ refusal z.0 c.loop-at.r = search (rules, z.2) in
    rw (p.1, p.2, q) (going_bad _ _ _ _ _ c.loop-at.invariant c.loop-at-test.true (omega (arith, c.loop-at.invariant.ready.rows.few, c.if-r-eq4096.false)) c.read_record.result c.read_record.new.self (c.read_record.ensures.moved, c.read_record.ensures.carried) _ z.1)

pub loop-at-smaller : goal.loop-at-smaller
loop-at-smaller c =
    let w = going_further _ _ _ _ _ c.loop-at.invariant c.loop-at-test.true (omega (arith, c.loop-at.invariant.ready.rows.few, c.if-r-eq4096.false)) c.read_record.result c.read_record.new.self (c.read_record.ensures.moved, c.read_record.ensures.carried) _ (ok_before _ c.read_record.result _ c.map_err.ensures.cases _ c.in_ok-at.was) in
    omega arith

pub loop-at-preserved : goal.loop-at-preserved
loop-at-preserved c =
    going_on_lem _ _ _ _ _ c.loop-at.invariant c.loop-at-test.true (omega (arith, c.loop-at.invariant.ready.rows.few, c.if-r-eq4096.false)) c.read_record.result c.read_record.new.self (c.read_record.ensures.moved, c.read_record.ensures.carried) _ (ok_before _ c.read_record.result _ c.map_err.ensures.cases _ c.in_ok-at.was)

pub returns : goal.returns
returns c = c.judge_loose.ensures _ ∙ (ended _ _ _ c.loop-at-test.false ∙ c.loop-at.invariant.left)
