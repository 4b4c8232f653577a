-- `get_among` meets its contract: each element before k is no row and has not the name.
-- Assumes nothing.
use mathlib.Core.Path.{refl, ◌∙◌}
use native.Mathlib.Omega.{arith}
use Rattle.named.proofs.Storing.{handed}
use Rattle.pattern.proofs.Selectors.{nears_absent, nears_nested, nears_found, nears_full, near_missing, near_nested, near_found, near_full}
use Rattle.pattern.proofs.Passes.{passes_none, passes_all, passes_next, passes_found, passes_full}
use Rattle.pattern.proofs.Records.{finds_row, row_count, row_lies, row_part, row_most}
use Rattle.pattern.proofs.Search.get_among.Goals as goal

pub field_at-n-requires : goal.field_at-n-requires
field_at-n-requires c = search row_count

pub loop-k-init : goal.loop-k-init
loop-k-init c = passes_none (search row_most) (search finds_row)

pub field_at-part-requires : goal.field_at-part-requires
field_at-part-requires c = search row_lies

pub get_single-requires : goal.get_single-requires
get_single-requires c =
    (row_part c.requires.stands _ _ _ c.requires.mark_is c.field_at-n.ensures c.loop-k-test.true refl _ c.field_at-part.ensures).0

pub returns-in_err-get_single : goal.returns-in_err-get_single
returns-in_err-get_single c =
    rw (handed c.from_residual.ensures.1)
    (nears_full (passes_full c.loop-k.invariant _ c.loop-k-test.true (omega arith) (near_full (rw c.field_at-part.ensures at c.in_err-get_single.ensures))))

pub returns-in-Nested : goal.returns-in-Nested
returns-in-Nested c = nears_nested (near_nested c.in_ok-get_single.ensures c.in-Nested.is ∙ c.loop-k.invariant.table)

pub returns-in_err-node-in-Found : goal.returns-in_err-node-in-Found
returns-in_err-node-in-Found c =
    rw (handed c.from_residual-in_err-node-in-Found.ensures.1)
    (nears_full (passes_found c.loop-k.invariant _ c.loop-k-test.true (omega arith) (near_found (rw c.field_at-part.ensures at c.in_ok-get_single.ensures) c.in-Found.is) c.in_err-node-in-Found.ensures))

pub returns-in-Found : goal.returns-in-Found
returns-in-Found c =
    nears_found (passes_found c.loop-k.invariant _ c.loop-k-test.true (omega arith) (near_found (rw c.field_at-part.ensures at c.in_ok-get_single.ensures) c.in-Found.is) c.in_ok-node-in-Found.ensures)

pub loop-k-preserved : goal.loop-k-preserved
loop-k-preserved c =
    passes_next c.loop-k.invariant _ (omega arith) (omega arith) _ (omega arith) (near_missing (rw c.field_at-part.ensures at c.in_ok-get_single.ensures) c.in-Missing.is)

pub returns : goal.returns
returns c = nears_absent (passes_all c.loop-k.invariant (omega arith))
