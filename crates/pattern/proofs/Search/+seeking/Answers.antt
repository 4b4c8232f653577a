-- `get_from` and `get_row` meet their contracts: by the pattern's mark; each element before k has not the name.
-- Assumes nothing.
use Rattle.std.proofs.Common.{refl, arith, rules}
use Rattle.book.proofs.Standing.{stands_begins}
use Rattle.named.proofs.Storing.{handed}
use Rattle.pattern.proofs.Selectors.{seeks_absent, seeks_found, seeks_full, sought_missing, sought_found, sought_full}
use Rattle.pattern.proofs.Memos.{memo_more, searched_on}
use Rattle.pattern.proofs.Passes.{passes_none, passes_all, passes_next, passes_found, passes_full}
use Rattle.pattern.proofs.Records.{finds_row, name_lies, row_count, row_lies, row_part, row_most}
use Rattle.pattern.proofs.Search.+seeking.Goals as goal

pub get_from-mark_at-requires : goal.get_from-mark_at-requires
get_from-mark_at-requires t c = search stands_begins

pub get_from-field_at-requires : goal.get_from-field_at-requires
get_from-field_at-requires t c = name_lies (search rules) _ c.mark_at.ensures c.in-8.is

pub get_row-field_at-n-requires : goal.get_row-field_at-n-requires
get_row-field_at-n-requires t c = search row_count

pub get_row-loop-k-init : goal.get_row-loop-k-init
get_row-loop-k-init t c = (search rules, passes_none (search row_most) (search finds_row))

pub get_row-field_at-part-requires : goal.get_row-field_at-part-requires
get_row-field_at-part-requires t c = search row_lies

pub get_row-get_from-requires : goal.get_row-get_from-requires
get_row-get_from-requires t c =
    let part = row_part c.requires.0 _ _ _ c.requires.1.0 c.field_at-n.ensures c.loop-k-test.true refl _ c.field_at-part.ensures in (omega (arith, part.1), (part.0, search rules))

pub get_row-returns-in_err-inner : goal.get_row-returns-in_err-inner
get_row-returns-in_err-inner t c =
    rw (handed c.from_residual.ensures.1)
    (searched_on c.in_err-inner.ensures.memo (seeks_full (passes_full c.loop-k.invariant.1 _ (omega arith) (omega arith) (sought_full (rw c.field_at-part.ensures at c.in_err-inner.ensures.sought)))))

pub get_row-returns-in_err-node : goal.get_row-returns-in_err-node
get_row-returns-in_err-node t c =
    rw (handed c.from_residual-in_err-node.ensures.1)
    (searched_on c.in_ok-inner.ensures.memo (seeks_full (passes_found c.loop-k.invariant.1 _ (omega arith) (omega arith) (sought_found (rw c.field_at-part.ensures at c.in_ok-inner.ensures.sought) c.in-Some.is) c.in_err-node.ensures)))

pub get_row-returns-in-Some : goal.get_row-returns-in-Some
get_row-returns-in-Some t c =
    searched_on c.in_ok-inner.ensures.memo (seeks_found (passes_found c.loop-k.invariant.1 _ (omega arith) (omega arith) (sought_found (rw c.field_at-part.ensures at c.in_ok-inner.ensures.sought) c.in-Some.is) c.in_ok-node.ensures))

pub get_row-loop-k-preserved : goal.get_row-loop-k-preserved
get_row-loop-k-preserved t c =
    (c.in_ok-inner.ensures.memo, passes_next c.loop-k.invariant.1 _ (omega arith) (omega arith) _ (omega arith) (sought_missing (rw c.field_at-part.ensures at c.in_ok-inner.ensures.sought) (search rules)))

pub get_row-returns : goal.get_row-returns
get_row-returns t c =
    let all = passes_all c.loop-k.invariant.1 (omega arith) in searched_on (memo_more _ c.loop-k.invariant.0 all.is) (seeks_absent all)
