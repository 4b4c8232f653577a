-- `read::frame_from` meets its contract: a cut head is a cut record.
-- Assumes nothing.
use Prim.Native.Nat.{◌+◌, ◌*◌}
use Rattle.book.proofs.Frames.{layout_is, cut_head, cut_frame, whole_frame, count_is, end_is}
use mathlib.Core.Path.{◌≡◌}
use native.Mathlib.Omega.{arith}
use Rattle.book.specs.Read.{end_at}
use Rattle.book.proofs.read.frame_from.Goals as goal

pub returns-then-book-at : goal.returns-then-book-at
returns-then-book-at c = cut_head _ _ _ (layout_is _ _ _ _ c.layout_of-layout.ensures c.requires.mark_is) c.if-book-at.true

pub returns-then-book-end : goal.returns-then-book-end
returns-then-book-end c =
    let is = layout_is _ _ _ _ c.layout_of-layout.ensures c.requires.mark_is in
    let e : c.args.at + 2 + 2 * c.total_of.result ≡ end_at c.args.book.now c.args.at = end_is _ _ _ is _ _ c.count_in-count.ensures.0 c.total_of.ensures in
    cut_frame _ _ (omega arith)

pub returns : goal.returns
returns c =
    let is = layout_is _ _ _ _ c.layout_of-layout.ensures c.requires.mark_is in
    let e : c.args.at + 2 + 2 * c.total_of.result ≡ end_at c.args.book.now c.args.at = end_is _ _ _ is _ _ c.count_in-count.ensures.0 c.total_of.ensures in
    rw (c.requires.mark_is, count_is _ _ _ is _ c.count_in-count.ensures.0, e) (whole_frame _ _ (omega arith))
