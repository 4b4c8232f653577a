-- `newest_type` meets its contract: the bindings from `at` on have not the name.
-- Assumes nothing.
use Rattle.std.proofs.Common.{length}
use Rattle.pattern.specs.Seeks.{Memo}
use Rattle.binders.proofs.Scopes.{Older}
use Rattle.binders.proofs.newest_type.Given as goal

abbrev pub invariant-loop-at : goal.invariant-loop-at
invariant-loop-at l = Memo l.book.bytes l.book.index l.name l.missing × Older l.book.bytes l.book.index l.bindings (length l.bindings) l.fn.base l.name l.at
