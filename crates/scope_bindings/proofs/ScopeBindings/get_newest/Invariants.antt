-- `get_newest` meets its contract: the bindings from `at` on have not the name.
-- Assumes nothing.
use Rattle.pattern.specs.Seeks.{Memo}
use Rattle.scope_bindings.specs.Scope.{lookup_below}
use Rattle.scope_bindings.proofs.Reaches.{Misses}
use Rattle.scope_bindings.proofs.ScopeBindings.get_newest.Given as goal

abbrev pub invariant-loop-at : goal.invariant-loop-at
invariant-loop-at l =
    Memo l.search.book.now.bytes l.search.book.now.index l.search.name l.missing × Misses (lookup_below l.search.book.now.bytes l.search.book.now.index l.self.bindings l.self.count l.from l.search.name) l.search.book.now.bytes l.search.book.now.index l.self.bindings l.self.count l.search.name l.at l.initial.nodes l.nodes
