-- `get_near` meets its contract: the bindings from `at` on have not the name, and `get_far` goes on from there.
-- Assumes nothing.
use Rattle.scope_bindings.specs.Scope.{lookup, newest}
use Rattle.scope_bindings.proofs.Reaches.{Misses}
use Rattle.scope_bindings.proofs.ScopeBindings.get_near.Given as goal

abbrev pub invariant-loop-at : goal.invariant-loop-at
invariant-loop-at l =
    Misses (lookup l.search.name (newest l.search.book.now.bytes l.search.book.now.index l.self.bindings l.self.count)) l.search.book.now.bytes l.search.book.now.index l.self.bindings l.self.count l.search.name l.at l.initial.nodes l.nodes
