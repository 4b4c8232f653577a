-- `get_bound` meets its contract: by what the entry stands for.
-- Assumes nothing.
use Rattle.std.proofs.Common.{rules}
use Rattle.scope_bindings.proofs.Scopes.{binds_begins, binds_function, binds_pattern}
use Rattle.scope_bindings.proofs.get_bound.Goals as goal

pub mark_at-requires : goal.mark_at-requires
mark_at-requires c = search (binds_begins, rules)

pub get_param-requires : goal.get_param-requires
get_param-requires c = search (binds_function, rules)

pub get_from-requires : goal.get_from-requires
get_from-requires c = (search (binds_pattern, rules), c.requires.memo)
