-- `get_flat` meets its contract: by what the entry stands for.
-- Assumes nothing.
use Rattle.scope_bindings.proofs.Scopes.{binds_begins, binds_function, binds_pattern}
use Rattle.scope_bindings.proofs.get_flat.Goals as goal

pub mark_at-requires : goal.mark_at-requires
mark_at-requires c = search binds_begins

pub get_param-requires : goal.get_param-requires
get_param-requires c = search binds_function

pub get_shallow-requires : goal.get_shallow-requires
get_shallow-requires c = search binds_pattern
