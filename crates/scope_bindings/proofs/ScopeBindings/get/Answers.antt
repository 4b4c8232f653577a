-- `get` meets its contract: by what the search finds.
-- Assumes nothing.
use Rattle.named.proofs.Storing.{handed}
use Rattle.scope_bindings.proofs.Reaches.{fetch_full, fetch_answer}
use Rattle.scope_bindings.proofs.ScopeBindings.get.Goals as goal

pub returns-in_err-found : goal.returns-in_err-found
returns-in_err-found c = rw (handed c.from_residual.ensures.1) (fetch_full c.in_err-found.ensures)

pub returns : goal.returns
returns c = fetch_answer c.in_ok-found.ensures c.ok_or.ensures.value
