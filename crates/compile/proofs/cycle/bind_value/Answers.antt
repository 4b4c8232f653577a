-- `bind_value` meets its contract: one binding too many, or the pair.
-- Assumes nothing.
use Rattle.compile.proofs.Steps.{at_full}
use Rattle.compile.proofs.cycle.bind_value.Goals as goal

pub returns-then-live-ge256 : goal.returns-then-live-ge256
returns-then-live-ge256 c = at_full _ _ _ _ c.if-live-ge256.true
