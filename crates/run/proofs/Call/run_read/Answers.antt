-- `run_read` meets its contract.
-- Assumes nothing.
use Rattle.run.proofs.Ends.{well_counts}
use Rattle.run.proofs.Call.run_read.Goals as goal

pub run_table-requires-clause-count_in_range : goal.run_table-requires-clause-count_in_range
run_table-requires-clause-count_in_range c = well_counts _ _ _ c.judge_table.ensures c.in-Ok.is
