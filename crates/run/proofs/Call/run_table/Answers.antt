-- `run_table` meets its contract.
-- Assumes nothing.
use mathlib.Core.Path.{◌∙◌}
use Rattle.run.proofs.Ends.{table_full, table_ran}
use Rattle.run.specs.Calls.{given_by}
use Rattle.run.proofs.Call.run_table.Goals as goal

pub returns-then-p : goal.returns-then-p
returns-then-p c =
    table_full (given_by c.args.self.now) c.args.self.now.count c.requires.cells_is c.seed_cells-p.ensures c.if-p.true c.seed_cells-p.auto.cells c.clear.ensures

pub returns : goal.returns
returns c =
    table_ran (given_by c.args.self.now) c.args.self.now.count c.requires.cells_is c.seed_cells-p.ensures c.if-p.false c.run_machine-end.ensures (c.run_machine-end.auto.cells ∙ c.seed_cells-p.auto.cells) c.answer_of.ensures
