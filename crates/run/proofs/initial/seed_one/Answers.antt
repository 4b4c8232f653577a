-- `initial::seed_one` meets its contract: a value's cell is stored, and nothing of another record.
-- Assumes nothing.
use mathlib.Core.Path.{sym, ◌∙◌}
use Rattle.run.proofs.Seeds.{one_other}
use Rattle.run.proofs.initial.seed_one.Goals as goal

pub returns-else-is_of : goal.returns-else-is_of
returns-else-is_of c =
    one_other c.args.book.now c.args.r c.requires.r_in_range (sym c.is_of.ensures ∙ c.if-is_of.false)
