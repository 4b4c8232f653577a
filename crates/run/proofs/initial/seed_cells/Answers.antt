-- `initial::seed_cells` meets its contract: cell 0 and the cells of the first r records are stored.
-- Assumes nothing.
use native.Mathlib.Omega.{arith}
use Rattle.book.specs.Text.{text}
use Rattle.run.proofs.Seeds.{start_unit, start_one, start_all}
use Rattle.run.proofs.initial.seed_cells.Goals as goal

pub loop-r-preserved : goal.loop-r-preserved
loop-r-preserved c = λ s h. start_one (text _ _ _) _ (c.loop-r.invariant s h) c.seed_one-p.ensures

pub returns : goal.returns
returns c =
    start_all (text _ _ _) (omega arith) (c.loop-r.invariant _ (start_unit (text _ _ _) c.from.ensures c.keep-p.ensures))
