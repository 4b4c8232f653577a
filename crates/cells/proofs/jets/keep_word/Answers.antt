-- `keep_word` meets its contract: each width by itself.
-- Assumes nothing.
use Rattle.std.proofs.Common.{arith}
use Rattle.cells.proofs.Words.{keep_wide}
use Rattle.cells.proofs.jets.keep_word.Goals as goal

pub returns-in-0 : goal.returns-in-0
returns-in-0 c = keep_wide _ 0 c.in-0.is c.store.ensures

pub returns-in-1 : goal.returns-in-1
returns-in-1 c = keep_wide _ 1 c.in-1.is c.store-in-1.ensures

pub returns-in-2 : goal.returns-in-2
returns-in-2 c = keep_wide _ 2 c.in-2.is c.store-in-2.ensures

pub returns-in_default : goal.returns-in_default
returns-in_default c =
    keep_wide _ 3 (omega arith) c.store-in_default.ensures
