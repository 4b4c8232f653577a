-- `lower_root` meets its contract: the root's nodes on a clear table, or a table that is cleared again.
-- Assumes nothing.
use Rattle.compile.proofs.Wholes.{root_made, root_refused}
use borrow.Author.Rules.{rules}
use Rattle.compile.proofs.lower_root.Goals as goal

pub returns-in-Ok : goal.returns-in-Ok
returns-in-Ok c =
    root_made _ _ _ _ _ c.from_root-scope.ensures c.requires.nodes_is c.new-table.ensures (search rules) (search rules) c.in-Ok.ensures

pub returns-in-Err : goal.returns-in-Err
returns-in-Err c =
    root_refused _ _ _ _ _ c.from_root-scope.ensures c.requires.nodes_is c.new-table.ensures (search rules) c.in-Err.ensures c.clear.ensures
