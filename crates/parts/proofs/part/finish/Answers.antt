-- `finish` meets its contract: by way of an assert, or not.
-- Assumes nothing.
use Rattle.parts.specs.Joins.{finished}
use borrow.Author.Tests.{lt-ltb, le-ltb}
use Rattle.parts.proofs.part.finish.Goals as goal
use Rattle.parts.proofs.part.finish.Goals.{else-symbols-via-then-symbols+else-symbol-gt0, else-symbols-via-else-symbols}

pub returns-then-symbol-gt0 : goal.returns-then-symbol-gt0
unfolding finished
returns-then-symbol-gt0 c = rw (c.if-symbols.true, ← c.symbol_of-symbol.ensures, lt-ltb 0 _ c.if-symbol-gt0.true) c.with_symbol.ensures

pub returns-else-symbols : goal.returns-else-symbols
unfolding finished
returns-else-symbols c =
    elim c.else-symbols.branch [
      | else-symbols-via-then-symbols+else-symbol-gt0 w ↦ rw (w.if-symbols.true, ← c.symbol_of-symbol.ensures, le-ltb 0 _ w.if-symbol-gt0.false) c.put.ensures
      | else-symbols-via-else-symbols w ↦ rw w.if-symbols.false c.put.ensures
    ]
