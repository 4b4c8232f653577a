-- `keep` meets its contract: nothing more is stored, or there is room, or there is none.
-- Assumes nothing.
use Rattle.std.proofs.Common.{arith, refl}
use Rattle.named.specs.Cut.{room}
use Rattle.cells.proofs.Keepings.{keep_shut, keep_fits, keep_none}
use Rattle.cells.proofs.table.keep.Goals as goal

pub returns-then-p : goal.returns-then-p
returns-then-p c = keep_shut _ _ _ _ _ c.if-p.true

pub overflow_add-result : goal.overflow_add-result
unfolding room
overflow_add-result c = omega (arith, c.if-write_entry.ensures.written refl)

pub returns-then-write_entry : goal.returns-then-write_entry
returns-then-write_entry c = keep_fits _ _ _ _ _ c.if-p.false (c.if-write_entry.ensures.written refl)

pub returns-else-write_entry : goal.returns-else-write_entry
returns-else-write_entry c = keep_none _ _ _ _ _ c.if-p.false (c.if-write_entry.ensures.full refl)
