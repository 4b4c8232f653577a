-- `width_of` meets its contract: by the memo's length.
-- Assumes nothing.
use Rattle.binders.proofs.Bits.{width_few, width_many}
use Rattle.binders.proofs.width_of.Goals as goal

pub returns-then-length-le8192 : goal.returns-then-length-le8192
returns-then-length-le8192 c = width_few _ c.if-length-le8192.true

pub returns-else-length-le8192 : goal.returns-else-length-le8192
returns-else-length-le8192 c = width_many _ c.if-length-le8192.false
