-- `word_of` meets its contract: the pattern's words have a bit for the type, or have none.
-- Assumes nothing.
use native.Mathlib.Omega.{arith}
use Rattle.binders.proofs.Bits.{width_most, width_fits, word_none, word_some}
use Rattle.binders.proofs.word_of.Goals as goal

pub overflow_mul-width : goal.overflow_mul-width
overflow_mul-width c = omega (arith, width_most _ c.width_of-width.ensures)

pub returns-then-width-t : goal.returns-then-width-t
returns-then-width-t c = word_none _ _ _ c.width_of-width.ensures c.if-width-t.true

pub overflow_mul-result : goal.overflow_mul-result
overflow_mul-result c = omega (arith, width_fits _ c.width_of-width.ensures c.requires)

pub overflow_add-result : goal.overflow_add-result
overflow_add-result c = omega (arith, width_most _ c.width_of-width.ensures, width_fits _ c.width_of-width.ensures c.requires)

pub returns : goal.returns
returns c = word_some _ _ _ c.width_of-width.ensures c.if-width-t.false
