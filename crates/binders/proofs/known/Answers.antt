-- `known` meets its contract: the pair's bit in its word, if there is one.
-- Assumes nothing.
use Rattle.binders.proofs.Bits.{marked_beyond, marked_bit}
use Rattle.binders.proofs.known.Goals as goal

pub returns-then-memo-at : goal.returns-then-memo-at
returns-then-memo-at c = marked_beyond _ _ _ c.word_of-at.ensures c.if-memo-at.true

pub returns : goal.returns
returns c = marked_bit _ _ _ c.word_of-at.ensures
