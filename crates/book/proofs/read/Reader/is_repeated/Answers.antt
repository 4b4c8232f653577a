-- `read::Reader::is_repeated` meets its contract: the walk begins at the head of its chain.
-- Assumes nothing.
use Rattle.book.proofs.Chains.{walk_start}
use mathlib.Core.Path.{sym, ◌∙◌}
use Rattle.book.proofs.read.Reader.is_repeated.Goals as goal

pub loop-j-init : goal.loop-j-init
loop-j-init c =
    walk_start c.requires.rows c.requires.chained c.requires.opens (sym c.kind_of.ensures ∙ c.if-kind_of-ne-TYPE.false) _ c.chain_of.ensures.0
