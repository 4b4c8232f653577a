-- `read::Reader::settle_record` meets its contract: each way by its law.
-- Assumes nothing.
use Rattle.book.proofs.Joins.{joins}
use Rattle.book.proofs.read.Reader.settle_record.Goals as goal

pub returns-clause-carried : goal.returns-clause-carried
returns-clause-carried c = rw c.join_chain.ensures (joins _ _ _ _ _ _ c.requires.rows c.requires.chained c.requires.r_in_range)
