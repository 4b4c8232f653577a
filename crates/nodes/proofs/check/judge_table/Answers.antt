-- `nodes::judge_table` meets its contract: one law for each way.
-- Assumes nothing.
use Rattle.book.specs.Text.{text}
use Rattle.nodes.proofs.Checks.{judge_none, judge_many, judge_short, judge_well, judge_bad}
use Rattle.nodes.proofs.check.judge_table.Goals as goal

pub returns-then-count-eq0 : goal.returns-then-count-eq0
returns-then-count-eq0 c = judge_none (text _ _ _) _ _ c.if-count-eq0.true

pub returns-then-count-gt65535 : goal.returns-then-count-gt65535
returns-then-count-gt65535 c = judge_many (text _ _ _) _ _ c.if-count-eq0.false c.if-count-gt65535.true

pub returns-then-present-count : goal.returns-then-present-count
returns-then-present-count c = judge_short (text _ _ _) _ _ c.if-count-eq0.false c.if-count-gt65535.false c.if-present-count.true

pub returns-then-bad-count : goal.returns-then-bad-count
returns-then-bad-count c =
    judge_well (text _ _ _) _ _ c.if-count-eq0.false c.if-count-gt65535.false c.if-present-count.false c.first_bad-bad.ensures c.if-bad-count.true

pub returns-else-bad-count : goal.returns-else-bad-count
returns-else-bad-count c =
    judge_bad (text _ _ _) _ _ c.if-count-eq0.false c.if-count-gt65535.false c.if-present-count.false c.first_bad-bad.ensures c.if-bad-count.false
