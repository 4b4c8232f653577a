-- `nodes::first_bad` meets its contract: the nodes before n are well formed, and so are the operands before k.
-- Assumes nothing.
use borrow.Author.Rules.{rules}
use Rattle.book.specs.Text.{text}
use Rattle.nodes.proofs.Checks.{operand_by, formed_by, formed_not, scan_on, scan_stops, scan_ends}
use Rattle.nodes.proofs.check.first_bad.Goals as goal

pub scan-preserved : goal.scan-preserved
scan-preserved c = (
  search rules,
  scan_on (text _ _ _) _ _ _ c.scan.invariant.0 c.scan.invariant.1 c.if-n-count.false
      (formed_by (text _ _ _) _ _ _ c.loop-k-test.false c.loop-k.invariant),
)

pub returns-then-n-count : goal.returns-then-n-count
returns-then-n-count c = scan_ends (text _ _ _) _ _ _ c.scan.invariant.0 c.scan.invariant.1 c.if-n-count.true

pub returns-then-not-fits_role : goal.returns-then-not-fits_role
returns-then-not-fits_role c =
    scan_stops (text _ _ _) _ _ _ c.scan.invariant.0 c.scan.invariant.1 c.if-n-count.false
    (formed_not (text _ _ _) _ _ _ c.loop-k-test.true
    (operand_by (text _ _ _) _ _ c.loop-k.k c.kind_at-kind.ensures c.role_at.ensures c.operand.ensures c.fits_role.ensures c.if-not-fits_role.true))
