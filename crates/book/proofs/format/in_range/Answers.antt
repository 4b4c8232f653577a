-- `format::in_range` meets its contract: in each arm the role's range, and the law `rest` has the default.
-- Assumes nothing.
use native.Mathlib.Omega.{arith}
use mathlib.Core.Path.{◌≡◌}
use lib.Dec.{leb}
use Rattle.std.proofs.lemmas.Bool.Decides.{nat_tests}
use Rattle.laws.specs.Table.{both}
use Rattle.book.specs.Format.{in_range, within}
use Rattle.book.proofs.format.in_range.Goals as goal

pub returns-in-9 : goal.returns-in-9
unfolding in_range within
returns-in-9 c =
    let e : c.contains.result ≡ both (leb 1 c.args.x) (leb c.args.x 256) = grind (arith, nat_tests) in
    rw c.in-9.is e
