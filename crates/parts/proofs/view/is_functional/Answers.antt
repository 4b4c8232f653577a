-- `is_functional` meets its contract: four marks in a row.
-- Assumes nothing.
use native.Mathlib.Omega.{arith}
use borrow.Author.Tests.{lt-leb, le-leb}
use Rattle.book.specs.Format.{CF, CW}
use Rattle.parts.specs.Parts.{is_functional}
use Rattle.parts.proofs.view.is_functional.Goals as goal

pub returns-in-32-to-35 : goal.returns-in-32-to-35
unfolding is_functional
returns-in-32-to-35 c = rw (le-leb CF c.args.m (omega arith), le-leb c.args.m CW (omega arith))

pub returns-in_default : goal.returns-in_default
unfolding is_functional
returns-in_default c = rw (lt-leb CF c.args.m (omega arith))

pub returns-in_default-2 : goal.returns-in_default-2
unfolding is_functional
returns-in_default-2 c = rw (le-leb CF c.args.m (omega arith), lt-leb c.args.m CW (omega arith))
