-- `doubles` meets its contract: the entries of the records before r are right, and no name was met with a stamp greater than r.
-- Assumes nothing.
use mathlib.Core.Path.{refl}
use native.Mathlib.Omega.{arith}
use Rattle.binders.proofs.Doubling.{doubling_none, doubling_all, doubling_once, doubling_twice}
use Rattle.binders.proofs.Tallies.{met_none, nameless_none}
use Rattle.binders.proofs.doubles.Goals as goal
use Rattle.binders.proofs.doubles.Goals.{then-doubled_at, else-doubled_at}

pub loop-r-init : goal.loop-r-init
loop-r-init c = doubling_none _ _ c.requires.doubled_is (met_none _ refl) (nameless_none _ _ _ refl)

pub loop-r-preserved : goal.loop-r-preserved
loop-r-preserved c =
    elim c.if-doubled_at.branch [ then-doubled_at w ↦ rw w.doubled-is (doubling_twice c.loop-r.invariant _ refl c.loop-r-test.true c.doubled_at.ensures (omega (arith, c.loop-r.invariant.doubled.size)) w.if-doubled_at.true) | else-doubled_at w ↦ rw w.doubled-is (doubling_once c.loop-r.invariant _ refl c.loop-r-test.true c.doubled_at.ensures w.if-doubled_at.false) ]

pub returns : goal.returns
returns c = doubling_all c.loop-r.invariant c.loop-r-test.false
