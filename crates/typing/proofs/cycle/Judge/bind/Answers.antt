-- `bind` meets its contract: by whether the pattern fits and has a name twice.
-- Assumes nothing.
use mathlib.Core.Path.{refl}
use Rattle.typing.proofs.Judging.{handed}
use Rattle.typing.proofs.Leaves.{bind_unfit, bind_twice, bind_passed}
use Rattle.typing.proofs.cycle.Judge.bind.Goals as goal

pub returns-in_err-agree : goal.returns-in_err-agree
returns-in_err-agree c =
    bind_unfit c.requires.scoped _ _ c.requires.stands c.fits.ensures c.agree.ensures (handed c.in_err-agree.was c.from_residual.ensures.1) (record { doubled = refl; lent = refl; memo = refl; vain = refl; bindings = refl })

pub returns-in_err-hold : goal.returns-in_err-hold
returns-in_err-hold c =
    bind_twice c.requires.scoped _ _ c.requires.stands c.fits.ensures c.agree.ensures c.in_ok-agree.was c.hold.ensures (handed c.in_err-hold.was c.from_residual-in_err-hold.ensures.1) (record { doubled = refl; lent = refl; memo = refl; vain = refl; bindings = refl })

pub returns : goal.returns
returns c =
    bind_passed c.requires.scoped _ _ c.requires.stands c.fits.ensures c.agree.ensures c.in_ok-agree.was c.hold.ensures c.in_ok-hold.was c.requires.live_in_range c.requires.stands_t (record { doubled = refl; lent = refl; memo = refl; vain = refl; bindings = refl })
