-- `back_to` meets its contract: the newest frame says what is to be done.
-- Assumes nothing.
use mathlib.Core.Path.{ap, ◌∙◌}
use Rattle.machine.specs.declared.Frame.TheVariants.{Pair}
use Rattle.machine.proofs.Turns.{handed_kept}
use Rattle.machine.proofs.Backs.{back_skip, back_second, back_beside, back_lefted, back_righted, back_paired}
use Rattle.machine.proofs.back_to.Goals as goal

pub returns-in-Skip : goal.returns-in-Skip
returns-in-Skip c = λ b ws. back_skip c.requires.0 c.requires.1.0 c.requires.1.1 c.in-Skip.is

pub returns-in-Second : goal.returns-in-Second
returns-in-Second c =
    λ b ws. back_second c.requires.0 c.requires.1.0 c.requires.1.1 c.in-Second.is c.down.ensures c.right_at.ensures

pub returns-in-Lefted : goal.returns-in-Lefted
returns-in-Lefted c =
    λ b ws. back_lefted c.requires.0 c.requires.1.0 c.requires.1.1 c.in-Lefted.is (handed_kept c.from.ensures c.keep.ensures c.back_kept.ensures)

pub returns-in-Righted : goal.returns-in-Righted
returns-in-Righted c =
    λ b ws. back_righted c.requires.0 c.requires.1.0 c.requires.1.1 c.in-Righted.is (handed_kept c.from-in-Righted.ensures c.keep-in-Righted.ensures c.back_kept-in-Righted.ensures)

pub returns-in-Left : goal.returns-in-Left
returns-in-Left c =
    let left = c.in-Pair.is ∙ ap (λ half. Pair half c.in-Pair.node c.in-Pair.held) c.in-Left.is in
    λ b ws. back_beside c.requires.0 c.requires.1.0 c.requires.1.1 left c.down-in-Left.ensures c.right_at-in-Left.ensures

pub returns-in-Right : goal.returns-in-Right
returns-in-Right c =
    let right = c.in-Pair.is ∙ ap (λ half. Pair half c.in-Pair.node c.in-Pair.held) c.in-Right.is in
    λ b ws. back_paired c.requires.0 c.requires.1.0 c.requires.1.1 right (handed_kept c.from-in-Right.ensures c.keep-in-Right.ensures c.back_kept-in-Right.ensures)
