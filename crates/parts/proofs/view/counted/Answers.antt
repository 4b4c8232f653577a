-- `counted` meets its contract: the count is the field.
-- Assumes nothing.
use mathlib.Core.Path.{◌∙◌, ap}
use Prim.Native.Nat.{ℕ}
use Rattle.parts.specs.Parts.{span}
use Rattle.parts.proofs.view.counted.Goals as goal

pub returns : goal.returns
returns c = c.spanning.ensures ∙ ap (λ (n : ℕ). span c.args.from c.args.stride n) c.field_at.ensures
