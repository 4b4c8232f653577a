-- The constant table of jets keeps to the typing rules: its widths are those of the jets' types.
-- Assumes nothing.
use Prim.Native.Nat.{ℕ, ◌<◌}
use mathlib.Core.Bool.{Bool}
use mathlib.Core.Path.{◌≡◌}
use lib.Dec.{T, eqb, eqb→eq}
use Rattle.laws.specs.Table.{both, both_left, both_right, below, all_below}
use Rattle.simplicity.specs.Types.{width, power, fewer}
use Rattle.simplicity.specs.Jets.{jet_types}
use Rattle.jet.specs.Jets.{jet_of}

-- the table's row of jet j has the widths of its types
abbrev fitting : ℕ → Bool
fitting j = both (eqb (jet_of j).input (width (jet_types j).from)) (eqb (jet_of j).output (width (jet_types j).to))

all_fitting : T (below fitting 11)
unfolding width power fewer jet_types
all_fitting = tt

pub widths : (j : ℕ) → j < 11 → ((jet_of j).input ≡ width (jet_types j).from) × ((jet_of j).output ≡ width (jet_types j).to)
widths j l =
    let t : T (fitting j) = all_below fitting 11 all_fitting j l in
    let i : Bool = eqb (jet_of j).input (width (jet_types j).from) in
    let o : Bool = eqb (jet_of j).output (width (jet_types j).to) in
    (eqb→eq (jet_of j).input (width (jet_types j).from) (both_left i o t), eqb→eq (jet_of j).output (width (jet_types j).to) (both_right i o t))
