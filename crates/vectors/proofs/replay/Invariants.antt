-- `replay`: each vector before the place has a verdict, that of a call, and those that were wrong are printed.
use Rattle.std.proofs.Common.{◌≡◌, ◌≤◌, Bool, List}
use Rattle.std.specs.List.{FoldsTo}
use Rattle.vectors.specs.Replayed.{Turn}
use Rattle.vectors.proofs.Told.{Told}
use Rattle.vectors.proofs.replay.Given as goal

abbrev pub invariant-loop-i : goal.invariant-loop-i
invariant-loop-i g l = (l.wrong ≤ l.i) × (l.all ≡ l.i) × (goal.F-IsAlwaysCallable g l.is_next_right)
    × ((vs : List Bool) × Told (g.W.Write.contents l.initial.out) (g.W.Write.contents l.out) l.i l.wrong vs
    × FoldsTo (Turn g.row.N (λ x. g.R.Read.remaining x.now) g.H.From.from_gives (goal.F-step g)) (l.initial.is_next_right, g.R.Read.remaining l.initial.input) vs (l.is_next_right, g.R.Read.remaining l.input))
