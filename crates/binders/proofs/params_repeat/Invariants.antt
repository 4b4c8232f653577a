-- `params_repeat` meets its contract: the names before parameter k were met, on top of none with this stamp.
-- Assumes nothing.
use Prim.Native.Nat.{◌+◌}
use mathlib.Core.Bool.{true}
use mathlib.Core.List.{[], ◌∷◌}
use Rattle.book.specs.Index.{field}
use Rattle.book.specs.Tree.{fun_of}
use Rattle.pattern.specs.Find.{params_of}
use Rattle.binders.specs.Binders.{param_names}
use Rattle.binders.proofs.Tallies.{Meets}
use Rattle.binders.proofs.params_repeat.Given as goal

abbrev pub invariant-loop-k : goal.invariant-loop-k
invariant-loop-k l =
    Meets (l.f + 1) (param_names (params_of (fun_of l.book.bytes l.book.index l.f))) l.initial.met 2 (λ j. field l.book.bytes l.book.index l.f j ∷ []) 2 l.n l.k true l.met
