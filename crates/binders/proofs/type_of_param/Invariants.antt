-- `type_of_param` meets its contract: each parameter before k has another name.
-- Assumes nothing.
use Rattle.book.specs.Index.{field}
use Rattle.book.specs.Tree.{name, fun_of}
use Rattle.pattern.specs.Find.{params_pattern, params_of}
use Rattle.binders.proofs.Sights.{Skips}
use Rattle.binders.proofs.type_of_param.Given as goal

abbrev pub invariant-loop-k : goal.invariant-loop-k
invariant-loop-k l =
    Skips l.name (params_pattern (params_of (fun_of l.book.bytes l.book.index l.f))) 2 (λ j. name (field l.book.bytes l.book.index l.f j)) 2 l.n l.k
