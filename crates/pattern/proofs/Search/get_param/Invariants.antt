-- `get_param` meets its contract: each parameter before k has another name.
-- Assumes nothing.
use Rattle.book.specs.Index.{field}
use Rattle.book.specs.Tree.{name, fun_of}
use Rattle.pattern.specs.Find.{find, params_pattern, params_of}
use Rattle.pattern.proofs.Passes.{Passes}
use Rattle.pattern.proofs.Search.get_param.Given as goal

abbrev pub invariant-loop-k : goal.invariant-loop-k
invariant-loop-k l =
    Passes (find l.self.name (params_pattern (params_of (fun_of l.self.book.now.bytes l.self.book.now.index l.f)))) l.self.name 2 (λ j. name (field l.self.book.now.bytes l.self.book.now.index l.f j)) 2 l.n l.k l.initial.nodes l.nodes
