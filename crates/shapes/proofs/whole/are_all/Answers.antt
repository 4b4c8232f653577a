-- `are_all` meets its contract: each part is asked.
-- Assumes nothing.
use Prim.Native.Nat.{ℕ}
use mathlib.Core.Bool.{Bool}
use native.Mathlib.Omega.{arith}
use mathlib.Core.Path.{◌∙◌, refl}
use borrow.Author.Rules.{rules}
use Rattle.std.proofs.Common.{tests}
use Rattle.std.proofs.lemmas.Iterator.{YieldsList-from_range}
use Rattle.std.proofs.lemmas.Iterator.Search.{all_from_yields_List}
use Rattle.simplicity.specs.Types.{same}
use Rattle.book.specs.Tree.{type_of}
use Rattle.shapes.proofs.Constructs.{is_tells}
use Rattle.shapes.proofs.Rows.{all_walk, part_at}
use Rattle.shapes.proofs.Walks.{walk_all}
use Rattle.shapes.proofs.whole.are_all.Goals as goal

pub returns : goal.returns
returns c =
    let f : ℕ → Bool = λ j. same (part_at c.args.book.now.bytes c.args.book.now.index c.args.r c.args.span.stride c.args.span.from j) (type_of c.args.book.now.bytes c.args.book.now.index c.args.t) in
    all_from_yields_List f _ _ _ c.all.ensures.ran (YieldsList-from_range 0 c.args.span.count c.args.span.count refl (omega arith)) (λ x b q k. (search (rules, tests), search (rules, tests, is_tells)))
    ∙ walk_all f 0 c.args.span.count ∙ all_walk _ _ _ _ _ _ _
