-- `has_places` meets its contract: there is a place for each.
-- Assumes nothing.
use Prim.Native.Nat.{ℕ}
use mathlib.Core.Bool.{Bool}
use native.Mathlib.Omega.{arith}
use mathlib.Core.Path.{◌∙◌, refl}
use borrow.Author.Rules.{rules}
use Rattle.std.proofs.Common.{tests}
use Rattle.std.proofs.lemmas.Iterator.{YieldsList-from_range}
use Rattle.std.proofs.lemmas.Iterator.Search.{all_from_yields_List}
use Rattle.book.specs.Tree.{type_of}
use Rattle.shapes.specs.Shapes.{sums, place_of, is_there, has_places}
use Rattle.shapes.proofs.Same.{tells_there}
use Rattle.shapes.proofs.Walks.{walk_all, below_walk}
use Rattle.shapes.proofs.part.has_places.Goals as goal

pub returns : goal.returns
unfolding has_places
returns c =
    let f : ℕ → Bool = λ j. is_there (place_of sums c.args.n j (type_of c.args.book.now.bytes c.args.book.now.index c.args.t)) in
    all_from_yields_List f _ _ _ c.all.ensures.ran (YieldsList-from_range 0 c.args.n c.args.n refl (omega arith)) (λ x b q k. search (rules, tests, tells_there))
    ∙ walk_all f 0 c.args.n ∙ below_walk f c.args.n
