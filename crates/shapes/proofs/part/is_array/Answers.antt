-- `is_array` meets its contract: each place is the type's.
-- Assumes nothing.
use native.Mathlib.Omega.{arith}
use mathlib.Core.Path.{◌∙◌, refl}
use borrow.Author.Rules.{rules}
use Rattle.std.proofs.lemmas.Iterator.{YieldsList-from_range}
use Rattle.std.proofs.lemmas.Iterator.Search.{all_from_yields_List}
use Rattle.std.proofs.Common.{tests}
use Rattle.book.specs.Tree.{type_of}
use Rattle.shapes.proofs.Same.{tells_at}
use Rattle.shapes.proofs.Places.{place_is, array_walk}
use Rattle.shapes.proofs.Walks.{walk_all}
use Rattle.shapes.proofs.part.is_array.Goals as goal

pub returns : goal.returns
returns c =
    let f = place_is c.args.n (type_of c.args.book.now.bytes c.args.book.now.index c.args.t) (λ j. type_of c.args.book.now.bytes c.args.book.now.index c.args.element) in
    all_from_yields_List f _ _ _ c.all.ensures.ran (YieldsList-from_range 0 c.args.n c.args.n refl (omega arith)) (λ x b q k. search (rules, tests, tells_at))
    ∙ walk_all f 0 c.args.n ∙ array_walk _ _ c.args.n c.requires.n_in_range
