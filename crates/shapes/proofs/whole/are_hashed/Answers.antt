-- `are_hashed` meets its contract: each word is asked.
-- Assumes nothing.
use Prim.Native.Nat.{ℕ, ◌+◌, ◌*◌}
use mathlib.Core.Bool.{Bool}
use native.Mathlib.Omega.{arith}
use mathlib.Core.Path.{◌∙◌, refl}
use borrow.Author.Rules.{rules}
use Rattle.std.proofs.Common.{tests}
use Rattle.std.proofs.lemmas.Iterator.{YieldsList-from_range}
use Rattle.std.proofs.lemmas.Iterator.Search.{all_from_yields_List}
use Rattle.simplicity.specs.Types.{same}
use Rattle.book.specs.Index.{field}
use Rattle.book.specs.Tree.{expr_of}
use Rattle.shapes.specs.Shapes.{type_is, word_type}
use Rattle.shapes.proofs.Rows.{words_walk}
use Rattle.shapes.proofs.Walks.{walk_all}
use Rattle.shapes.proofs.whole.are_hashed.Goals as goal

pub returns : goal.returns
returns c =
    let f : ℕ → Bool = λ j. same (type_is (expr_of c.args.book.now.bytes c.args.book.now.index (field c.args.book.now.bytes c.args.book.now.index c.args.r (4 + 2 * j)))) (word_type (field c.args.book.now.bytes c.args.book.now.index c.args.r (3 + 2 * j))) in
    all_from_yields_List f _ _ _ c.all.ensures.ran (YieldsList-from_range 0 c.args.n c.args.n refl (omega arith)) (λ x b q k. search (rules, tests))
    ∙ walk_all f 0 c.args.n ∙ words_walk _ _ _ _
