-- `is_row` meets its contract: no part is unit's row, else each part is asked, at its place.
-- Assumes nothing.
use Prim.Native.Nat.{ℕ}
use mathlib.Core.Bool.{Bool}
use native.Mathlib.Omega.{arith}
use mathlib.Core.Path.{◌∙◌, refl}
use borrow.Author.Rules.{rules}
use Rattle.std.proofs.Common.{tests}
use Rattle.std.proofs.lemmas.Iterator.{YieldsList-from_range}
use Rattle.std.proofs.lemmas.Iterator.Search.{all_from_yields_List}
use Rattle.book.specs.Tree.{type_of}
use Rattle.shapes.proofs.Places.{place_is}
use Rattle.shapes.proofs.Rows.{part_at, row_unit, row_walk}
use Rattle.shapes.proofs.Walks.{walk_all}
use Rattle.shapes.proofs.whole.is_row.Goals as goal

pub returns-then-span-eq0 : goal.returns-then-span-eq0
returns-then-span-eq0 c = c.is_unit.ensures ∙ row_unit c.requires.elements _ c.if-span-eq0.true

pub returns : goal.returns
returns c =
    let f : ℕ → Bool = place_is c.args.span.count (type_of c.args.book.now.bytes c.args.book.now.index c.args.t) (part_at c.args.book.now.bytes c.args.book.now.index c.args.r c.args.span.stride c.args.span.from) in
    all_from_yields_List f _ _ _ c.all.ensures.ran (YieldsList-from_range 0 c.args.span.count c.args.span.count refl (omega arith)) (λ x b q k. search (rules, tests))
    ∙ walk_all f 0 c.args.span.count ∙ row_walk _ _ _ _ _ _ _ (omega (arith, c.if-span-eq0.false))
