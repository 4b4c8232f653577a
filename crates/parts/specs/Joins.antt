-- What joins the nodes of a record's parts: lists, matches, calls.
-- Assumes nothing.
use Rattle.std.specs.Prelude.{ℕ, ◌-◌, Bool, List, ltb}
use Rattle.laws.specs.Table.{pick, both}
use Rattle.array.specs.Split.{top_of}
use Rattle.array.specs.Partition.{partition}
use Rattle.named.specs.Trace.{Run, bind}
use Rattle.named.specs.Combinators as node
use Rattle.recipes.specs.Calls as calls

-- document 01, Balanced trees: a list's block is left unit, or right of the tree of its elements
abbrev pub empty_block : ℕ → Run ℕ
empty_block r = bind (node.unit r) (λ u. node.injl r u)

abbrev pub filled_block : ℕ → List ℕ → Run ℕ
filled_block r xs = bind (node.joins r node.PAIR xs) (λ a. node.injr r a)

-- document 01, Balanced trees: the nodes of a list's elements at bound 2 ^ suc k
abbrev pub blocks : ℕ → ℕ → List ℕ → Run ℕ
blocks r k xs = partition (empty_block r) (filled_block r) (node.joined (node.pair r)) k xs

unfoldable pub listed : ℕ → ℕ → List ℕ → Run ℕ
listed r bound xs = blocks r (top_of bound - 1) xs

-- document 01, Stored order: the environment beside the scrutinee's node, and then the case of its arms
unfoldable pub matched : ℕ → ℕ → ℕ → ℕ → Run ℕ
matched r s a b = bind (calls.paired r s) (λ i. bind (node.case r a b) (λ k. node.comp r i k))

-- document 01, Stored order: the tree of cases is there already
unfoldable pub chosen : ℕ → ℕ → ℕ → Run ℕ
chosen r s k = bind (calls.paired r s) (λ i. node.comp r i k)

-- document 01, Stored order: a call's arguments and then its body; with symbols asked for (y) and symbol s above 0, by way of an assert
unfoldable pub finished : Bool → ℕ → ℕ → ℕ → ℕ → Run ℕ
finished y r s a b = pick (both y (ltb 0 s)) (calls.with_symbol r s a b) (node.comp r a b)
