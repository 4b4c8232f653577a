-- The table of edges holds: both sides of each line compute to the same, the listing's by its trace.
-- Assumes nothing.
use Rattle.std.specs.declared.result.Result.TheVariants.{Ok, Err}
use Prim.Native.Nat.{ℕ, suc, ◌-◌, ◌≤◌, ◌<◌}
use mathlib.Core.Bool.{Bool}
use mathlib.Core.List.{[], ◌∷◌, ◌++◌}
use mathlib.Core.Path.{◌≡◌, refl, ap}
use native.Mathlib.Omega.{arith}
use lib.ListN.{replicate}
use Rattle.array.specs.Split.{split_of, least_power, not_below}
use Rattle.array.specs.Parts.{by_parts, parts_in}
use Rattle.array.specs.Row.{row}
use Rattle.array.specs.Path.{path}
use Rattle.array.specs.Partition.{partition}
use Rattle.book.specs.Faults.{refusal}
use Rattle.book.specs.Listing.{listing, listing_read}
use Rattle.book.specs.Read.{index_of}
use Rattle.book.specs.Tree.{ignore, as_expr}
use Rattle.book.specs.declared.fault.Fault.TheVariants.{Room}
use Rattle.named.specs.Trace.{Node, Trace, done, store, pure, graft, bind, emit}
use Rattle.named.specs.Combinators.{SCRIBE, IDEN, PAIR, TAKE, COMP, wraps, select}
use Rattle.named.specs.Cut.{after, cut, room, encode, image}
use Rattle.pattern.specs.Find.{find}
use Rattle.scope_bindings.specs.Scope.{reach, through, lookup_from, fetch}
use Rattle.recipes.specs.Calls.{paired}
use Rattle.compile.specs.Lower.{lower, statements}
use Rattle.compile.specs.Whole.{trace_of, lowering, lower_of, table_of}
use Rattle.compile.specs.Edges.{listing_nodes, Edges}

-- a node, and the record that stores it
abbrev node : ℕ → ℕ → ℕ → ℕ → Node
node k a b r = record { kind = k; left = a; right = b; source = r }

abbrev stores : Trace ℕ
stores =
    store (node SCRIBE 3 0 5) (store (node IDEN 0 0 6) (store (node PAIR 0 1 6) (store (node IDEN 0 0 7) (store (node TAKE 3 0 7) (store (node COMP 2 4 6) (done 5))))))

module _ (y : Bool) where
  listing_trace : trace_of y listing (index_of listing) 8 ≡ stores
  unfolding trace_of lower statements as_expr pure bind graft emit wraps select paired find reach through lookup_from fetch
  listing_trace = ap (λ t. lower y (as_expr t) (ignore ∷ []) 0) listing_read.3

  listing_lowers : (n : ℕ) → lowering listing y n ≡ cut (room n) stores
  unfolding lowering
  listing_lowers n = rw (listing_read.1, lowering, listing_trace)

  listing_fits : (n : ℕ) → 30 ≤ n → (lower_of listing y n ≡ Ok 6) × (table_of listing y n ≡ listing_nodes ++ replicate (n - 30) 0)
  unfolding lower_of table_of room cut after image encode
  listing_fits n h = let e : room n ≡ suc (suc (suc (suc (suc (suc (room n - 6)))))) = omega arith in rw (listing_lowers n, e) (refl, refl)

  listing_short : (n : ℕ) → 25 ≤ n → n < 30 → (lower_of listing y n ≡ Err (refusal Room 6)) × (table_of listing y n ≡ replicate n 0)
  unfolding lower_of table_of room cut after image
  listing_short n h g = let e : room n ≡ 5 = omega arith in rw (listing_lowers n, e) (refl, refl)

pub edges : Edges
unfolding split_of least_power not_below by_parts parts_in row path partition
edges = record {
  splits = refl;
  one_of_three = refl;
  one_of_five = refl;
  three_of_eight = λ unit left right pair a b c. refl;
  listing_stored = listing_fits;
  listing_refused = listing_short;
}
