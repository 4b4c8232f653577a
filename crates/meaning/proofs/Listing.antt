-- The listing of document 01 meets every premise of the theorem, means right of unit, and runs so.
-- Assumes nothing.
use Rattle.std.specs.declared.result.Result.TheVariants.{Ok}
use Prim.Native.Nat.{ℕ, ◌≤◌, ◌<◌}
use mathlib.Core.Bool.{Bool, not}
use mathlib.Core.List.{List}
use mathlib.Core.Path.{◌≡◌, refl}
use borrow.Author.Tests.{eq-eqb}
use lib.Dec.{T, eqb}
use Rattle.laws.specs.Table.{below, all_below}
use Rattle.simplicity.specs.Types.{same}
use Rattle.simplicity.specs.Values.{unit, right}
use Rattle.simplicity.specs.Outcomes.{value}
use Rattle.book.specs.Format.{EW, CH, word_at, mark_of, kind_of, layout_of, role_of, total_of, in_range, within, power_in}
use Rattle.book.specs.Index.{mark}
use Rattle.book.specs.Listing.{listing, bit, listing_read}
use Rattle.book.specs.Read.{read_of, index_of, sized, reading, records, step, loose, is_unnamed, settle, repeats, alike, fields, judge, refer, once, deeper, names, mark_at, kind_at, count_at, count_in, total_at, end_at, role_at, field_at}
use Rattle.book.specs.Tree.{tree, trees, seen, build, group, as_type, as_value, declared, as_pattern, as_expr, as_stmt}
use Rattle.pattern.specs.Find.{find}
use Rattle.compile.specs.Whole as lowered
use Rattle.compile.proofs.Edges.{edges}
use Rattle.shapes.specs.Shapes.{type_is, end_type, side_of, is_at, leads, whole}
use Rattle.shapes.specs.Wholes.{value_agrees}
use Rattle.binders.specs.Binders.{fits, twice, seek, type_for}
use Rattle.binders.specs.Binders as binders
use Rattle.typing.specs.Check.{binds, known, check, statements}
use Rattle.typing.specs.Whole.{in_order, value_at, function_at, checking, answer_of, check_of}
use Rattle.run.specs.Whole.{run_of}
use Rattle.run.specs.Whole as ran
use Rattle.meaning.specs.Source.{lookup, bound, mean}
use Rattle.meaning.specs.Premises.{Supplied, Hashless}
use Rattle.meaning.specs.Demand.{source_of, root_type, AsMeant}
use Rattle.meaning.proofs.Demand.{no_hash_reached, what_you_see_is_what_runs}

-- CHECK passes its nine records
listing_checked : check_of listing ≡ Ok 9
unfolding read_of index_of sized reading records step loose is_unnamed settle repeats alike fields judge refer once deeper names mark_at kind_at count_at count_in total_at end_at role_at field_at word_at mark_of kind_of layout_of role_of total_of in_range within power_in tree trees seen build group as_type as_value declared as_pattern as_expr as_stmt check_of answer_of checking in_order value_at function_at value_agrees same side_of is_at leads check statements binds known fits twice seek type_for find type_is end_type whole binders.names
listing_checked = refl

-- none of its records is a witness or a hash
abbrev is_not : ℕ → ℕ → Bool
is_not m r = not (eqb (mark listing (index_of listing) r) m)

none_are : T (below (is_not EW) 9) × T (below (is_not CH) 9)
unfolding read_of index_of sized reading records step loose is_unnamed settle repeats alike fields judge refer once deeper names mark_at kind_at count_at count_in total_at end_at role_at field_at word_at mark_of kind_of layout_of role_of total_of in_range within power_in
none_are = (tt, tt)

not_it : (m : ℕ) → T (below (is_not m) 9) → (r : ℕ) → r < 9 → mark listing (index_of listing) r ≡ m → ⊥
not_it m t r l e = rw (eq-eqb (mark listing (index_of listing) r) m e) at (all_below (is_not m) 9 t r l)

listing_supplied : (ws : List ℕ) → Supplied listing 9 ws
listing_supplied ws r l e = absurd (not_it EW none_are.0 r l e)

listing_hashless : Hashless listing 9
listing_hashless = not_it CH none_are.1

-- it means right of unit, which is of a bit's type, whatever the witness list has
listing_means : (ws : List ℕ) → (source_of listing 9 ws ≡ value (right unit)) × (root_type listing 9 ≡ bit)
unfolding source_of root_type mean lookup bound as_expr type_is
listing_means ws = rw listing_read.3 (refl, refl)

-- so that is what runs, of what LOWER makes of it in a table of 30 bytes or more, with symbols or without
pub listing_runs : (ws : List ℕ) (m k : ℕ) (y : Bool) → 30 ≤ m → AsMeant (run_of listing ws (lowered.table_of listing y m) 6 k) (ran.table_of listing ws (lowered.table_of listing y m) 6 k) (value (right unit)) bit
listing_runs ws m k y h =
    let q = listing_means ws in
    rw (← q.0, ← q.1)
    (what_you_see_is_what_runs listing ws 9 m 6 k y listing_checked (edges.listing_stored y m h).0 (listing_supplied ws) (no_hash_reached listing ws 9 listing_checked (listing_supplied ws) listing_hashless))
