-- Document 01's listing, as bytes: READ accepts it, and its root's tree is the program.
-- Assumes nothing.
use Rattle.std.specs.Prelude.{ℕ, List, [], ◌∷◌, ◌≡◌, refl, length, take, Ok}
use Rattle.simplicity.specs.Types.{Ty, one, sum}
use Rattle.simplicity.specs.Values.{unit, right}
use Rattle.book.specs.Read.{read_of, index_of, sized, reading, records, step, loose, is_unnamed, settle, repeats, alike, fields, judge, refer, once, deeper, names, mark_at, kind_at, count_at, count_in, total_at, end_at, role_at, field_at}
use Rattle.book.specs.Format.{word_at, mark_of, kind_of, layout_of, role_of, total_of, in_range, within, power_in}
use Rattle.book.specs.Tree.{name, constant, variable, block, assign, end, Tree, expression, as_type, as_value, declared, as_pattern, as_expr, as_stmt, group, build, seen, trees, tree}

-- tu; ts 0 0; vu 0; vr 1 2; pi 7; ec 1 3; sa 4 5; ev 1 7; eb 1 1 6 7
abbrev pub listing : List ℕ
listing =
    116 ∷ 117
    ∷ 116 ∷ 115 ∷ 0 ∷ 0 ∷ 0 ∷ 0
    ∷ 118 ∷ 117 ∷ 0 ∷ 0
    ∷ 118 ∷ 114 ∷ 1 ∷ 0 ∷ 2 ∷ 0
    ∷ 112 ∷ 105 ∷ 7 ∷ 0
    ∷ 101 ∷ 99 ∷ 1 ∷ 0 ∷ 3 ∷ 0
    ∷ 115 ∷ 97 ∷ 4 ∷ 0 ∷ 5 ∷ 0
    ∷ 101 ∷ 118 ∷ 1 ∷ 0 ∷ 7 ∷ 0
    ∷ 101 ∷ 98 ∷ 1 ∷ 0 ∷ 1 ∷ 0 ∷ 6 ∷ 0 ∷ 7 ∷ 0
    ∷ []

-- where its records begin
abbrev pub places : List ℕ
places = 0 ∷ 2 ∷ 8 ∷ 12 ∷ 18 ∷ 22 ∷ 28 ∷ 34 ∷ 40 ∷ []

-- the type of a bit, record 1
abbrev pub bit : Ty
bit = sum one one

-- let x7 = right (); x7
abbrev pub program : Tree
program = expression (block 8 bit (assign 6 (name 7) (constant 5 bit 3 bit (right unit)) (end (variable 7 bit 7))))

-- it is 50 bytes long, READ accepts its 9 records and says where they begin, and the last one's tree is the program
pub listing_read : (length listing ≡ 50) × (read_of listing ≡ Ok 9) × (take 9 (index_of listing) ≡ places) × (tree listing (index_of listing) 8 ≡ program)
unfolding read_of index_of sized reading records step loose is_unnamed settle repeats alike fields judge refer once deeper names mark_at kind_at count_at count_in total_at end_at role_at field_at word_at mark_of kind_of layout_of role_of total_of in_range within power_in tree trees seen build group as_type as_value declared as_pattern as_expr as_stmt
listing_read = (refl, refl, refl, refl)
