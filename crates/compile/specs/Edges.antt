-- Document 01, At the edges: what it works out of splits, variants, lists and the listing, as one table. That it holds is proofs/Edges.
-- Assumes nothing.
use Rattle.std.specs.Prelude.{ℕ, ◌-◌, ◌≤◌, ◌<◌, Bool, List, [], ◌∷◌, ◌++◌, map, ◌≡◌, replicate, Ok, Err}
use Rattle.array.specs.Split.{split_of}
use Rattle.array.specs.Row.{row}
use Rattle.array.specs.Path.{on_left, on_right, path}
use Rattle.array.specs.Partition.{partition}
use Rattle.book.specs.Faults.{refusal}
use Rattle.book.specs.Listing.{listing}
use Rattle.book.specs.declared.fault.Fault.TheVariants.{Room}
use Rattle.compile.specs.Whole.{lower_of, table_of}

-- document 01, One listing whole: scribe 3; iden; pair 0 1; iden; take 3; comp 2 4
abbrev pub listing_nodes : List ℕ
listing_nodes =
    14 ∷ 3 ∷ 0 ∷ 0 ∷ 0
    ∷ 1 ∷ 0 ∷ 0 ∷ 0 ∷ 0
    ∷ 9 ∷ 0 ∷ 0 ∷ 1 ∷ 0
    ∷ 1 ∷ 0 ∷ 0 ∷ 0 ∷ 0
    ∷ 5 ∷ 3 ∷ 0 ∷ 0 ∷ 0
    ∷ 7 ∷ 2 ∷ 0 ∷ 4 ∷ 0
    ∷ []

pub record Edges : Type 1 where
  -- the splits of 2 to 9
  pub splits : map split_of (2 ∷ 3 ∷ 4 ∷ 5 ∷ 6 ∷ 7 ∷ 8 ∷ 9 ∷ []) ≡ 1 ∷ 1 ∷ 2 ∷ 1 ∷ 2 ∷ 3 ∷ 4 ∷ 1 ∷ []
  -- variant 1 of 3, and of 5
  pub one_of_three : path 3 1 ≡ on_right ∷ on_left ∷ []
  pub one_of_five : path 5 1 ≡ on_right ∷ on_left ∷ on_left ∷ []
  -- a list of three at bound 8, whatever its values are and however they are joined
  pub three_of_eight : {A : Type 0} (unit : A) (left right : A → A) (pair : A → A → A) (a b c : A) → partition (left unit) (λ xs. right (row unit pair xs)) pair 2 (a ∷ b ∷ c ∷ []) ≡ pair (left unit) (pair (right (pair a b)) (right c))
  -- the listing, with symbols and without: with room for six nodes or more they are stored, and then zeros
  pub listing_stored : (y : Bool) (n : ℕ) → 30 ≤ n → (lower_of listing y n ≡ Ok 6) × (table_of listing y n ≡ listing_nodes ++ replicate (n - 30) 0)
  -- with room for five it is refused for its room at record 6, and the table is zeros
  pub listing_refused : (y : Bool) (n : ℕ) → 25 ≤ n → n < 30 → (lower_of listing y n ≡ Err (refusal Room 6)) × (table_of listing y n ≡ replicate n 0)
