-- A type is the type of a row exactly where each of its places is.
-- Assumes nothing.
use Prim.Native.Nat.{ℕ, ◌+◌, ◌-◌, ◌≤◌, ◌<◌}
use mathlib.Core.Bool.{Bool, true}
use mathlib.Core.List.{List, [], ◌∷◌}
use mathlib.Core.Option.{Option, some, none}
use mathlib.Core.Path.{◌≡◌, refl, sym, ap, ap₂, ◌∙◌}
use native.Mathlib.Omega.{arith}
use lib.ListN.{length, get_or, replicate, length-replicate, get_or-replicate}
use lib.Seq.{get_or-take, get_or-drop}
use Rattle.laws.specs.Table.{true_false}
use Rattle.array.specs.Split.{split_of}
use Rattle.array.specs.Path.{on_left, on_right, path}
use Rattle.array.proofs.Splits.{split_some, split_less}
use Rattle.array.proofs.Rows.{lefts, rights, lefts_length, rights_length, row_one, row_step, rows_all}
use Rattle.array.proofs.Paths.{path_one, path_left, path_right, path_leads}
use Rattle.simplicity.specs.Types.{Ty, one, sum, product, same}
use Rattle.simplicity.proofs.Safe.{same_is, is_same}
use Rattle.shapes.specs.Shapes.{row_type, array_type, products, side_of, onward, leads, place_of, is_at}
use Rattle.shapes.proofs.Same.{one_test}
use Rattle.shapes.proofs.Walks.{walk, each_walk, walk_each}

-- there is none, or there is one
none_some : {A : Type 0} {a : A} → none ≡ some a → ⊥
none_some e = let z : ◌≡◌ {A = ℕ} 0 1 = cc e in omega arith

-- place k of a row's type is that of element k
pub places_row : (ts : List Ty) (k : ℕ) → k < length ts → place_of products (length ts) k (row_type ts) ≡ some (get_or ts k one)
unfolding leads onward side_of
places_row = path_leads one product (λ a p x. leads products p a ≡ some x) (λ x. refl) (λ a b x p h. h) (λ a b x p h. h)

-- each place of t is that of its element
abbrev Right : List Ty → Ty → Type 0
Right ts t = (k : ℕ) → k < length ts → place_of products (length ts) k t ≡ some (get_or ts k one)

-- a product's places are its left's and its right's
left_right : (ts : List Ty) (a b : Ty) → 2 ≤ length ts → Right ts (product a b) → Right (lefts ts) a
unfolding leads onward side_of
left_right ts a b two h k o =
    let n : ℕ = split_of (length ts) in
    let l : k < n = omega (arith, lefts_length ts two) in
    let g : leads products (on_left ∷ path n k) (product a b) ≡ some (get_or ts k one) = rw (path_left (length ts) k two l) at (h k (omega (arith, split_less (length ts) two))) in
    rw (lefts_length ts two, get_or-take n ts k one l) g

right_right : (ts : List Ty) (a b : Ty) → 2 ≤ length ts → Right ts (product a b) → Right (rights ts) b
unfolding leads onward side_of
right_right ts a b two h k o =
    let n : ℕ = split_of (length ts) in
    let l : n + k < length ts = omega (arith, rights_length ts) in
    let e : n + k - n ≡ k = omega arith in
    let g : leads products (on_right ∷ path (length ts - n) (n + k - n)) (product a b) ≡ some (get_or ts (n + k) one) = rw (path_right (length ts) (n + k) two (omega arith)) at (h (n + k) l) in
    rw (rights_length ts, get_or-drop n ts k one) (rw e at g)

abbrev Whole : List Ty → Type 0
Whole ts = (t : Ty) → 1 ≤ length ts → Right ts t → t ≡ row_type ts

whole_one : (x : Ty) → Whole (x ∷ [])
unfolding leads
whole_one x t l h = rw (row_one one product x) (cc (rw (path_one 0) at (h 0 l)))

-- a type that has two places or more is a product
whole_more : (ts : List Ty) → 2 ≤ length ts → Whole (lefts ts) → Whole (rights ts) → Whole ts
unfolding leads onward side_of
whole_more ts two l r one o h = absurd (none_some (rw (path_left (length ts) 0 two (split_some (length ts) two)) at (h 0 o)))
whole_more ts two l r (sum a b) o h = absurd (none_some (rw (path_left (length ts) 0 two (split_some (length ts) two)) at (h 0 o)))
whole_more ts two l r (product a b) o h =
    ap₂ product
    (l a (omega (arith, lefts_length ts two, split_some (length ts) two)) (left_right ts a b two h))
    (r b (omega (arith, rights_length ts, split_less (length ts) two)) (right_right ts a b two h))
    ∙ sym (row_step one product ts two)

-- a type whose every place is that of its element is the row's
pub row_places : (ts : List Ty) (t : Ty) → 1 ≤ length ts → Right ts t → t ≡ row_type ts
row_places = rows_all Whole (λ t o h. absurd (omega arith)) whole_one whole_more

-- there is u exactly where the test says so
at_is : (o : Option Ty) (u : Ty) → is_at o u ≡ true → o ≡ some u
unfolding is_at
at_is (some a) u e = ap some (same_is a u e)
at_is none u e = absurd (true_false (sym e))

is_at_lem : (o : Option Ty) (u : Ty) → o ≡ some u → is_at o u ≡ true
unfolding is_at
is_at_lem o u e = rw e (is_same u u refl)

-- what a place must be
abbrev pub place_is : ℕ → Ty → (ℕ → Ty) → ℕ → Bool
place_is n t f k = is_at (place_of products n k t) (f k)

-- f says what a row has: a type is the row's exactly where each place is what f says
pub places_walk : (ts : List Ty) (f : ℕ → Ty) (n : ℕ) → length ts ≡ n → ((j : ℕ) → j < n → get_or ts j one ≡ f j) → (t : Ty) → 0 < n → walk (place_is n t f) 0 n ≡ same t (row_type ts)
places_walk ts f n l s t h = one_test _ _
    (λ e. is_same t (row_type ts) (row_places ts t (rw l h) (λ j o.
    let q : j < n = rw l at o in
    rw (l, s j q) (at_is _ (f j) (walk_each (place_is n t f) n e j q)))))
    (λ e. each_walk (place_is n t f) 0 n (λ j o u.
    let q : j < n = omega arith in
    let p : place_of products (length ts) j t ≡ some (get_or ts j one) = rw (same_is t (row_type ts) e) (places_row ts j (rw l q)) in
    is_at_lem _ (f j) (rw (l, s j q) at p)))

-- so for n of one type
pub array_walk : (a t : Ty) (n : ℕ) → 1 ≤ n → walk (place_is n t (λ j. a)) 0 n ≡ same t (array_type a n)
array_walk a t n h = places_walk (replicate n a) (λ j. a) n (length-replicate n a) (λ j o. get_or-replicate n j a one o) t h
