-- What CHECK's tests of declared types say, as equations between types.
-- Assumes nothing.
use Prim.Native.Nat.{ℕ}
use mathlib.Core.Bool.{true}
use mathlib.Core.List.{List, [], ◌∷◌}
use mathlib.Core.Option.{Option, some, none}
use mathlib.Core.Path.{◌≡◌, refl, sym, ap, ap₂, ◌∙◌}
use Rattle.laws.specs.Table.{both, true_false}
use Rattle.array.specs.Path.{on_left, on_right}
use Rattle.simplicity.specs.Types.{Ty, one, sum, product, same}
use Rattle.simplicity.proofs.Safe.{same_is}
use Rattle.book.proofs.Picks.{both_true}
use Rattle.shapes.specs.Shapes.{sums, side_of, place_of, has_places, is_there, is_at, all_are, same_all, is_list_of, list_type, folds, loops, word_type}

-- a sum whose side is known
pub at_left : (t u : Ty) → is_at (side_of sums on_left t) u ≡ true → (b : Ty) × (t ≡ sum u b)
unfolding side_of is_at
at_left one u e = absurd (true_false (sym e))
at_left (sum a b) u e = (b, ap (λ (x : Ty). sum x b) (same_is a u e))
at_left (product a b) u e = absurd (true_false (sym e))

pub at_right : (t u : Ty) → is_at (side_of sums on_right t) u ≡ true → (a : Ty) × (t ≡ sum a u)
unfolding side_of is_at
at_right one u e = absurd (true_false (sym e))
at_right (sum a b) u e = (a, ap (sum a) (same_is b u e))
at_right (product a b) u e = absurd (true_false (sym e))

-- a sum at all
pub is_sum : (t : Ty) → is_there (side_of sums on_left t) ≡ true → (a : Ty) × (b : Ty) × (t ≡ sum a b)
unfolding side_of is_there
is_sum one e = absurd (true_false (sym e))
is_sum (sum a b) e = (a, b, refl)
is_sum (product a b) e = absurd (true_false (sym e))

-- what stands at a place
at_place : (o : Option Ty) (u : Ty) → is_at o u ≡ true → o ≡ some u
unfolding is_at
at_place (some t) u e = ap some (same_is t u e)
at_place none u e = absurd (true_false (sym e))

-- a variant's payload stands at its place
pub is_variant : (n k : ℕ) (t u : Ty) → both (has_places n t) (is_at (place_of sums n k t) u) ≡ true → place_of sums n k t ≡ some u
is_variant n k t u e = at_place (place_of sums n k t) u (both_true (has_places n t) (is_at (place_of sums n k t) u) e).1

-- rows of types, one by one
pub same_all_lem : (ts us : List Ty) → same_all ts us ≡ true → ts ≡ us
unfolding same_all
same_all_lem [] [] e = refl
same_all_lem [] (u ∷ us) e = absurd (true_false (sym e))
same_all_lem (t ∷ ts) [] e = absurd (true_false (sym e))
same_all_lem (t ∷ ts) (u ∷ us) e =
    let h = both_true (same t u) (same_all ts us) e in
    ap₂ ◌∷◌ (same_is t u h.0) (same_all_lem ts us h.1)

-- the first of types that are all t, and the others
pub all_are_lem : (t u : Ty) (us : List Ty) → all_are t (u ∷ us) ≡ true → (u ≡ t) × (all_are t us ≡ true)
unfolding all_are
all_are_lem t u us e = let h = both_true (same u t) (all_are t us) e in (same_is u t h.0, h.1)

-- a list's type, and its elements'
pub is_list : (n : ℕ) (t : Ty) (ts : List Ty) (o : Option Ty) → is_list_of n t ts o ≡ true → (a : Ty) × (t ≡ list_type a n) × (all_are a ts ≡ true)
unfolding is_list_of
is_list n t ts (some a) e = let h = both_true (same t (list_type a n)) (all_are a ts) e in (a, same_is t (list_type a n) h.0, h.1)
is_list n t ts none e = absurd (true_false (sym e))

-- a fold's function takes an element and an accumulator and gives the accumulator; what the fold is over and starts from, and gives
pub record Folded (over : Ty → Ty) (ts : List Ty) (u t e a : Ty) : Type 0 where
  pub element : Ty
  pub takes : ts ≡ element ∷ t ∷ []
  pub gives : u ≡ t
  pub goes : e ≡ over element
  pub starts : a ≡ t

pub is_fold : (over : Ty → Ty) (ts : List Ty) (u t e a : Ty) → folds over ts u t e a ≡ true → Folded over ts u t e a
unfolding folds
is_fold over [] u t e a h = absurd (true_false (sym h))
is_fold over (x ∷ []) u t e a h = absurd (true_false (sym h))
is_fold over (x ∷ acc ∷ []) u t e a h =
    let p = both_true (same e (over x)) _ h in
    let q = both_true (same a acc) _ p.1 in
    let r = both_true (same t acc) (same u acc) q.1 in
    let z : acc ≡ t = sym (same_is t acc r.0) in
    record { element = x; takes = ap (λ (w : Ty). x ∷ w ∷ []) z; gives = same_is u acc r.1 ∙ z; goes = same_is e (over x) p.0; starts = same_is a acc q.0 ∙ z }
is_fold over (x ∷ acc ∷ y ∷ ys) u t e a h = absurd (true_false (sym h))

-- a loop's function takes an accumulator, a context and a counter of the width, and gives a sum of a result and the accumulator
pub record Looped (w : ℕ) (ts : List Ty) (u t a x : Ty) : Type 0 where
  pub result : Ty
  pub sums : t ≡ sum result a
  pub takes : ts ≡ a ∷ x ∷ word_type w ∷ []
  pub gives : u ≡ t

pub is_loop : (w : ℕ) (ts : List Ty) (u t a x : Ty) → loops w ts u t a x ≡ true → Looped w ts u t a x
unfolding loops
is_loop w [] u t a x h = absurd (true_false (sym h))
is_loop w (acc ∷ []) u t a x h = absurd (true_false (sym h))
is_loop w (acc ∷ ctx ∷ []) u t a x h = absurd (true_false (sym h))
is_loop w (acc ∷ ctx ∷ n ∷ []) u t a x h =
    let p = both_true (same n (word_type w)) _ h in
    let q = both_true (same a acc) _ p.1 in
    let r = both_true (same x ctx) _ q.1 in
    let s = both_true (is_at (side_of sums on_right t) acc) (same u t) r.1 in
    let z : acc ≡ a = sym (same_is a acc q.0) in
    let i = at_right t acc s.0 in
    record { result = i.0; sums = i.1 ∙ ap (sum i.0) z; takes = rw (z, sym (same_is x ctx r.0), same_is n (word_type w) p.0); gives = same_is u t s.1 }
is_loop w (acc ∷ ctx ∷ n ∷ y ∷ ys) u t a x h = absurd (true_false (sym h))
