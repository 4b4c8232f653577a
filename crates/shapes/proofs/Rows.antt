-- The declared types that a record's row names: as trees give them, and as the loops come to them.
-- Assumes nothing.
use Prim.Native.Nat.{ℕ, zero, suc, ◌+◌, ◌*◌, ◌≤◌, ◌<◌}
use mathlib.Core.Bool.{Bool, true, false}
use mathlib.Core.List.{List, [], ◌∷◌}
use mathlib.Core.Path.{◌≡◌, refl, ap, ap₂, ◌∙◌}
use native.Mathlib.Nat.{le_trans, mul-le-mul, mul-suc}
use native.Mathlib.Omega.{arith}
use lib.Dec.{T}
use lib.ListN.{length, get_or, replicate}
use Rattle.laws.specs.Table.{both, among}
use Rattle.simplicity.specs.Types.{Ty, one, product, same}
use Rattle.array.proofs.Rows.{row_none}
use Rattle.book.specs.Index.{field}
use Rattle.book.specs.Tree.{Tree, group, tree, type_of, expr_of, exprs_at, arms_at, parts_at, params_at}
use Rattle.parts.specs.Parts.{Marked, Spanned, row_marks}
use Rattle.parts.specs.declared.view.Span.{Span}
use Rattle.parts.proofs.Spans.{span_lies, span_stands}
use Rattle.shapes.specs.Shapes.{type_is, types, arm_types, param_types, are_words, all_are, same_all, row_type, word_type}
use Rattle.shapes.specs.Wholes.{Elements, types_at, takes_at, words_at}
use Rattle.shapes.proofs.Places.{place_is, places_walk}
use Rattle.shapes.proofs.Walks.{walk, walk_is}

module _ {b i : List ℕ} {r : ℕ} where
  -- the fields of a row are near
  pub row_near : {s k n j : ℕ} → Elements b i r s k n → j < n → s * j ≤ 512
  row_near {s} {k} {n} {j} w h = le_trans (mul-le-mul w.near (less w h)) (omega arith)
    where
      less : Elements b i r s k n → j < n → j ≤ 256
      less v o = omega (arith, v.few)

  -- the span of a record is a row
  pub span_row : {m : ℕ} {p : Span} → Marked b i r m → T (among row_marks m) → Spanned b i r m p → Elements b i r p.stride p.from p.count
  span_row g t s = record { few = s.few; low = s.low; near = s.near; each = λ j h. (span_lies g t s.is j h, span_stands g t s.is j h) }

module _ (b i : List ℕ) (r : ℕ) where
  -- what its fields name
  abbrev names : ℕ → Tree
  names k = tree b i (field b i r k)

  -- the types of the expressions in a row; of an enum's arms; of parameters; a hash's words
  pub types_at_lem : (n k : ℕ) → types (exprs_at names k n) ≡ types_at b i r 1 k n
  unfolding types types_at group
  types_at_lem zero k = refl
  types_at_lem (suc n) k = ap₂ ◌∷◌ refl (types_at_lem n (k + 1))

  pub arms_at_lem : (n k j : ℕ) → j ≡ k + 1 → arm_types (arms_at names k n) ≡ types_at b i r 2 j n
  unfolding arm_types types_at group
  arms_at_lem zero k j e = refl
  arms_at_lem (suc n) k j e = ap₂ ◌∷◌ (rw e) (arms_at_lem n (k + 2) (j + 2) (omega arith))

  pub params_at_lem : (n k : ℕ) → param_types (params_at (field b i r) names k n) ≡ takes_at b i r k n
  unfolding param_types takes_at group
  params_at_lem zero k = refl
  params_at_lem (suc n) k = ap₂ ◌∷◌ refl (params_at_lem n (k + 2))

  pub words_at_lem : (n k : ℕ) → are_words (parts_at (field b i r) names k n) ≡ words_at b i r k n
  unfolding are_words words_at group
  words_at_lem zero k = refl
  words_at_lem (suc n) k = rw (words_at_lem n (k + 2))

  -- how many there are
  pub types_length : (n s k : ℕ) → length (types_at b i r s k n) ≡ n
  unfolding types_at group
  types_length zero s k = refl
  types_length (suc n) s k = ap suc (types_length n s (k + s))

  pub takes_length : (n k : ℕ) → length (takes_at b i r k n) ≡ n
  unfolding takes_at group
  takes_length zero k = refl
  takes_length (suc n) k = ap suc (takes_length n (k + 2))

  -- the declared type of element j
  abbrev pub part_at : ℕ → ℕ → ℕ → Ty
  part_at s k j = type_is (expr_of b i (field b i r (k + s * j)))

  -- the next element is s fields on
  step : (s k j : ℕ) → k + s * j + s ≡ k + s * (j + 1)
  step s k j = omega (arith, mul-suc s j)

  -- they are all of a type exactly where each is
  pub all_walk : (t : Ty) (s k n : ℕ) → walk (λ j. same (part_at s k j) t) 0 n ≡ all_are t (types_at b i r s k n)
  unfolding all_are types_at group
  all_walk t s k n =
      let z : k + s * 0 ≡ k = omega arith in
      walk_is (λ j. same (part_at s k j) t) (λ j m. all_are t (types_at b i r s (k + s * j) m)) (λ j. refl) (λ j m. rw (step s k j)) 0 n ∙ rw z

  -- a hash's words are of their widths exactly where each is
  pub words_walk : (n : ℕ) → walk (λ j. same (type_is (expr_of b i (field b i r (4 + 2 * j)))) (word_type (field b i r (3 + 2 * j)))) 0 n ≡ words_at b i r 3 n
  unfolding words_at group
  words_walk n = walk_is _ (λ j m. words_at b i r (3 + 2 * j) m) (λ j. refl) (λ j m.
      let z : 3 + 2 * j + 1 ≡ 4 + 2 * j = omega arith in
      let o : 3 + 2 * j + 2 ≡ 3 + 2 * (j + 1) = omega arith in
      rw (z, o)) 0 n

  -- arguments are what function f takes exactly where each is
  pub taken_walk : (f n : ℕ) → walk (λ j. same (type_is (expr_of b i (field b i r (3 + j)))) (type_of b i (field b i f (3 + 2 * j)))) 0 n ≡ same_all (types_at b i r 1 3 n) (takes_at b i f 2 n)
  unfolding same_all types_at takes_at group
  taken_walk f n = walk_is _ (λ j m. same_all (types_at b i r 1 (3 + j) m) (takes_at b i f (2 + 2 * j) m)) (λ j. refl) (λ j m.
      let z : 2 + 2 * j + 1 ≡ 3 + 2 * j = omega arith in
      let o : 2 + 2 * j + 2 ≡ 2 + 2 * (j + 1) = omega arith in
      let q : 3 + j + 1 ≡ 3 + (j + 1) = omega arith in
      rw (z, o, q)) 0 n

  -- element j of the row
  types_get : (n s k j : ℕ) → j < n → get_or (types_at b i r s k n) j one ≡ part_at s k j
  unfolding types_at group
  types_get zero s k j h = absurd (omega arith)
  types_get (suc n) s k zero h = let z : k + s * 0 ≡ k = omega arith in rw z
  types_get (suc n) s k (suc j) h =
      let z : k + s + s * j ≡ k + s * suc j = omega (arith, mul-suc s j) in
      types_get n s (k + s) j (omega arith) ∙ rw z

  -- a type is the row's exactly where each place is its element's
  pub row_walk : (t : Ty) (s k n : ℕ) → 0 < n → walk (place_is n t (part_at s k)) 0 n ≡ same t (row_type (types_at b i r s k n))
  row_walk t s k n h = places_walk (types_at b i r s k n) (part_at s k) n (types_length n s k) (λ j o. types_get n s k j o) t h

-- rows of unlike lengths are not the same; one that is of a type throughout
pub same_length : (ts us : List Ty) → (length ts ≡ length us → ⊥) → same_all ts us ≡ false
unfolding same_all
same_length [] [] h = absurd (h refl)
same_length [] (u ∷ us) h = refl
same_length (t ∷ ts) [] h = refl
same_length (t ∷ ts) (u ∷ us) h = go (same t u) (same_length ts us (λ e. h (ap suc e)))
  where
    go : (x : Bool) {y : Bool} → y ≡ false → both x y ≡ false
    go true e = e
    go false e = refl

pub same_replicate : (a : Ty) (ts : List Ty) (n : ℕ) → length ts ≡ n → same_all ts (replicate n a) ≡ all_are a ts
unfolding same_all all_are
same_replicate a [] zero e = refl
same_replicate a [] (suc n) e = absurd (omega arith)
same_replicate a (t ∷ ts) zero e = absurd (omega arith)
same_replicate a (t ∷ ts) (suc n) e = ap (both (same t a)) (same_replicate a ts n (omega arith))

-- the row of none is unit
pub row_unit : {b i : List ℕ} {r s k n : ℕ} → Elements b i r s k n → (t : Ty) → n ≡ 0 → same t one ≡ same t (row_type (types_at b i r s k n))
unfolding types_at group
row_unit w t e = rw (e, row_none one product)
