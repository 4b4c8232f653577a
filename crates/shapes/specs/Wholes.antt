-- The declared types of a record's parts, by its fields, and what is asked of a value's.
-- Assumes nothing.
use Rattle.std.specs.Prelude.{ℕ, ◌+◌, ◌*◌, ◌-◌, ◌≤◌, ◌<◌, Bool, true, false, List, [], ◌∷◌, ◌≡◌}
use Rattle.laws.specs.Table.{both, at, choose}
use Rattle.array.specs.Path.{on_left, on_right}
use Rattle.simplicity.specs.Types.{Ty, one, product, two, same}
use Rattle.book.specs.Format.{TYPE, EXPRESSION, FUNCTION, VU, VL, VR, VP}
use Rattle.book.specs.Index.{mark, field, Lies}
use Rattle.book.specs.Stands.{Stands}
use Rattle.book.specs.Text.{Text}
use Rattle.book.specs.Books.{field_in}
use Rattle.book.specs.Tree.{group, type_of, expr_of, declared_of}
use Rattle.parts.specs.Parts.{Marked, span}
use Rattle.parts.specs.declared.view.Span.{Span}
use Rattle.shapes.specs.Shapes.{type_is, sums, side_of, is_at, word_type}
use Rattle.shapes.specs.Views.{expr_at}

module _ (b i : List ℕ) (r : ℕ) where
  -- document 01, CHECK and the meanings: whether a value's declared type is the one that its parts' declared types give
  unfoldable pub value_agrees : Bool
  value_agrees = let t = type_of b i (field b i r 0) in choose
      (at VU (same t one)
      ∷ at VL (is_at (side_of sums on_left t) (declared_of b i (field b i r 1)))
      ∷ at VR (is_at (side_of sums on_right t) (declared_of b i (field b i r 1)))
      ∷ at VP (same t (product (declared_of b i (field b i r 1)) (declared_of b i (field b i r 2))))
      ∷ [])
      (mark b i r) false

  -- what n of its fields name from field k on, s fields apart: the declared types of expressions; types; a width and an expression's declared type
  unfoldable pub types_at : ℕ → ℕ → ℕ → List Ty
  types_at s k n = group s [] (λ j ts. type_is (expr_of b i (field b i r j)) ∷ ts) k n

  unfoldable pub takes_at : ℕ → ℕ → List Ty
  takes_at k n = group 2 [] (λ j ts. type_of b i (field b i r (j + 1)) ∷ ts) k n

  unfoldable pub words_at : ℕ → ℕ → Bool
  words_at k n = group 2 true (λ j t. both (same (type_is (expr_of b i (field b i r (j + 1)))) (word_type (field b i r j))) t) k n

  -- they name expressions
  pub record Elements (s k n : ℕ) : Type 0 where
    pub few : n ≤ 256
    pub low : k ≤ 4
    pub near : s ≤ 2
    pub each : (j : ℕ) → j < n → Lies b i r (k + s * j) × Stands b i (field b i r (k + s * j)) EXPRESSION

-- an expression's record, whose mark is m and whose declared type is record t
pub record Declares (b i : List ℕ) (r m t : ℕ) : Type 0 where
  pub marked : Marked b i r m
  pub is : t ≡ field b i r 0

-- what a jet gives, by how many bits that has: unit, a bit, or a carry beside a word
unfoldable pub result_type : ℕ → Ty
result_type bits = choose (at 0 one ∷ at 1 two ∷ []) bits (product two (word_type (bits - 1)))

-- a fold's record r of declared type t, whose function f takes two
pub record Folding (b i : List ℕ) (r f t : ℕ) : Type 0 where
  pub lies : Lies b i r 4
  pub start : Stands b i (field b i r 4) EXPRESSION
  pub function : Stands b i f FUNCTION
  pub takes : field b i f 1 ≡ 2
  pub type : Stands b i t TYPE

-- the second is where the fold starts from, what it gives, and what the function gives
unfoldable pub accumulates : List ℕ → List ℕ → ℕ → ℕ → ℕ → Bool
accumulates b i r f t =
    let acc = type_of b i (field b i f 5) in
    both (same (type_is (expr_of b i (field b i r 4))) acc) (both (same (type_of b i t) acc) (same (type_of b i (field b i f 0)) acc))

-- a record r of a book as contracts see it
module _ (x : Text) (r : ℕ) where
  -- it is an expression of mark m whose declared type is record t
  abbrev pub DeclaresIn : ℕ → ℕ → Type 0
  DeclaresIn m t = Declares x.bytes x.index r m t

  -- the declared type of the expression that field k names; of such a value
  abbrev pub part_at : ℕ → Ty
  part_at k = type_is (expr_at x (field_in x r k))

  abbrev pub value_part : ℕ → Ty
  value_part k = declared_of x.bytes x.index (field_in x r k)

  -- a row of elements: they are expressions; their declared types
  abbrev pub ElementsIn : Span → Type 0
  ElementsIn s = Elements x.bytes x.index r s.stride s.from s.count

  abbrev pub element_types : Span → List Ty
  element_types s = types_at x.bytes x.index r s.stride s.from s.count

  -- the declared type of element k
  abbrev pub element_type : Span → ℕ → Ty
  element_type s k = part_at (s.from + s.stride * k)

-- where the n arguments of a call stand
abbrev pub arguments : ℕ → Span
arguments n = span 3 1 n
