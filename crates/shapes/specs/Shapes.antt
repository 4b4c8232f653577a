-- What each construct's declared type must be, by the declared types of its parts.
-- Assumes nothing.
use Rattle.std.specs.Prelude.{ℕ, zero, suc, ◌-◌, Bool, true, false, List, [], ◌∷◌, replicate}
use Rattle.std.proofs.Math.Option.{Option, some, none}
use Rattle.laws.specs.Table.{both, below, at, choose}
use Rattle.array.specs.Split.{top_of}
use Rattle.array.specs.Path.{Side, on_left, on_right, path}
use Rattle.array.specs.Row.{row}
use Rattle.simplicity.specs.Types.{Ty, one, sum, product, two, word_of, fewer, same}
use Rattle.book.specs.Tree.{Param, Expr, constant, witness, variable, tuple, list, in_left, in_right, variant, block, match, match_enum, jet, unwrap_left, unwrap_right, debug, assert, panic, is_none, cast, call, list_fold, array_fold, for_while, hash, no_expr, Exprs, no_exprs, more_exprs, Arms, no_arms, more_arms, Parts, no_parts, more_parts, Stmts, assign, does, end, no_end, Fun, fun}

-- document 01, The book: an expression's declared type
unfoldable pub type_is : Expr → Ty
type_is (constant r t v u w) = t
type_is (witness r t k x) = t
type_is (variable r t x) = t
type_is (tuple r t es) = t
type_is (list r t n es) = t
type_is (in_left r t e) = t
type_is (in_right r t e) = t
type_is (variant r t k n es) = t
type_is (block r t ss) = t
type_is (match r t e p l q g) = t
type_is (match_enum r t e cs) = t
type_is (jet r t s j es) = t
type_is (unwrap_left r t s e) = t
type_is (unwrap_right r t s e) = t
type_is (debug r t s e) = t
type_is (assert r t s e) = t
type_is (panic r t s) = t
type_is (is_none r t e) = t
type_is (cast r t e) = t
type_is (call r t f es) = t
type_is (list_fold r t f n e a) = t
type_is (array_fold r t f n e a) = t
type_is (for_while r t f w a x) = t
type_is (hash r t s ps) = t
type_is no_expr = one

-- those of expressions in a row; of arms
unfoldable pub types : Exprs → List Ty
types no_exprs = []
types (more_exprs e es) = type_is e ∷ types es

unfoldable pub arm_types : Arms → List Ty
arm_types no_arms = []
arm_types (more_arms p e cs) = type_is e ∷ arm_types cs

-- document 01, CHECK and the meanings: a block's end gives its type, a block with no end is of type unit
unfoldable pub end_type : Stmts → Ty
end_type (assign s p e rest) = end_type rest
end_type (does s e rest) = end_type rest
end_type (end e) = type_is e
end_type no_end = one

-- a function's parameters' types, and what it gives
unfoldable pub param_types : List Param → List Ty
param_types [] = []
param_types (p ∷ ps) = p.type ∷ param_types ps

unfoldable pub takes : Fun → List Ty
takes (fun r t ps e) = param_types ps

unfoldable pub gives : Fun → Ty
gives (fun r t ps e) = t

-- document 01, Balanced trees: the type of a row; of n in a row; of the lists of a bound, block by block; of a word of so many bits
abbrev pub row_type : List Ty → Ty
row_type ts = row one product ts

abbrev pub array_type : Ty → ℕ → Ty
array_type a n = row_type (replicate n a)

abbrev pub list_type : Ty → ℕ → Ty
list_type a n = fewer a (top_of n - 1)

abbrev pub word_type : ℕ → Ty
word_type w = word_of (top_of w)

-- sums or products: what a tree of types is made of
pub data Sort : Type 0 where
  sums products : Sort

-- a side of a sum or of a product, where the type is one
unfoldable pub side_of : Sort → Side → Ty → Option Ty
side_of sums on_left (sum a b) = some a
side_of sums on_right (sum a b) = some b
side_of sums k one = none
side_of sums k (product a b) = none
side_of products on_left (product a b) = some a
side_of products on_right (product a b) = some b
side_of products k one = none
side_of products k (sum a b) = none

-- what stands at the end of a path
unfoldable pub onward : Option Ty → (Ty → Option Ty) → Option Ty
onward (some t) f = f t
onward none f = none

unfoldable pub leads : Sort → List Side → Ty → Option Ty
leads s [] t = some t
leads s (k ∷ ks) t = onward (side_of s k t) (leads s ks)

-- document 01, Balanced trees: place k of n, in a tree by the splits of n
abbrev pub place_of : Sort → ℕ → ℕ → Ty → Option Ty
place_of s n k t = leads s (path n k) t

-- there is one; it is u
unfoldable pub is_there : Option Ty → Bool
is_there (some t) = true
is_there none = false

unfoldable pub is_at : Option Ty → Ty → Bool
is_at (some t) u = same t u
is_at none u = false

-- document 01, CHECK and the meanings: a type has a place for each of n variants
unfoldable pub has_places : ℕ → Ty → Bool
has_places n t = below (λ k. is_there (place_of sums n k t)) n

-- document 01, Balanced trees: what a type is the lists of bound 2 ^ k of: its last block tells, which has one element
unfoldable pub element_of : ℕ → Ty → Option Ty
element_of zero t = none
element_of (suc zero) t = side_of sums on_right t
element_of (suc (suc k)) t = onward (side_of products on_right t) (element_of (suc k))

-- every one is t; they are the same, one by one
unfoldable pub all_are : Ty → List Ty → Bool
all_are t [] = true
all_are t (u ∷ us) = both (same u t) (all_are t us)

unfoldable pub same_all : List Ty → List Ty → Bool
same_all [] [] = true
same_all [] (u ∷ us) = false
same_all (t ∷ ts) [] = false
same_all (t ∷ ts) (u ∷ us) = both (same t u) (same_all ts us)

-- document 01, CHECK and the meanings: a list is of an element type, which all its elements have
unfoldable pub is_list_of : ℕ → Ty → List Ty → Option Ty → Bool
is_list_of n t ts (some a) = both (same t (list_type a n)) (all_are a ts)
is_list_of n t ts none = false

-- document 01, CHECK and the meanings: jets 0..2 take 1, 2, 2: verify a bit, and gives unit; eq_8 two bytes, a bit; add_8 two bytes, a carry beside a byte
abbrev byte : Ty
byte = word_type 8

abbrev pub jet_takes : ℕ → List Ty
jet_takes j = choose (at 0 (two ∷ []) ∷ at 1 (byte ∷ byte ∷ []) ∷ at 2 (byte ∷ byte ∷ []) ∷ []) j []

abbrev pub jet_gives : ℕ → Ty
jet_gives j = choose (at 0 one ∷ at 1 two ∷ at 2 (product two byte) ∷ []) j one

-- document 01, CHECK and the meanings: a fold's function takes (element, accumulator) and gives the accumulator; the fold is over e, from a
unfoldable pub folds : (Ty → Ty) → List Ty → Ty → Ty → Ty → Ty → Bool
folds over [] u t e a = false
folds over (x ∷ []) u t e a = false
folds over (x ∷ acc ∷ []) u t e a = both (same e (over x)) (both (same a acc) (both (same t acc) (same u acc)))
folds over (x ∷ acc ∷ y ∷ ys) u t e a = false

-- document 01, CHECK and the meanings: a loop's function takes (accumulator, context, counter of the width) and gives left result or right accumulator, the loop the same sum
unfoldable pub loops : ℕ → List Ty → Ty → Ty → Ty → Ty → Bool
loops w [] u t a x = false
loops w (acc ∷ []) u t a x = false
loops w (acc ∷ ctx ∷ []) u t a x = false
loops w (acc ∷ ctx ∷ n ∷ []) u t a x = both (same n (word_type w)) (both (same a acc) (both (same x ctx) (both (is_at (side_of sums on_right t) acc) (same u t))))
loops w (acc ∷ ctx ∷ n ∷ y ∷ ys) u t a x = false

-- document 01, CHECK and the meanings: a hash's expressions are words of the widths that stand before them
unfoldable pub are_words : Parts → Bool
are_words no_parts = true
are_words (more_parts w e ps) = both (same (type_is e) (word_type w)) (are_words ps)

-- document 01, CHECK and the meanings: whether the declared type is the one that the parts' declared types give. A variable is judged in its scope, and a match's scrutinee and patterns where its arms begin
unfoldable pub whole : Expr → Bool
whole (constant r t v u w) = same u t
whole (witness r t k x) = true
whole (variable r t x) = true
whole (tuple r t es) = same t (row_type (types es))
whole (list r t n es) = is_list_of n t (types es) (element_of (top_of n) t)
whole (in_left r t e) = is_at (side_of sums on_left t) (type_is e)
whole (in_right r t e) = is_at (side_of sums on_right t) (type_is e)
whole (variant r t k n es) = both (has_places n t) (is_at (place_of sums n k t) (row_type (types es)))
whole (block r t ss) = same (end_type ss) t
whole (match r t e p l q g) = all_are t (type_is l ∷ type_is g ∷ [])
whole (match_enum r t e cs) = all_are t (arm_types cs)
whole (jet r t s j es) = both (same_all (types es) (jet_takes j)) (same t (jet_gives j))
whole (unwrap_left r t s e) = is_at (side_of sums on_left (type_is e)) t
whole (unwrap_right r t s e) = is_at (side_of sums on_right (type_is e)) t
whole (debug r t s e) = same (type_is e) t
whole (assert r t s e) = both (same (type_is e) two) (same t one)
whole (panic r t s) = true
whole (is_none r t e) = both (is_there (side_of sums on_left (type_is e))) (same t two)
whole (cast r t e) = same (type_is e) t
whole (call r t f es) = both (same_all (types es) (takes f)) (same t (gives f))
whole (list_fold r t f n e a) = folds (λ x. list_type x n) (takes f) (gives f) t (type_is e) (type_is a)
whole (array_fold r t f n e a) = folds (λ x. array_type x n) (takes f) (gives f) t (type_is e) (type_is a)
whole (for_while r t f w a x) = loops w (takes f) (gives f) t (type_is a) (type_is x)
whole (hash r t s ps) = both (are_words ps) (same t (word_type 256))
whole no_expr = false
