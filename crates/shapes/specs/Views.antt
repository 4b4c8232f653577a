-- What the parts of the comparison promise: a type's record, or none.
-- Assumes nothing.
use Rattle.std.specs.Prelude.{ℕ, zero, suc, Bool, true, false, List, [], ◌∷◌, ◌≡◌, T, eqb, Option as Answer, Some, None}
use Rattle.std.proofs.Math.Option.{Option, some, none}
use Rattle.laws.specs.Table.{pick, among}
use Rattle.array.specs.Path.{on_left, on_right}
use Rattle.simplicity.specs.Types.{Ty, one, sum, power, same}
use Rattle.book.specs.Format.{TYPE, TS, TP, power_in}
use Rattle.book.specs.Books.{StandsIn}
use Rattle.book.specs.Stands.{Stands}
use Rattle.book.specs.Text.{Text}
use Rattle.book.specs.Tree.{Expr, type_of, expr_of}
use Rattle.shapes.specs.Shapes.{Sort, sums, products, side_of, onward}

-- the code's answer says what o says: there is no type, or it is that of record t
pub data Gives (b i : List ℕ) (o : Option Ty) : Answer ℕ → Type 0 where
  nowhere : o ≡ none → Gives b i o None
  record_of : {t : ℕ} → Stands b i t TYPE → o ≡ some (type_of b i t) → Gives b i o (Some t)

-- what a mark's types are made of
abbrev pub is_sort : ℕ → Bool
is_sort m = among (TS ∷ TP ∷ []) m

abbrev pub sort_of : ℕ → Sort
sort_of m = pick (eqb m TS) sums products

-- the side at field k
abbrev pub side_is : ℕ → ℕ → Ty → Option Ty
side_is m k t = side_of (sort_of m) (pick (eqb k 0) on_left on_right) t

-- a list's bound
abbrev pub ListBound : ℕ → Type 0
ListBound n = T (power_in 2 256 n)

-- what a type is 2 ^ k of, where both halves of each pair are the same
unfoldable pub same_half : Option Ty → Option Ty → Option Ty
same_half (some a) (some b) = elim (same a b) [ true ↦ some a | false ↦ none ]
same_half (some a) none = none
same_half none b = none

unfoldable pub halved_of : ℕ → Ty → Option Ty
halved_of zero t = some t
halved_of (suc k) t = onward (same_half (side_of products on_left t) (side_of products on_right t)) (halved_of k)

-- a list's block: unit, or 2 ^ k of a type
abbrev pub block_type : Ty → ℕ → Ty
block_type a k = sum one (power a k)

-- a book as contracts see it
module _ (x : Text) where
  -- the expression of record e; the type of record t
  abbrev pub expr_at : ℕ → Expr
  expr_at e = expr_of x.bytes x.index e

  abbrev pub type_at : ℕ → Ty
  type_at t = type_of x.bytes x.index t

  -- record t is a type, which is u
  abbrev pub TypeIs : ℕ → Ty → Type 0
  TypeIs t u = StandsIn x t TYPE × (type_at t ≡ u)

  -- the code's answer a says what o says
  abbrev pub GivesIn : Option Ty → Answer ℕ → Type 0
  GivesIn o a = Gives x.bytes x.index o a
