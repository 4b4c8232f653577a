-- What is stored around expressions, by the mark of the record.
-- Assumes nothing.
use Rattle.std.specs.Prelude.{ℕ, zero, suc, ◌+◌, ◌*◌, ◌^◌, ◌≤◌, ◌<◌, Bool, not, ◌≡◌, List, [], ◌∷◌, length, get_or, eqb, leb, Option, None, Some}
use Rattle.laws.specs.Table.{pick, both, Case, at, choose, among}
use Rattle.array.specs.Path.{path}
use Rattle.array.specs.Split.{top_of}
use Rattle.book.specs.Format.{EXPRESSION, STATEMENT, ET, EL, E0, E1, EN, SA, EH, CJ, CL, CR, CD, CA, CP, CN, CK, CF, CQ, CY, CW, CH}
use Rattle.book.specs.Index.{mark, field}
use Rattle.book.specs.Stands.{Stands}
use Rattle.book.specs.Text.{Text}
use Rattle.book.specs.Tree.{group}
use Rattle.named.specs.Trace.{Run, pure, bind}
use Rattle.named.specs.Combinators as node
use Rattle.builtins.specs.ArrayFold as arrays
use Rattle.builtins.specs.RawHash as hashes
use Rattle.recipes.specs.Calls as calls
use Rattle.recipes.specs.ListFold as lists
use Rattle.recipes.specs.ForWhile as loops
use Rattle.parts.specs.Joins.{listed}
use Rattle.parts.specs.declared.view.Span.{Span}

-- an expression's record, whose mark is m
pub record Marked (b i : List ℕ) (r m : ℕ) : Type 0 where
  pub stands : Stands b i r EXPRESSION
  pub is : mark b i r ≡ m

abbrev pub MarkedIn : Text → ℕ → ℕ → Type 0
MarkedIn x r m = Marked x.bytes x.index r m

-- a statement's record
abbrev pub Stated : List ℕ → List ℕ → ℕ → Type 0
Stated b i s = Stands b i s STATEMENT

-- a power of two, up to 128: half the bound of a list
pub record Power (n : ℕ) : Type 0 where
  pub is : n ≡ 2 ^ top_of n
  pub few : n ≤ 128

-- the marks whose records are lowered from a row of elements
abbrev pub row_marks : List ℕ
row_marks = ET ∷ EL ∷ E0 ∷ E1 ∷ EN ∷ EH ∷ CJ ∷ CL ∷ CR ∷ CD ∷ CA ∷ CP ∷ CN ∷ CF ∷ CQ ∷ CY ∷ CW ∷ CH ∷ []

abbrev pub span : ℕ → ℕ → ℕ → Span
span f s n = record { from = f; stride = s; count = n }

-- where a record's elements stand, whose fields hold x: the first one's field, how far to the next, how many
abbrev pub spans : (ℕ → ℕ) → List (Case Span)
spans x =
    at ET (span 2 1 (x 1))
    ∷ at EL (span 3 1 (x 2))
    ∷ at E0 (span 1 1 1)
    ∷ at E1 (span 1 1 1)
    ∷ at EN (span 4 1 (x 3))
    ∷ at EH (span 4 2 (x 2))
    ∷ at CJ (span 4 1 (x 3))
    ∷ at CL (span 2 1 1)
    ∷ at CR (span 2 1 1)
    ∷ at CD (span 2 1 1)
    ∷ at CA (span 2 1 1)
    ∷ at CN (span 1 1 1)
    ∷ at CF (span 3 1 (x 2))
    ∷ at CQ (span 3 1 2)
    ∷ at CY (span 3 1 2)
    ∷ at CW (span 3 1 2)
    ∷ at CH (span 4 2 (x 2))
    ∷ []

-- a panic has none
unfoldable pub span_at : ℕ → (ℕ → ℕ) → Span
span_at m x = choose (spans x) m (span 0 1 0)

-- what callers learn of a span of record r: its numbers are small
pub record Spanned (b i : List ℕ) (r m : ℕ) (p : Span) : Type 0 where
  pub is : p ≡ span_at m (field b i r)
  pub few : p.count ≤ 256
  pub low : p.from ≤ 4
  pub near : p.stride ≤ 2

-- whether a mark is a call's that has a body
unfoldable pub is_call : ℕ → Bool
is_call m = both (leb CJ m) (not (eqb m CK))

-- the calls that have a symbol
abbrev pub symbol_marks : List ℕ
symbol_marks = CJ ∷ CL ∷ CR ∷ CD ∷ CA ∷ CP ∷ CH ∷ []

-- the symbol of a call, 0 where its mark has none
unfoldable pub symbol_at : ℕ → (ℕ → ℕ) → ℕ
symbol_at m x = pick (among symbol_marks m) (x 1) 0

-- whether a call's mark names a function
unfoldable pub is_functional : ℕ → Bool
is_functional m = both (leb CF m) (leb m CW)

-- the bit widths that n words of a hash have, from field j on
unfoldable pub widths_row : List ℕ → List ℕ → ℕ → ℕ → ℕ → List ℕ
widths_row b i r j n = group 2 [] (λ k ws. field b i r k ∷ ws) j n

-- the row ws begins with the bit widths of the n words of hash r
pub record Widths (b i : List ℕ) (r n : ℕ) (ws : List ℕ) : Type 0 where
  pub fits : n ≤ length ws
  pub is : (k : ℕ) → k < n → get_or ws k 0 ≡ field b i r (3 + 2 * k)

module _ (b i : List ℕ) (r m : ℕ) where
  -- what joins the nodes of a record's elements
  unfoldable pub gather_run : List ℕ → Run ℕ
  gather_run xs = pick (eqb m EL) (listed r (field b i r 1) xs) (pick (eqb m EH) (node.joins r node.CASE xs) (node.joins r node.PAIR xs))

  -- what an injection, a variant makes of its row's node
  abbrev pub wrappings : ℕ → List (Case (Run ℕ))
  wrappings a = at E0 (node.injl r a) ∷ at E1 (node.injr r a) ∷ at EN (node.wraps r (node.kinds node.INJL node.INJR (path (field b i r 2) (field b i r 1))) a) ∷ []

  unfoldable pub wrap_run : ℕ → Run ℕ
  wrap_run a = choose (wrappings a) m (pure a)

  -- what a fold or a loop makes of its function's node
  abbrev pub foldings : ℕ → List (Case (Run ℕ))
  foldings g = at CQ (lists.list_fold r (field b i r 2) g) ∷ at CY (arrays.array_fold r (field b i r 2) g) ∷ at CW (loops.for_while r (top_of (field b i r 2)) g) ∷ []

  unfoldable pub fold_run : ℕ → Run ℕ
  fold_run g = choose (foldings g) m (pure g)

  -- the body of a call that names no function
  abbrev pub bodies : List (Case (Run ℕ))
  bodies =
      at CJ (node.jet r (field b i r 2))
      ∷ at CL (calls.unwrap_left r)
      ∷ at CR (calls.unwrap_right r)
      ∷ at CD (node.iden r)
      ∷ at CA (node.jet r 0)
      ∷ at CP (node.fail r)
      ∷ at CN (calls.is_none r)
      ∷ []

  unfoldable pub plain_run : Run ℕ
  plain_run = choose bodies m (hashes.raw_hash r (widths_row b i r 3 (field b i r 2)))

-- document 01, The book, eb: the expression that ends a block whose fields hold x, if it has one
unfoldable pub block_end : (ℕ → ℕ) → Option ℕ
block_end x = let e = x (2 + x 1) in pick (eqb e 65535) None (Some e)

-- what is stored for statement s after the rest of its block: a is the node that was stored before it, e the rest's
unfoldable pub close_run : List ℕ → List ℕ → ℕ → ℕ → ℕ → Run ℕ
close_run b i s a e = pick (eqb (mark b i s) SA) (node.comp s a e) (calls.followed s a e)

-- the first k statements of block r, ended from the last on: xs has the nodes that were stored before their rests
unfoldable pub close_all : List ℕ → List ℕ → ℕ → List ℕ → ℕ → ℕ → Run ℕ
close_all b i r xs zero e = pure e
close_all b i r xs (suc k) e = bind (close_run b i (field b i r (2 + k)) (get_or xs k 0) e) (close_all b i r xs k)
