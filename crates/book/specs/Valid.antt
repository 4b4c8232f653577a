-- What READ establishes of a book that it accepts: what every later pass may rely on.
-- Assumes nothing.
use Rattle.std.specs.Prelude.{ℕ, suc, ◌+◌, ◌*◌, ◌-◌, ◌≤◌, ◌<◌, true, ◌≡◌, List, length, get_or, T}
use Rattle.book.specs.Format.{word_at, in_range, TYPE, EXPRESSION}
use Rattle.book.specs.Read.{end_at, alike}
use Rattle.book.specs.Ready.{Rows}
use Rattle.book.specs.Index.{kind, total, role, field, named, single, depth}

-- document 01, The book: n records lie end to end from the first byte to the last, at the places i, which is zero beyond
pub record Tiles (b i : List ℕ) (n : ℕ) : Type 0 where
  pub begins : get_or i 0 0 ≡ 0
  pub joins : (r : ℕ) → suc r < n → get_or i (suc r) 0 ≡ end_at b (get_or i r 0)
  pub ends : end_at b (get_or i (n - 1) 0) ≡ length b
  pub beyond : (r : ℕ) → n ≤ r → get_or i r 0 ≡ 0

-- document 01, Refusals 5 and 6: record r's numbers are in range, and what it names is earlier and of the kind that its role says
pub record Sound (b i : List ℕ) (r : ℕ) : Type 0 where
  pub ranged : (k : ℕ) → k < total b i r → T (in_range (role b i r k) (word_at b (get_or i r 0 + 2 * k)) (field b i r k))
  pub earlier : (k : ℕ) → k < total b i r → (named b i r k ≡ 0 → ⊥) → field b i r k < r
  pub kinds : (k : ℕ) → k < total b i r → (named b i r k ≡ 0 → ⊥) → kind b i (field b i r k) ≡ named b i r k

-- document 01, Refusal 7: field k of record r names x, which may be named once only
pub record Uses (b i : List ℕ) (r k x : ℕ) : Type 0 where
  pub inside : k < total b i r
  pub once : single (named b i r k) ≡ true
  pub is : field b i r k ≡ x

-- x is named by some field of one of the first n records
pub record Used (b i : List ℕ) (n x : ℕ) : Type 0 where
  pub by : ℕ
  pub at : ℕ
  pub before : by < n
  pub uses : Uses b i by at x

-- a book of n records whose places are i: each sound, each expression and statement named once and all but the last named, the root an expression, no two types alike, none deeper than 255
pub record Valid (b i : List ℕ) (n : ℕ) : Type 0 where
  pub some : 0 < n
  pub rows : Rows b i n
  pub sound : (r : ℕ) → r < n → Sound b i r
  pub once : (r k s j x : ℕ) → r < n → s < n → Uses b i r k x → Uses b i s j x → (r ≡ s) × (k ≡ j)
  pub all : (x : ℕ) → suc x < n → single (kind b i x) ≡ true → Used b i n x
  pub root : kind b i (n - 1) ≡ EXPRESSION
  pub unlike : (r s : ℕ) → r < n → s < n → kind b i r ≡ TYPE → alike b (get_or i r 0) (get_or i s 0) ≡ true → r ≡ s
  pub shallow : (r : ℕ) → r < n → depth b i r ≤ 255
