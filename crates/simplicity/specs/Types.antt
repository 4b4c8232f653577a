-- Simplicity's types, as its public definition builds them.
-- Assumes nothing.
use Rattle.std.specs.Prelude.{ℕ, zero, suc, ◌+◌, max, Bool, true, false}
use Rattle.laws.specs.Table.{both}

-- the unit type; the sum of two types, a value of either; the product of two types, a value of both
pub data Ty : Type 0 where
  one : Ty
  sum : Ty → Ty → Ty
  product : Ty → Ty → Ty

-- a bit: a sum of two units
abbrev pub two : Ty
two = sum one one

-- 2 ^ k of a type, as balanced pairs
unfoldable pub power : Ty → ℕ → Ty
power a zero = a
power a (suc k) = product (power a k) (power a k)

-- a word of 2 ^ k bits
abbrev pub word_of : ℕ → Ty
word_of k = power two k

-- fewer than 2 ^ (k + 1) of a type: for each power of two from the greatest on, none or that many
unfoldable pub fewer : Ty → ℕ → Ty
fewer a zero = sum one a
fewer a (suc k) = product (sum one (power a (suc k))) (fewer a k)

-- how many bits a value of a type takes: a sum one more than its wider side, a product both its parts
unfoldable pub width : Ty → ℕ
width one = 0
width (sum a b) = 1 + max (width a) (width b)
width (product a b) = width a + width b

-- whether two types are the same
unfoldable pub same : Ty → Ty → Bool
same one one = true
same one (sum c d) = false
same one (product c d) = false
same (sum a b) one = false
same (sum a b) (sum c d) = both (same a c) (same b d)
same (sum a b) (product c d) = false
same (product a b) one = false
same (product a b) (sum c d) = false
same (product a b) (product c d) = both (same a c) (same b d)
