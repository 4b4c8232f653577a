-- Simplicity's values, as its public definition builds them, and the types that they are of.
-- Assumes nothing.
use Rattle.std.specs.Prelude.{ℕ, zero, suc, ◌/◌, ◌%◌, ◌^◌, Bool, true, false, eqb}
use Rattle.simplicity.specs.Types.{Ty, one, sum, product}

-- the unit value; a value on the left or on the right of a sum; a pair of values
pub data Value : Type 0 where
  unit : Value
  left : Value → Value
  right : Value → Value
  pair : Value → Value → Value

-- a value is of a type
pub data Of : Value → Ty → Type 0 where
  of_unit : Of unit one
  of_left : {v : Value} {a b : Ty} → Of v a → Of (left v) (sum a b)
  of_right : {v : Value} {a b : Ty} → Of v b → Of (right v) (sum a b)
  of_pair : {v w : Value} {a b : Ty} → Of v a → Of w b → Of (pair v w) (product a b)

-- document 01, CHECK and the meanings: true is right
abbrev pub bit : Bool → Value
bit true = right unit
bit false = left unit

-- document 01, CHECK and the meanings: words are balanced pairs of bits, high half left. The number n as 2 ^ k bits
unfoldable pub word : ℕ → ℕ → Value
word zero n = bit (eqb (n % 2) 1)
word (suc k) n = pair (word k (n / 2 ^ (2 ^ k))) (word k (n % 2 ^ (2 ^ k)))

-- what a value is, one step down; its parts are of type A, as a table's cells are numbers. `is_nothing` is no value
pub data Shape (A : Type 0) : Type 0 where
  is_nothing : Shape A
  is_unit : Shape A
  is_left : A → Shape A
  is_right : A → Shape A
  is_pair : A → A → Shape A

-- a value's own shape
abbrev pub shape : Value → Shape Value
shape unit = is_unit
shape (left v) = is_left v
shape (right v) = is_right v
shape (pair v w) = is_pair v w

-- what is made of the unit, or else r
abbrev pub if_unit : {A R : Type 0} → Shape A → R → R → R
if_unit is_nothing f r = r
if_unit is_unit f r = f
if_unit (is_left a) f r = r
if_unit (is_right a) f r = r
if_unit (is_pair a b) f r = r

-- what is made of a left's or a right's part, or else r
abbrev pub if_sum : {A R : Type 0} → Shape A → (A → R) → (A → R) → R → R
if_sum is_nothing f g r = r
if_sum is_unit f g r = r
if_sum (is_left a) f g r = f a
if_sum (is_right a) f g r = g a
if_sum (is_pair a b) f g r = r

-- what is made of a pair's parts, or else r
abbrev pub if_pair : {A R : Type 0} → Shape A → (A → A → R) → R → R
if_pair is_nothing f r = r
if_pair is_unit f r = r
if_pair (is_left a) f r = r
if_pair (is_right a) f r = r
if_pair (is_pair a b) f r = f a b
