-- Simplicity's terms: the fifteen kinds, in document 01's order.
-- Assumes nothing.
use Rattle.std.specs.Prelude.{ℕ}
use Rattle.simplicity.specs.Types.{Ty}
use Rattle.simplicity.specs.Values.{Value}

pub data Term : Type 0 where
  iden : Term
  unit : Term
  injl : Term → Term
  injr : Term → Term
  take : Term → Term
  drop : Term → Term
  comp : Term → Term → Term
  case : Term → Term → Term
  pair : Term → Term → Term
  -- the left branch, and the symbol that stands for the hidden right one; the other way round
  assertl : Term → ℕ → Term
  assertr : ℕ → Term → Term
  fail : Term
  -- the witness's name and its type
  witness : ℕ → Ty → Term
  -- the constant's value
  scribe : Value → Term
  -- the jet's number
  jet : ℕ → Term
