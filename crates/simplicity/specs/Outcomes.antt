-- What a term may come to.
-- Assumes nothing.
use Rattle.simplicity.specs.Values.{Value}

-- a value; a failure; stuck, where a value has not the shape that the term needs; missing, where a witness is not given or a jet not known
pub data Outcome : Type 0 where
  value : Value → Outcome
  failed : Outcome
  stuck : Outcome
  missing : Outcome

-- what is made of a value; all else stays
abbrev pub and_then : Outcome → (Value → Outcome) → Outcome
and_then (value v) f = f v
and_then failed f = failed
and_then stuck f = stuck
and_then missing f = missing
