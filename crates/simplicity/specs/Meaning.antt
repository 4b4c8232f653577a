-- The published meaning of Simplicity's terms: what each makes of a value.
-- Assumes nothing.
use Rattle.std.specs.Prelude.{ℕ}
use Rattle.simplicity.specs.Types.{Ty}
use Rattle.simplicity.specs.Values.{Value, shape, if_sum, if_pair}
use Rattle.simplicity.specs.Values as values
use Rattle.simplicity.specs.Outcomes.{Outcome, value, failed, stuck, and_then}
use Rattle.simplicity.specs.Terms.{Term, iden, unit, injl, injr, take, drop, comp, case, pair, assertl, assertr, fail, witness, scribe, jet}
use Rattle.simplicity.specs.Jets.{jet_on}

-- what a program is given for a witness, by its name and type: a value, or it is missing
abbrev pub Witnesses : Type 0
Witnesses = ℕ → Ty → Outcome

unfoldable pub eval : Witnesses → Term → Value → Outcome
eval ws iden v = value v
eval ws unit v = value values.unit
eval ws (injl t) v = and_then (eval ws t v) (λ a. value (values.left a))
eval ws (injr t) v = and_then (eval ws t v) (λ a. value (values.right a))
eval ws (take t) v = if_pair (shape v) (λ a b. eval ws t a) stuck
eval ws (drop t) v = if_pair (shape v) (λ a b. eval ws t b) stuck
eval ws (comp s t) v = and_then (eval ws s v) (λ a. eval ws t a)
-- a case takes a pair of a sum and an environment, and hands its branch the pair of the sum's part and the environment
eval ws (case s t) v = if_pair (shape v) (λ c e. if_sum (shape c) (λ a. eval ws s (values.pair a e)) (λ b. eval ws t (values.pair b e)) stuck) stuck
eval ws (pair s t) v = and_then (eval ws s v) (λ a. and_then (eval ws t v) (λ b. value (values.pair a b)))
-- an assert is a case that fails on its hidden side
eval ws (assertl s n) v = if_pair (shape v) (λ c e. if_sum (shape c) (λ a. eval ws s (values.pair a e)) (λ b. failed) stuck) stuck
eval ws (assertr n t) v = if_pair (shape v) (λ c e. if_sum (shape c) (λ a. failed) (λ b. eval ws t (values.pair b e)) stuck) stuck
eval ws fail v = failed
eval ws (witness x a) v = ws x a
eval ws (scribe c) v = value c
eval ws (jet j) v = jet_on shape j v
