-- A term and a source meaning that agree: the term makes of the input what is meant, and that is a value of the type, a failure, or missing; never stuck.
-- Assumes nothing.
use mathlib.Core.List.{List, [], ◌∷◌}
use mathlib.Core.Path.{◌≡◌}
use Rattle.laws.specs.Rows.{Each}
use Rattle.array.proofs.Rows.{row_related}
use Rattle.simplicity.specs.Types.{Ty, one, product}
use Rattle.simplicity.specs.Values.{Value, unit, pair, Of, of_unit, of_pair}
use Rattle.simplicity.specs.Outcomes.{Outcome, value, failed, stuck, missing}
use Rattle.simplicity.specs.Terms.{Term}
use Rattle.simplicity.specs.Meaning.{Witnesses, eval}
use Rattle.shapes.specs.Shapes.{row_type}
use Rattle.meaning.specs.Source.{row_value}

-- a value of the type, or a failure; what is missing may be so only where M says it
abbrev pub Fine : Type 0 → Outcome → Ty → Type 0
Fine M (value v) a = Of v a
Fine M failed a = Unit {0}
Fine M stuck a = ⊥
Fine M missing a = M

pub record Agrees (M : Type 0) (ws : Witnesses) (t : Term) (input : Value) (o : Outcome) (a : Ty) : Type 0 where
  pub same : eval ws t input ≡ o
  pub fine : Fine M o a

-- terms in a row, what is meant by each, and their types
pub data AgreesAll (M : Type 0) (ws : Witnesses) (input : Value) : List Term → List Outcome → List Ty → Type 0 where
  no_more : AgreesAll M ws input [] [] []
  and_more : {t : Term} {ts : List Term} {o : Outcome} {os : List Outcome} {a : Ty} {as' : List Ty} → Agrees M ws t input o a → AgreesAll M ws input ts os as' → AgreesAll M ws input (t ∷ ts) (o ∷ os) (a ∷ as')

-- values in a row are of these types
pub data AllOf : List Value → List Ty → Type 0 where
  no_values : AllOf [] []
  and_values : {v : Value} {vs : List Value} {a : Ty} {as' : List Ty} → Of v a → AllOf vs as' → AllOf (v ∷ vs) (a ∷ as')

-- so each is of its own, and the row as one value is of the row's type
pub each_of : {vs : List Value} {as' : List Ty} → AllOf vs as' → Each Of vs as'
each_of no_values = tt
each_of (and_values h hs) = (h, each_of hs)

pub row_of : {vs : List Value} {as' : List Ty} → AllOf vs as' → Of (row_value vs) (row_type as')
row_of {vs} {as'} h = row_related Of unit pair one product of_unit (λ v w a b. of_pair) vs as' (each_of h)
