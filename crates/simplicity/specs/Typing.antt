-- Simplicity's typing rules: which terms go from a type to a type.
-- Assumes nothing.
use Rattle.std.specs.Prelude.{ℕ, ◌<◌, ◌≡◌}
use Rattle.simplicity.specs.Types.{Ty, one, sum, product}
use Rattle.simplicity.specs.Values.{Value, Of}
use Rattle.simplicity.specs.Outcomes.{Outcome, value, failed, stuck, missing}
use Rattle.simplicity.specs.Terms.{Term, iden, unit, injl, injr, take, drop, comp, case, pair, assertl, assertr, fail, witness, scribe, jet}
use Rattle.simplicity.specs.Jets.{jet_types}
use Rattle.simplicity.specs.Meaning.{Witnesses}

-- a term goes from a type to a type, one rule a kind
pub data Types : Term → Ty → Ty → Type 0 where
  t_iden : {a : Ty} → Types iden a a
  t_unit : {a : Ty} → Types unit a one
  t_injl : {t : Term} {a b c : Ty} → Types t a b → Types (injl t) a (sum b c)
  t_injr : {t : Term} {a b c : Ty} → Types t a c → Types (injr t) a (sum b c)
  t_take : {t : Term} {a b c : Ty} → Types t a c → Types (take t) (product a b) c
  t_drop : {t : Term} {a b c : Ty} → Types t b c → Types (drop t) (product a b) c
  t_comp : {s t : Term} {a b c : Ty} → Types s a b → Types t b c → Types (comp s t) a c
  t_case : {s t : Term} {a b c d : Ty} → Types s (product a c) d → Types t (product b c) d → Types (case s t) (product (sum a b) c) d
  t_pair : {s t : Term} {a b c : Ty} → Types s a b → Types t a c → Types (pair s t) a (product b c)
  t_assertl : {s : Term} {n : ℕ} {a b c d : Ty} → Types s (product a c) d → Types (assertl s n) (product (sum a b) c) d
  t_assertr : {t : Term} {n : ℕ} {a b c d : Ty} → Types t (product b c) d → Types (assertr n t) (product (sum a b) c) d
  t_fail : {a b : Ty} → Types fail a b
  t_witness : {x : ℕ} {a b : Ty} → Types (witness x b) a b
  t_scribe : {v : Value} {a b : Ty} → Of v b → Types (scribe v) a b
  t_jet : {j : ℕ} {a b : Ty} → j < 11 → (jet_types j).from ≡ a → (jet_types j).to ≡ b → Types (jet j) a b

-- a value of the type
abbrev pub Has : Outcome → Ty → Type 0
Has (value v) a = Of v a
Has failed a = ⊥
Has stuck a = ⊥
Has missing a = ⊥

-- a value of the type, or a failure
abbrev pub Good : Outcome → Ty → Type 0
Good (value v) a = Of v a
Good failed a = Unit {0}
Good stuck a = ⊥
Good missing a = ⊥

-- every witness of a term is given and of its type, and every jet known
abbrev pub Supplied : Witnesses → Term → Type 0
Supplied ws iden = Unit {0}
Supplied ws unit = Unit {0}
Supplied ws (injl t) = Supplied ws t
Supplied ws (injr t) = Supplied ws t
Supplied ws (take t) = Supplied ws t
Supplied ws (drop t) = Supplied ws t
Supplied ws (comp s t) = Supplied ws s × Supplied ws t
Supplied ws (case s t) = Supplied ws s × Supplied ws t
Supplied ws (pair s t) = Supplied ws s × Supplied ws t
Supplied ws (assertl s n) = Supplied ws s
Supplied ws (assertr n t) = Supplied ws t
Supplied ws fail = Unit {0}
Supplied ws (witness x a) = Has (ws x a) a
Supplied ws (scribe c) = Unit {0}
Supplied ws (jet j) = j < 3
