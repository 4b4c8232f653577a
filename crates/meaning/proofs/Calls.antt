-- Terms one after another, pairs, sides, calls, unwraps and jets mean what the source says.
-- Assumes nothing.
use Prim.Native.Nat.{ℕ, ◌<◌}
use mathlib.Core.Bool.{Bool, true, false}
use mathlib.Core.List.{List}
use mathlib.Core.Path.{◌≡◌, refl, ◌∙◌}
use native.Mathlib.Omega.{arith}
use lib.Dec.{T, ltb}
use Rattle.laws.specs.Table.{pick, both, both_left, both_right, below, all_below}
use Rattle.array.specs.Row.{row}
use Rattle.array.specs.Parts.{parts_in, by_parts}
use Rattle.array.specs.Split.{not_below, least_power, split_of, halvings, top_of}
use Rattle.simplicity.specs.Types.{Ty, one, sum, product, two, power, same}
use Rattle.simplicity.specs.Values.{Value, Of, of_unit, of_left, of_right, of_pair, shape}
use Rattle.simplicity.specs.Values as values
use Rattle.simplicity.specs.Outcomes.{Outcome, value, failed, stuck, missing, and_then}
use Rattle.simplicity.specs.Terms.{Term, iden, unit, injl, injr, drop, comp, pair, assertl, fail, scribe, jet}
use Rattle.simplicity.specs.Jets.{jet_on, jet_types, on_word, verify}
use Rattle.simplicity.specs.Meaning.{Witnesses, eval}
use Rattle.simplicity.specs.Typing.{Good, t_jet}
use Rattle.simplicity.proofs.Safe.{safe, same_is}
use Rattle.shapes.specs.Shapes.{row_type, jet_takes, jet_gives}
use Rattle.meaning.specs.Source.{row_value, by_side}
use Rattle.meaning.proofs.Terms.{bit, called, unwraps_left, unwraps_right, tells_none, raw_hash}
use Rattle.meaning.proofs.Agreeing.{Fine, Agrees, AllOf, row_of}

-- nothing more is made of a value; two things, one after the other
pub then_value : (o : Outcome) → and_then o (λ x. value x) ≡ o
then_value (value x) = refl
then_value failed = refl
then_value stuck = refl
then_value missing = refl

pub then_then : (o : Outcome) (f g : Value → Outcome) → and_then (and_then o f) g ≡ and_then o (λ x. and_then (f x) g)
then_then (value x) f g = refl
then_then failed f g = refl
then_then stuck f g = refl
then_then missing f g = refl

-- an outcome is the one that is meant, which is fine
pub record Meant (M : Type 0) (o u : Outcome) (a : Ty) : Type 0 where
  pub same : o ≡ u
  pub fine : Fine M u a

-- what is made of it is what is meant, where that is so of each value
pub meant_then : {M : Type 0} {o u : Outcome} {a b : Ty} {f k : Value → Outcome} → Meant M o u a → ((x : Value) → Of x a → Meant M (f x) (k x) b) → Meant M (and_then o f) (and_then u k) b
meant_then {M} {o} {u} {a} {b} {f} {k} m h = go u m.same m.fine
  where
    go : (w : Outcome) → o ≡ w → Fine M w a → Meant M (and_then o f) (and_then w k) b
    go (value x) e l = rw e (h x l)
    go failed e l = rw e (record { same = refl; fine = tt })
    go stuck e l = absurd l
    go missing e l = rw e (record { same = refl; fine = l })

module _ {M : Type 0} {ws : Witnesses} where
  -- a term that agrees comes to what is meant; one that comes to what is meant agrees
  pub meant : {t : Term} {v : Value} {o : Outcome} {a : Ty} → Agrees M ws t v o a → Meant M (eval ws t v) o a
  meant h = record { same = h.same; fine = h.fine }

  pub agree_by : {t : Term} {v : Value} {p o : Outcome} {a : Ty} → eval ws t v ≡ p → Meant M p o a → Agrees M ws t v o a
  agree_by e m = record { same = e ∙ m.same; fine = m.fine }

-- a call is what its body makes of its argument, with a symbol and without
pub called_is : (ws : Witnesses) (y : Bool) (s : ℕ) (p q : Term) (v : Value) → eval ws (called y s p q) v ≡ and_then (eval ws p v) (eval ws q)
unfolding eval
called_is ws y s p q v = go (both y (ltb 0 s))
  where
    go : (b : Bool) → eval ws (pick b (comp (pair (bit false) p) (assertl (drop q) s)) (comp p q)) v ≡ and_then (eval ws p v) (eval ws q)
    go true = then_then (eval ws p v) (λ x. value (values.pair (values.bit false) x)) (eval ws (assertl (drop q) s))
    go false = refl

-- what is made of a pair is made of one value, and then of the other
pair_then : (ws : Witnesses) (p q : Term) (v : Value) (f : Value → Outcome) → and_then (eval ws (pair p q) v) f ≡ and_then (eval ws p v) (λ x. and_then (eval ws q v) (λ z. f (values.pair x z)))
unfolding eval
pair_then ws p q v f =
    then_then (eval ws p v) (λ x. and_then (eval ws q v) (λ z. value (values.pair x z))) f
    ∙ (λ i. and_then (eval ws p v) (λ x. then_then (eval ws q v) (λ z. value (values.pair x z)) f i))

-- what the source's jets take and give is what the jets do
abbrev agreed : ℕ → Bool
agreed j = both (same (row_type (jet_takes j)) (jet_types j).from) (same (jet_gives j) (jet_types j).to)

all_agreed : T (below agreed 3)
unfolding same power row parts_in by_parts not_below least_power split_of halvings top_of jet_types
all_agreed = tt

same_by : (a b : Ty) → T (same a b) → a ≡ b
same_by a b t = same_is a b (holds (same a b) t)
  where
    holds : (x : Bool) → T x → x ≡ true
    holds true u = refl
    holds false u = absurd u

declared : (j : ℕ) → j < 3 → (row_type (jet_takes j) ≡ (jet_types j).from) × (jet_gives j ≡ (jet_types j).to)
declared j l =
    let t : T (agreed j) = all_below agreed 3 all_agreed j l in
    let i : Bool = same (row_type (jet_takes j)) (jet_types j).from in
    let o : Bool = same (jet_gives j) (jet_types j).to in
    (same_by _ _ (both_left i o t), same_by _ _ (both_right i o t))

good_fine : (M : Type 0) (o : Outcome) (a : Ty) → Good o a → Fine M o a
good_fine M (value v) a h = h
good_fine M failed a h = tt
good_fine M stuck a h = absurd h
good_fine M missing a h = absurd h

module _ {M : Type 0} {ws : Witnesses} where
  -- a call means what its body means of what its argument means
  pub agree_called : (y : Bool) (s : ℕ) {p q : Term} {v : Value} {o : Outcome} {k : Value → Outcome} {a b : Ty} → Agrees M ws p v o a → ((x : Value) → Of x a → Agrees M ws q x (k x) b) → Agrees M ws (called y s p q) v (and_then o k) b
  agree_called y s h i = agree_by (called_is ws y s _ _ _) (meant_then (meant h) (λ x l. meant (i x l)))

  -- one term after another
  pub agree_comp : {p q : Term} {v : Value} {o : Outcome} {k : Value → Outcome} {a b : Ty} → Agrees M ws p v o a → ((x : Value) → Of x a → Agrees M ws q x (k x) b) → Agrees M ws (comp p q) v (and_then o k) b
  agree_comp h i = agree_called false 0 h i

  -- a pair means both, one after the other
  pub agree_pair : {p q : Term} {v : Value} {o u : Outcome} {a b : Ty} → Agrees M ws p v o a → Agrees M ws q v u b → Agrees M ws (pair p q) v (and_then o (λ x. and_then u (λ z. value (values.pair x z)))) (product a b)
  unfolding eval
  agree_pair h i = agree_by refl (meant_then (meant h) (λ x l. meant_then (meant i) (λ z r. record { same = refl; fine = of_pair l r })))

  -- a call on a pair
  pub agree_called_pair : (y : Bool) (s : ℕ) {p q g : Term} {v : Value} {o u : Outcome} {k : Value → Value → Outcome} {a b c : Ty} → Agrees M ws p v o a → Agrees M ws q v u b → ((x z : Value) → Of x a → Of z b → Agrees M ws g (values.pair x z) (k x z) c) → Agrees M ws (called y s (pair p q) g) v (and_then o (λ x. and_then u (λ z. k x z))) c
  agree_called_pair y s {p} {q} {g} {v} h i j = agree_by (called_is ws y s (pair p q) g v ∙ pair_then ws p q v (eval ws g)) (meant_then (meant h) (λ x l. meant_then (meant i) (λ z r. meant (j x z l r))))

  -- what is made of a value beside the input
  pub agree_beside : {p g : Term} {v : Value} {o : Outcome} {k : Value → Outcome} {a c : Ty} → Agrees M ws p v o a → ((x : Value) → Of x a → Agrees M ws g (values.pair x v) (k x) c) → Agrees M ws (comp (pair p iden) g) v (and_then o k) c
  unfolding eval
  agree_beside {p} {g} {v} h i = agree_by (pair_then ws p iden v (eval ws g)) (meant_then (meant h) (λ x l. meant (i x l)))

  -- a term whose value is passed over, and then another
  pub agree_followed : {p q : Term} {v : Value} {o u : Outcome} {a c : Ty} → Agrees M ws p v o a → Agrees M ws q v u c → Agrees M ws (comp (pair p q) (drop iden)) v (and_then o (λ x. u)) c
  unfolding eval
  agree_followed {p} {q} {v} h i =
      agree_by (pair_then ws p q v (eval ws (drop iden)) ∙ (λ j. and_then (eval ws p v) (λ x. then_value (eval ws q v) j))) (meant_then (meant h) (λ x l. meant i))

  -- a side of a sum
  pub agree_left : {p : Term} {v : Value} {o : Outcome} {a b : Ty} → Agrees M ws p v o a → Agrees M ws (injl p) v (and_then o (λ x. value (values.left x))) (sum a b)
  unfolding eval
  agree_left h = agree_by refl (meant_then (meant h) (λ x l. record { same = refl; fine = of_left l }))

  pub agree_right : {p : Term} {v : Value} {o : Outcome} {a b : Ty} → Agrees M ws p v o b → Agrees M ws (injr p) v (and_then o (λ x. value (values.right x))) (sum a b)
  unfolding eval
  agree_right h = agree_by refl (meant_then (meant h) (λ x l. record { same = refl; fine = of_right l }))

  -- the input itself; a constant; the unit; a failure
  pub agree_iden : {v : Value} {a : Ty} → Of v a → Agrees M ws iden v (value v) a
  unfolding eval
  agree_iden h = record { same = refl; fine = h }

  pub agree_value : {c v : Value} {a : Ty} → Of c a → Agrees M ws (scribe c) v (value c) a
  unfolding eval
  agree_value h = record { same = refl; fine = h }

  pub agree_unit : {v : Value} → Agrees M ws unit v (value values.unit) one
  unfolding eval
  agree_unit = record { same = refl; fine = of_unit }

  pub agree_fail : {v : Value} {a : Ty} → Agrees M ws fail v failed a
  unfolding eval
  agree_fail = record { same = refl; fine = tt }

  -- an unwrap gives its side's value, and fails on the other side
  pub agree_unwrap_left : {x : Value} {a b : Ty} → Of x (sum a b) → Agrees M ws unwraps_left x (by_side x (λ z. value z) (λ z. failed)) a
  unfolding eval
  agree_unwrap_left (of_left h) = record { same = refl; fine = h }
  agree_unwrap_left (of_right h) = record { same = refl; fine = tt }

  pub agree_unwrap_right : {x : Value} {a b : Ty} → Of x (sum a b) → Agrees M ws unwraps_right x (by_side x (λ z. failed) (λ z. value z)) b
  unfolding eval
  agree_unwrap_right (of_left h) = record { same = refl; fine = tt }
  agree_unwrap_right (of_right h) = record { same = refl; fine = h }

  -- left is none
  pub agree_is_none : {x : Value} {a b : Ty} → Of x (sum a b) → Agrees M ws tells_none x (by_side x (λ z. value (values.bit true)) (λ z. value (values.bit false))) two
  unfolding eval
  agree_is_none (of_left h) = record { same = refl; fine = of_right of_unit }
  agree_is_none (of_right h) = record { same = refl; fine = of_left of_unit }

  -- an assert fails on false
  pub agree_assert : {x : Value} → Of x two → Agrees M ws (jet 0) x (by_side x (λ z. failed) (λ z. value values.unit)) one
  unfolding eval jet_on on_word verify
  agree_assert (of_left of_unit) = record { same = refl; fine = tt }
  agree_assert (of_right of_unit) = record { same = refl; fine = of_unit }

  -- a known jet on arguments of its types
  pub agree_jet : (j : ℕ) → j < 3 → {vs : List Value} → AllOf vs (jet_takes j) → Agrees M ws (jet j) (row_value vs) (jet_on shape j (row_value vs)) (jet_gives j)
  unfolding eval
  agree_jet j l {vs} h =
      let w = declared j l in
      let g : Of (row_value vs) (jet_types j).from = rw (← w.0) (row_of h) in
      record { same = refl; fine = rw w.1 (good_fine M (jet_on shape j (row_value vs)) _ (safe ws (t_jet (omega arith) refl refl) l (row_value vs) g)) }

  -- a run knows no jet of a hash
  pub agree_hash : M → (us : List ℕ) (x : Value) (b : Ty) → Agrees M ws (raw_hash us) x missing b
  unfolding eval raw_hash jet_on
  agree_hash m us x b = record { same = refl; fine = m }
