-- A match agrees where its arms do: a value of a type with a place for each arm is of one variant, and the arm of that variant runs.
-- Assumes nothing.
use Prim.Native.Nat.{ℕ, zero, suc, ◌+◌, ◌-◌, ◌<◌, ◌≤◌}
use mathlib.Core.Bool.{true}
use mathlib.Core.List.{List, [], ◌∷◌}
use mathlib.Core.Path.{◌≡◌, refl, sym, ap, subst, ◌∙◌}
use native.Mathlib.Omega.{arith}
use lib.Dec.{T}
use lib.ListN.{length, get_or}
use Rattle.laws.specs.Table.{all_below}
use Rattle.array.specs.Split.{split_of, least_power, not_below}
use Rattle.array.specs.Parts.{parts_in, by_parts}
use Rattle.array.specs.Row.{row}
use Rattle.array.specs.Path.{on_left, on_right, path}
use Rattle.array.proofs.Splits.{split_some, split_less}
use Rattle.array.proofs.Partings.{parts_all}
use Rattle.array.proofs.Paths.{path_one, path_left, path_right}
use Rattle.simplicity.specs.Types.{Ty, sum}
use Rattle.simplicity.specs.Values.{Value, left, right, pair, Of, of_unit, of_left, of_right, of_pair}
use Rattle.simplicity.specs.Values as values
use Rattle.simplicity.specs.Outcomes.{Outcome, stuck}
use Rattle.simplicity.specs.Terms.{Term, case}
use Rattle.simplicity.specs.Terms as terms
use Rattle.simplicity.specs.Meaning.{Witnesses, eval}
use Rattle.shapes.specs.Shapes.{sums, side_of, onward, leads, place_of, is_there, has_places}
use Rattle.typing.specs.Check.{there, variant_type}
use Rattle.meaning.specs.Source.{behind, payload, by_side, choose}
use Rattle.meaning.proofs.Terms.{case_tree}
use Rattle.meaning.proofs.Agreeing.{Agrees}
use Rattle.meaning.proofs.Arms.{arm_chosen, arm_runs}

-- a type has a place for each of n variants
abbrev Has : ℕ → Ty → Type 0
Has n u = (k : ℕ) → k < n → T (is_there (place_of sums n k u))

-- a value is of a variant: its payload behind the variant's path
record Variant (n : ℕ) (u : Ty) (v : Value) : Type 0 where
  pub number : ℕ
  pub low : number < n
  pub part : Value
  pub is : v ≡ behind (path n number) part
  pub typed : Of part (variant_type n number u)

-- the variants before the split have their places on the left, the others on the right
module _ (n : ℕ) (two : 2 ≤ n) (a b : Ty) where
  has_left : Has n (sum a b) → Has (split_of n) a
  unfolding leads onward side_of
  has_left h k l = rw (path_left n k two l) at (h k (omega (arith, split_less n two)))

  has_right : Has n (sum a b) → Has (n - split_of n) b
  unfolding leads onward side_of
  has_right h k l =
      let e : split_of n + k - split_of n ≡ k = omega arith in
      rw (path_right n (split_of n + k) two (omega arith), e) at (h (split_of n + k) (omega arith))

-- a value of a type that has places for n variants is of one of them: bare where it is the only one, else on its side
abbrev One : ℕ → Type 0
One n = (u : Ty) (v : Value) → 0 < n → Has n u → Of v u → Variant n u v

one_alone : One 1
unfolding leads there behind
one_alone u v o h l = record { number = 0; low = omega arith; part = v; is = rw (path_one 0); typed = rw (path_one 0) l }

one_more : (n : ℕ) → 2 ≤ n → One (split_of n) → One (n - split_of n) → One n
unfolding leads onward side_of is_there there behind
one_more n two l r u v o h of_unit = absurd (rw (path_left n 0 two (split_some n two)) at (h 0 o))
one_more n two l r u v o h (of_pair x y) = absurd (rw (path_left n 0 two (split_some n two)) at (h 0 o))
one_more n two l r u v o h (of_left {v = w} {a = a} {b = b} x) =
    let i = l a w (split_some n two) (has_left n two a b h) x in
    let e : path n i.number ≡ on_left ∷ path (split_of n) i.number = path_left n i.number two i.low in
    record {
      number = i.number;
      low = omega (arith, i.low, split_less n two);
      part = i.part;
      is = rw e (ap left i.is);
      typed = rw e i.typed;
    }
one_more n two l r u v o h (of_right {v = w} {a = a} {b = b} x) =
    let s : ℕ = split_of n in
    let i = r b w (omega (arith, split_less n two)) (has_right n two a b h) x in
    let z : s + i.number - s ≡ i.number = omega arith in
    let e : path n (s + i.number) ≡ on_right ∷ path (n - s) i.number = rw z at (path_right n (s + i.number) two (omega arith)) in
    record {
      number = s + i.number;
      low = omega (arith, i.low);
      part = i.part;
      is = rw e (ap right i.is);
      typed = rw e i.typed;
    }

one_of : (n : ℕ) → One n
one_of = parts_all One (λ u v o h l. absurd (omega arith)) one_alone one_more

-- what each arm from k on makes of its variant's payload beside the input agrees
pub data ArmsAgree (M : Type 0) (ws : Witnesses) (input : Value) (n : ℕ) (u t : Ty) : ℕ → List Term → List (Value → Outcome) → Type 0 where
  no_arms_agree : {k : ℕ} → ArmsAgree M ws input n u t k [] []
  more_arms_agree : {k : ℕ} {p : Term} {ps : List Term} {f : Value → Outcome} {fs : List (Value → Outcome)} → ((a : Value) → Of a (variant_type n k u) → Agrees M ws p (pair a input) (f a) t) → ArmsAgree M ws input n u t (suc k) ps fs → ArmsAgree M ws input n u t k (p ∷ ps) (f ∷ fs)

module _ {M : Type 0} {ws : Witnesses} {input : Value} {u t : Ty} where
  -- there are as many terms as arms
  arms_length : {n k : ℕ} {ps : List Term} {fs : List (Value → Outcome)} → ArmsAgree M ws input n u t k ps fs → length ps ≡ length fs
  arms_length no_arms_agree = refl
  arms_length (more_arms_agree h hs) = ap suc (arms_length hs)

  -- arm k + i is one of those from k on
  arm_agrees : {n k : ℕ} {ps : List Term} {fs : List (Value → Outcome)} → ArmsAgree M ws input n u t k ps fs → (i : ℕ) → i < length fs → (a : Value) → Of a (variant_type n (k + i) u) → Agrees M ws (get_or ps i terms.unit) (pair a input) (get_or fs i (λ v. stuck) a) t
  arm_agrees no_arms_agree i l a o = absurd (omega arith)
  arm_agrees {k = k} (more_arms_agree h hs) zero l a o = let z : k + 0 ≡ k = omega arith in h a (rw z at o)
  arm_agrees {k = k} (more_arms_agree h hs) (suc i) l a o = let z : k + suc i ≡ suc k + i = omega arith in arm_agrees hs i (omega arith) a (rw z at o)

  -- a match on an enum agrees where its arms do
  pub agree_match_enum : {ps : List Term} {fs : List (Value → Outcome)} (n : ℕ) → length fs ≡ n → 0 < n → has_places n u ≡ true → ArmsAgree M ws input n u t 0 ps fs → (v : Value) → Of v u → Agrees M ws (case_tree ps) (pair v input) (choose (length fs) zero fs v) t
  unfolding has_places
  agree_match_enum {ps} {fs} n z o h g v l =
      let i = one_of n u v o (all_below (λ k. is_there (place_of sums n k u)) n (rw h tt)) l in
      let k : ℕ = i.number in
      let a : Value = i.part in
      let low : k < length fs = omega (arith, i.low) in
      let many : length ps ≡ n = arms_length g ∙ z in
      let zero_plus : 0 + k ≡ k = omega arith in
      let c : Agrees M ws (get_or ps k terms.unit) (pair a input) (get_or fs k (λ w. stuck) a) t = arm_agrees g k low a (rw zero_plus i.typed) in
      let runs : eval ws (case_tree ps) (pair (behind (path n k) a) input) ≡ eval ws (get_or ps k terms.unit) (pair a input) = rw many at (arm_runs ws ps k (omega arith) a input) in
      let chosen : choose n zero fs (behind (path n k) a) ≡ get_or fs k (λ w. stuck) a = rw z at (arm_chosen fs k low a) in
      subst (λ w. Agrees M ws (case_tree ps) (pair w input) (choose (length fs) zero fs w) t) (sym i.is) (rw (z, chosen) (record { same = runs ∙ c.same; fine = c.fine }))

-- of two arms the left's value takes the first, and the right's the second
two_cases : (p q : Term) → case_tree (p ∷ q ∷ []) ≡ case p q
unfolding row by_parts parts_in split_of least_power not_below
two_cases p q = refl

two_chosen : (f g : Value → Outcome) (v : Value) → choose 2 zero (f ∷ g ∷ []) v ≡ by_side v f g
unfolding choose payload path by_parts parts_in split_of least_power not_below
two_chosen f g values.unit = refl
two_chosen f g (left v) = refl
two_chosen f g (right v) = refl
two_chosen f g (pair v w) = refl

-- a match on a sum is a match with two arms
pub agree_match : {M : Type 0} {ws : Witnesses} {input : Value} {u t : Ty} {p q : Term} {f g : Value → Outcome} → has_places 2 u ≡ true → ((a : Value) → Of a (variant_type 2 0 u) → Agrees M ws p (pair a input) (f a) t) → ((a : Value) → Of a (variant_type 2 1 u) → Agrees M ws q (pair a input) (g a) t) → (v : Value) → Of v u → Agrees M ws (case p q) (pair v input) (by_side v f g) t
agree_match {M} {ws} {input} {u} {t} {p} {q} {f} {g} h l r v o =
    let a : Agrees M ws (case_tree (p ∷ q ∷ [])) (pair v input) (choose 2 zero (f ∷ g ∷ []) v) t = agree_match_enum 2 refl (omega arith) h (more_arms_agree l (more_arms_agree r no_arms_agree)) v o in
    rw (two_cases p q, two_chosen f g v) at a
