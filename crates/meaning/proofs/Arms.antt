-- The arm that runs is the one whose variant the scrutinee's value is, in the source as in the tree of cases.
-- Assumes nothing.
use Prim.Native.Nat.{ℕ, zero, suc, ◌+◌, ◌<◌}
use mathlib.Core.List.{List, [], ◌∷◌, ◌++◌, append-nil}
use mathlib.Core.Option.{Option, some, none, none-ne-some}
use mathlib.Core.Path.{◌≡◌, refl, sym, ap}
use native.Mathlib.Omega.{arith}
use lib.ListN.{length, get_or}
use Rattle.array.specs.Path.{Side, on_left, on_right, path}
use Rattle.array.proofs.Paths.{path_leads, path_own}
use Rattle.simplicity.specs.Values.{Value, left, right, pair}
use Rattle.simplicity.specs.Values as values
use Rattle.simplicity.specs.Outcomes.{Outcome, stuck}
use Rattle.simplicity.specs.Terms.{Term, unit, case}
use Rattle.simplicity.specs.Meaning.{Witnesses, eval}
use Rattle.meaning.specs.Source.{behind, payload, choose}
use Rattle.meaning.proofs.Terms.{case_tree}

-- the same value behind two paths: one path goes on where the other ends
same_way : (ks ls : List Side) (a c : Value) → behind ks a ≡ behind ls c → (p : List Side) × (q : List Side) × (ks ++ p ≡ ls ++ q)
unfolding behind
same_way [] ls a c e = (ls, [], sym (append-nil ls))
same_way (k ∷ ks) [] a c e = ([], k ∷ ks, append-nil (k ∷ ks))
same_way (on_left ∷ ks) (on_left ∷ ls) a c e = let w = same_way ks ls a c (cc e) in (w.0, w.1, ap (◌∷◌ on_left) w.2)
same_way (on_left ∷ ks) (on_right ∷ ls) a c e = let z : ◌≡◌ {A = ℕ} 0 1 = cc e in absurd (omega arith)
same_way (on_right ∷ ks) (on_left ∷ ls) a c e = let z : ◌≡◌ {A = ℕ} 0 1 = cc e in absurd (omega arith)
same_way (on_right ∷ ks) (on_right ∷ ls) a c e = let w = same_way ks ls a c (cc e) in (w.0, w.1, ap (◌∷◌ on_right) w.2)

-- a value is of one variant only
pub one_variant : (n j k : ℕ) → j < n → k < n → (a c : Value) → behind (path n j) a ≡ behind (path n k) c → j ≡ k
one_variant n j k l m a c e = let w = same_way (path n j) (path n k) a c e in path_own n j k l m w.0 w.1 w.2

-- the payload of a value is what stands behind the path
payload_behind : (ks : List Side) (a : Value) → payload ks (behind ks a) ≡ some a
unfolding behind payload
payload_behind [] a = refl
payload_behind (on_left ∷ ks) a = payload_behind ks a
payload_behind (on_right ∷ ks) a = payload_behind ks a

-- a value that has a payload is that payload behind the path
behind_payload : (ks : List Side) (v : Value) {a : Value} → payload ks v ≡ some a → v ≡ behind ks a
unfolding behind payload
behind_payload [] v e = cc e
behind_payload (on_left ∷ ks) values.unit e = absurd (none-ne-some _ e)
behind_payload (on_left ∷ ks) (left v) e = ap left (behind_payload ks v e)
behind_payload (on_left ∷ ks) (right v) e = absurd (none-ne-some _ e)
behind_payload (on_left ∷ ks) (pair v w) e = absurd (none-ne-some _ e)
behind_payload (on_right ∷ ks) values.unit e = absurd (none-ne-some _ e)
behind_payload (on_right ∷ ks) (left v) e = absurd (none-ne-some _ e)
behind_payload (on_right ∷ ks) (right v) e = ap right (behind_payload ks v e)
behind_payload (on_right ∷ ks) (pair v w) e = absurd (none-ne-some _ e)

-- a value of one variant has no payload of another
no_payload : (n j k : ℕ) → j < n → k < n → (j ≡ k → ⊥) → (a : Value) → payload (path n j) (behind (path n k) a) ≡ none
no_payload n j k l m other a = go (payload (path n j) (behind (path n k) a)) refl
  where
    go : (o : Option Value) → payload (path n j) (behind (path n k) a) ≡ o → o ≡ none
    go none e = refl
    go (some c) e = absurd (other (one_variant n j k l m c a (sym (behind_payload (path n j) (behind (path n k) a) e))))

-- of the arms from j of n on, arm j + i is chosen
chosen_from : (fs : List (Value → Outcome)) (n j i : ℕ) → j + length fs ≡ n → i < length fs → (a : Value) → choose n j fs (behind (path n (j + i)) a) ≡ get_or fs i (λ v. stuck) a
unfolding choose
chosen_from [] n j i z l a = absurd (omega arith)
chosen_from (f ∷ fs) n j zero z l a = let here : j + 0 ≡ j = omega arith in rw (here, payload_behind (path n j) a, choose)
chosen_from (f ∷ fs) n j (suc i) z l a =
    let there : j + suc i ≡ suc j + i = omega arith in
    rw (no_payload n j (j + suc i) (omega arith) (omega arith) (λ e. omega arith) a, choose, there) (chosen_from fs n (suc j) i (omega arith) (omega arith) a)

-- the source works out the arm whose variant the value is
pub arm_chosen : (fs : List (Value → Outcome)) (k : ℕ) → k < length fs → (a : Value) → choose (length fs) zero fs (behind (path (length fs) k) a) ≡ get_or fs k (λ v. stuck) a
arm_chosen fs k l a = let z : 0 + k ≡ k = omega arith in rw z at (chosen_from fs (length fs) 0 k (omega arith) l a)

-- the tree of cases runs the arm whose variant the value is
pub arm_runs : (ws : Witnesses) (ps : List Term) (k : ℕ) → k < length ps → (a input : Value) → eval ws (case_tree ps) (pair (behind (path (length ps) k) a) input) ≡ eval ws (get_or ps k unit) (pair a input)
unfolding eval behind
arm_runs ws ps k l a input =
    path_leads unit case (λ t ks x. (c : Value) → eval ws t (pair (behind ks c) input) ≡ eval ws x (pair c input)) (λ x c. refl) (λ s t x ks h c. h c) (λ s t x ks h c. h c) ps k l a
