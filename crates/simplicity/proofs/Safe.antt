-- A typed term on a value of its type is never stuck; words read back as their numbers; equal types pass the test that they are.
-- Assumes nothing.
use Prim.Native.Nat.{ℕ, zero, suc, ◌+◌, ◌*◌, ◌/◌, ◌%◌, ◌^◌, ◌<◌}
use mathlib.Core.Bool.{Bool, true, false}
use mathlib.Core.Path.{◌≡◌, refl, sym, ap, subst, ◌∙◌}
use native.Mathlib.Nat.{two-pow-succ, mod-lt, one-le-pow}
use native.Mathlib.Omega.{arith}
use lib.Pow.{shr_lt, split}
use lib.Dec.{eqb, ltb}
use Rattle.laws.specs.Table.{pick, both, true_false}
use Rattle.simplicity.specs.Types.{Ty, one, sum, product, two, power, word_of, same}
use Rattle.simplicity.specs.Values.{Value, unit, pair, Of, of_unit, of_left, of_right, of_pair, bit, word, shape}
use Rattle.simplicity.specs.Outcomes.{Outcome, value, failed, stuck, missing, and_then}
use Rattle.simplicity.specs.Terms.{Term}
use Rattle.simplicity.specs.Jets.{on_word, on_words, verify, eq8, add8, jet_on, jet_types}
use Rattle.simplicity.specs.Meaning.{Witnesses, eval}
use Rattle.simplicity.specs.Typing.{Types, t_iden, t_unit, t_injl, t_injr, t_take, t_drop, t_comp, t_case, t_pair, t_assertl, t_assertr, t_fail, t_witness, t_scribe, t_jet, Has, Good, Supplied}

-- both tests hold: each does
both_true : (a b : Bool) → both a b ≡ true → (a ≡ true) × (b ≡ true)
both_true true b e = (refl, e)
both_true false b e = absurd (true_false (sym e))

-- types that pass the test are the same
pub same_is : (a b : Ty) → same a b ≡ true → a ≡ b
unfolding same
same_is one one e = refl
same_is one (sum c d) e = absurd (true_false (sym e))
same_is one (product c d) e = absurd (true_false (sym e))
same_is (sum a b) one e = absurd (true_false (sym e))
same_is (sum a b) (sum c d) e =
    let h = both_true (same a c) (same b d) e in
    rw (same_is a c h.0, same_is b d h.1)
same_is (sum a b) (product c d) e = absurd (true_false (sym e))
same_is (product a b) one e = absurd (true_false (sym e))
same_is (product a b) (sum c d) e = absurd (true_false (sym e))
same_is (product a b) (product c d) e =
    let h = both_true (same a c) (same b d) e in
    rw (same_is a c h.0, same_is b d h.1)

same_self : (a : Ty) → same a a ≡ true
unfolding same
same_self one = refl
same_self (sum a b) = rw (same_self a, same_self b)
same_self (product a b) = rw (same_self a, same_self b)

-- and the same types pass it
pub is_same : (a b : Ty) → a ≡ b → same a b ≡ true
is_same a b e = rw e (same_self b)

bit_of_lem : (b : Bool) → Of (bit b) two
bit_of_lem true = of_right of_unit
bit_of_lem false = of_left of_unit

-- a word is of the words' type
pub word_of_lem : (k n : ℕ) → Of (word k n) (word_of k)
unfolding word power
word_of_lem zero n = bit_of_lem (eqb (n % 2) 1)
word_of_lem (suc k) n = of_pair (word_of_lem k _) (word_of_lem k _)

-- a value of the words' type is some number as a word
pub word_is : (k : ℕ) {v : Value} → Of v (word_of k) → (n : ℕ) × ((f : ℕ → Outcome) → on_word shape k v f ≡ f n)
unfolding on_word power
word_is zero (of_left of_unit) = (0, λ f. refl)
word_is zero (of_right of_unit) = (1, λ f. refl)
word_is (suc k) (of_pair h l) =
    let m = word_is k h in
    let n = word_is k l in
    (m.0 * 2 ^ (2 ^ k) + n.0, λ f. m.1 _ ∙ n.1 _)

-- a number that fits, as a word and then read, is that number
pub word_reads : (k n : ℕ) → n < 2 ^ (2 ^ k) → (f : ℕ → Outcome) → on_word shape k (word k n) f ≡ f n
unfolding on_word word
word_reads zero zero h f = refl
word_reads zero (suc zero) h f = refl
word_reads zero (suc (suc n)) h f = absurd (omega arith)
word_reads (suc k) n h f =
    let wide : n < 2 ^ (2 ^ k + 2 ^ k) = rw two-pow-succ at h in
    word_reads k (n / 2 ^ (2 ^ k)) (shr_lt (2 ^ k) (2 ^ k) wide) _
    ∙ word_reads k (n % 2 ^ (2 ^ k)) (mod-lt n (one-le-pow (2 ^ k) 2 (omega arith))) _
    ∙ ap f (split n (2 ^ k))

good_then : (o : Outcome) (f : Value → Outcome) (b c : Ty) → Good o b → ((v : Value) → Of v b → Good (f v) c) → Good (and_then o f) c
good_then (value v) f b c h k = k v h
good_then failed f b c h k = tt
good_then stuck f b c h k = absurd h
good_then missing f b c h k = absurd h

has_good : (o : Outcome) (a : Ty) → Has o a → Good o a
has_good (value v) a h = h
has_good failed a h = absurd h
has_good stuck a h = absurd h
has_good missing a h = absurd h

on_words_lem : (k : ℕ) (f : ℕ → ℕ → Outcome) (c : Ty) → ((m n : ℕ) → Good (f m n) c) → (v : Value) → Of v (product (word_of k) (word_of k)) → Good (on_words shape k v f) c
unfolding on_words
on_words_lem k f c g v (of_pair h l) = rw ((word_is k h).1, (word_is k l).1) (g _ _)

verified : (b : Bool) → Good (pick b (value unit) failed) one
verified true = of_unit
verified false = tt

-- a known jet on a value of its input type
jet_safe : (j : ℕ) → j < 3 → (v : Value) → Of v (jet_types j).from → Good (jet_on shape j v) (jet_types j).to
unfolding jet_on jet_types on_word verify eq8 add8
jet_safe zero l v (of_left of_unit) = tt
jet_safe zero l v (of_right of_unit) = of_unit
jet_safe (suc zero) l v h = on_words_lem 3 eq8 two (λ m n. bit_of_lem (eqb m n)) v h
jet_safe (suc (suc zero)) l v h = on_words_lem 3 add8 (product two (word_of 3)) (λ m n. of_pair (bit_of_lem (ltb 255 (m + n))) (word_of_lem 3 _)) v h
jet_safe (suc (suc (suc j))) l v h = absurd (omega arith)

-- NEVER STUCK: a typed term, whose witnesses are given and whose jets are known, on a value of its type gives a value of its type, or fails
pub safe : (ws : Witnesses) {t : Term} {a b : Ty} → Types t a b → Supplied ws t → (v : Value) → Of v a → Good (eval ws t v) b
unfolding eval
safe ws t_iden s v h = h
safe ws t_unit s v h = of_unit
safe ws (t_injl {t = t} {b = b} {c = c} p) s v h = good_then (eval ws t v) _ b (sum b c) (safe ws p s v h) (λ w k. of_left k)
safe ws (t_injr {t = t} {b = b} {c = c} p) s v h = good_then (eval ws t v) _ c (sum b c) (safe ws p s v h) (λ w k. of_right k)
safe ws (t_take p) s u (of_pair {v = v} h k) = safe ws p s v h
safe ws (t_drop p) s u (of_pair {w = w} h k) = safe ws p s w k
safe ws (t_comp {s = x} {t = t} {b = b} {c = c} p q) s v h = good_then (eval ws x v) (eval ws t) b c (safe ws p s.0 v h) (λ w k. safe ws q s.1 w k)
safe ws (t_case p q) s u (of_pair {w = w} (of_left {v = v} h) k) = safe ws p s.0 (pair v w) (of_pair h k)
safe ws (t_case p q) s u (of_pair {w = w} (of_right {v = v} h) k) = safe ws q s.1 (pair v w) (of_pair h k)
safe ws (t_pair {s = x} {t = t} {b = b} {c = c} p q) s v h =
    good_then (eval ws x v) _ b (product b c) (safe ws p s.0 v h)
    (λ y i. good_then (eval ws t v) _ c (product b c) (safe ws q s.1 v h) (λ z j. of_pair i j))
safe ws (t_assertl p) s u (of_pair {w = w} (of_left {v = v} h) k) = safe ws p s (pair v w) (of_pair h k)
safe ws (t_assertl p) s u (of_pair (of_right h) k) = tt
safe ws (t_assertr p) s u (of_pair (of_left h) k) = tt
safe ws (t_assertr p) s u (of_pair {w = w} (of_right {v = v} h) k) = safe ws p s (pair v w) (of_pair h k)
safe ws t_fail s v h = tt
safe ws (t_witness {x = x} {b = b}) s v h = has_good (ws x b) b s
safe ws (t_scribe o) s v h = o
safe ws (t_jet {j = j} l p q) s v h = subst (Good (jet_on shape j v)) q (jet_safe j s v (subst (Of v) (sym p) h))
