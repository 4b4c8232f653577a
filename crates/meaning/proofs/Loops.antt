-- A loop counts up as the source says: the high half of the count by the outer loop, the low half by the inner one.
-- Assumes nothing.
use Prim.Native.Nat.{ℕ, zero, suc, ◌+◌, ◌*◌, ◌/◌, ◌%◌, ◌^◌, ◌<◌}
use mathlib.Core.Bool.{true}
use mathlib.Core.Path.{◌≡◌, refl, sym, ap, subst, ◌∙◌}
use native.Mathlib.Nat.{two-pow-succ, one-le-pow, add-zero, zero-mul, mul-add-div_right, div-eq_of_lt, mul-add-mod_self_right, mod-eq_of_lt}
use native.Mathlib.Omega.{arith}
use lib.Pow.{pow-add}
use Rattle.simplicity.specs.Types.{Ty, sum, power, word_of}
use Rattle.simplicity.specs.Values.{Value, unit, left, right, pair, Of, of_unit, of_left, of_right, of_pair, word}
use Rattle.simplicity.specs.Outcomes.{Outcome, value, failed, stuck, missing, and_then}
use Rattle.simplicity.specs.Terms.{Term, injl, take, iden, case}
use Rattle.simplicity.specs.Meaning.{Witnesses, eval}
use Rattle.meaning.specs.Source.{by_side, counted}
use Rattle.meaning.proofs.Terms.{turn, loop_bit, adapt, loop}
use Rattle.meaning.proofs.Agreeing.{Fine, Agrees}
use Rattle.meaning.proofs.Calls.{then_then, Meant, meant_then, meant, agree_by}

-- what follows a turn: left stops the loop, right carries on
abbrev next : Outcome → (Value → Outcome) → Outcome
next o g = and_then o (λ s. by_side s (λ v. value (left v)) g)

next_next : (o : Outcome) (f g : Value → Outcome) → next (next o f) g ≡ next o (λ v. next (f v) g)
next_next (value unit) f g = refl
next_next (value (left v)) f g = refl
next_next (value (right v)) f g = refl
next_next (value (pair v w)) f g = refl
next_next failed f g = refl
next_next stuck f g = refl
next_next missing f g = refl

-- turns that are the same at each count that is met
counted_same : (f g : Value → ℕ → Outcome) (c n : ℕ) (a : Value) → ((b : Value) (i : ℕ) → i < c + n → f b i ≡ g b i) → counted f c n a ≡ counted g c n a
unfolding counted
counted_same f g c zero a e = refl
counted_same f g c (suc n) a e = λ i. next (e a c (omega arith) i) (λ b. counted_same f g (suc c) n b (λ d j h. e d j (omega arith)) i)

module _ (f : Value → ℕ → Outcome) where
  -- so many turns, and then more
  counted_more : (m n c : ℕ) (a : Value) → counted f c (m + n) a ≡ next (counted f c m a) (λ b. counted f (c + m) n b)
  unfolding counted
  counted_more zero n c a =
      let p : zero + n ≡ n = omega arith in
      rw (p, add-zero c)
  counted_more (suc m) n c a =
      let p : suc m + n ≡ suc (m + n) = omega arith in
      let q : c + suc m ≡ suc c + m = omega arith in
      rw (p, q) ((λ i. next (f a c) (λ b. counted_more m n (suc c) b i)) ∙ sym (next_next (f a c) (λ b. counted f (suc c) m b) (λ b. counted f (suc c + m) n b)))

  -- counts from s upward
  counted_from : (s n c : ℕ) (a : Value) → counted (λ b i. f b (s + i)) c n a ≡ counted f (s + c) n a
  unfolding counted
  counted_from s zero c a = refl
  counted_from s (suc n) c a =
      let q : s + suc c ≡ suc (s + c) = omega arith in
      λ i. next (f a (s + c)) (λ b. (counted_from s n (suc c) b ∙ ap (λ (t : ℕ). counted f t n b) q) i)

  -- n loops of w counts are one loop of n * w
  counted_loops : (w n c : ℕ) (a : Value) → counted (λ b i. counted (λ d j. f d (i * w + j)) zero w b) c n a ≡ counted f (c * w) (n * w) a
  unfolding counted
  counted_loops w zero c a = rw (zero-mul w)
  counted_loops w (suc n) c a =
      let p : suc n * w ≡ w + n * w = omega arith in
      let q : suc c * w ≡ c * w + w = omega arith in
      rw p
      ((λ i. next ((counted_from (c * w) w zero a ∙ ap (λ (t : ℕ). counted f t w a) (add-zero (c * w))) i) (λ b. (counted_loops w n (suc c) b ∙ ap (λ (t : ℕ). counted f t (n * w) b) q) i))
      ∙ sym (counted_more w (n * w) (c * w) a))

-- a word of two words is their numbers, the high one times the low one's range
word_both : (k i j : ℕ) → j < 2 ^ 2 ^ k → word (suc k) (i * 2 ^ 2 ^ k + j) ≡ pair (word k i) (word k j)
unfolding word
word_both k i j h =
    let p : (i * 2 ^ 2 ^ k + j) / 2 ^ 2 ^ k ≡ i = mul-add-div_right (one-le-pow (2 ^ k) 2 (omega arith)) i j ∙ ap (λ (n : ℕ). i + n) (div-eq_of_lt h) ∙ add-zero i in
    let q : (i * 2 ^ 2 ^ k + j) % 2 ^ 2 ^ k ≡ j = mul-add-mod_self_right i (2 ^ 2 ^ k) j ∙ mod-eq_of_lt h in
    rw (p, q)

-- a loop over high words of loops over low words is one loop over words
words_both : (k : ℕ) (f : Value → Value → Outcome) (c : Value) → counted (λ b i. counted (λ d j. f d (pair (word k i) (word k j))) zero (2 ^ 2 ^ k) b) zero (2 ^ 2 ^ k) c ≡ counted (λ z i. f z (word (suc k) i)) zero (2 ^ 2 ^ suc k) c
words_both k f c =
    let e : 2 ^ 2 ^ suc k ≡ 2 ^ 2 ^ k * 2 ^ 2 ^ k = ap (λ (n : ℕ). 2 ^ n) (two-pow-succ k) ∙ pow-add 2 (2 ^ k) (2 ^ k) in
    rw e
    ((λ t. counted (λ b i. counted_same (λ d j. f d (pair (word k i) (word k j))) (λ d j. f d (word (suc k) (i * 2 ^ 2 ^ k + j))) zero (2 ^ 2 ^ k) b (λ d j h. ap (f d) (sym (word_both k i j (omega arith)))) t) zero (2 ^ 2 ^ k) c)
    ∙ counted_loops (λ z i. f z (word (suc k) i)) (2 ^ 2 ^ k) (2 ^ 2 ^ k) zero c
    ∙ ap (λ (n : ℕ). counted (λ z i. f z (word (suc k) i)) n (2 ^ 2 ^ k * 2 ^ 2 ^ k) c) (zero-mul (2 ^ 2 ^ k)))

-- after the last count what is left or right stays as it is
last_stays : (M : Type 0) (o : Outcome) (r a : Ty) → Fine M o (sum r a) → next o (λ b. value (right b)) ≡ o
last_stays M (value v) r a (of_left h) = refl
last_stays M (value v) r a (of_right h) = refl
last_stays M failed r a h = refl
last_stays M stuck r a h = refl
last_stays M missing r a h = refl

module _ {M : Type 0} {ws : Witnesses} where
  -- a loop over one bit
  loop_bit_lem : {t : Term} {f : Value → Value → Outcome} {a r : Ty} (y : Value) → ((c n : Value) → Of c a → Of n (word_of zero) → Agrees M ws t (pair c (pair y n)) (f c n) (sum r a)) → (c : Value) → Of c a → Agrees M ws (loop_bit t) (pair c y) (next (f c (left unit)) (λ b. next (f b (right unit)) (λ d. value (right d)))) (sum r a)
  unfolding eval loop_bit turn power
  loop_bit_lem {t} {f} {a} {r} y h c l =
      agree_by (then_then (eval ws t (pair c (pair y (left unit)))) (λ s. value (pair s y)) (eval ws (case (injl (take iden)) (turn true t))))
      (meant_then (meant (h c (left unit) l (of_left of_unit))) (λ s. second))
    where
      second : {s : Value} → Of s (sum r a) → Meant M (eval ws (case (injl (take iden)) (turn true t)) (pair s y)) (by_side s (λ v. value (left v)) (λ b. next (f b (right unit)) (λ d. value (right d)))) (sum r a)
      second (of_left i) = record { same = refl; fine = of_left i }
      second (of_right {v = b} i) =
          let m = h b (right unit) i (of_right of_unit) in
          rw (last_stays M (f b (right unit)) r a m.fine) (meant m)

  -- the inner loop's context holds the high word, which joins the low one
  adapted : {t : Term} {c y n m : Value} {o : Outcome} {a : Ty} → Agrees M ws t (pair c (pair y (pair n m))) o a → Agrees M ws (adapt t) (pair c (pair (pair y n) m)) o a
  unfolding eval adapt
  adapted h = agree_by refl (meant h)

  -- a loop whose body agrees at each count agrees
  pub agree_loop : (k : ℕ) {t : Term} {f : Value → Value → Outcome} {a r : Ty} (y : Value) → ((c n : Value) → Of c a → Of n (word_of k) → Agrees M ws t (pair c (pair y n)) (f c n) (sum r a)) → (c : Value) → Of c a → Agrees M ws (loop k t) (pair c y) (counted (λ z i. f z (word k i)) zero (2 ^ 2 ^ k) c) (sum r a)
  unfolding loop counted word power
  agree_loop zero y h c l = loop_bit_lem y h c l
  agree_loop (suc k) {t} {f} {a} {r} y h c l = subst (λ (o : Outcome). Agrees M ws (loop k (loop k (adapt t))) (pair c y) o (sum r a)) (words_both k f c)
      (agree_loop k y (λ d n i j. agree_loop k (pair y n) (λ e m u v. adapted (h e (pair n m) u (of_pair j v))) d i) c l)
