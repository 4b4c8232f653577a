-- The jets: what they make of a value, and their types.
-- Assumes nothing.
use Rattle.std.specs.Prelude.{ℕ, zero, suc, ◌+◌, ◌*◌, ◌%◌, ◌^◌, [], ◌∷◌, eqb, ltb}
use Rattle.laws.specs.Table.{pick, at, choose}
use Rattle.simplicity.specs.Types.{Ty, one, product, two, power, word_of, fewer}
use Rattle.simplicity.specs.Values.{unit, pair, bit, word, Shape, if_unit, if_sum, if_pair}
use Rattle.simplicity.specs.Outcomes.{Outcome, value, failed, stuck, missing}

-- what is made of the number that x is as a word of 2 ^ k bits, its shapes as `look` says; stuck where it is no such word
unfoldable pub on_word : {A : Type 0} → (A → Shape A) → ℕ → A → (ℕ → Outcome) → Outcome
on_word look zero x f = if_sum (look x) (λ u. if_unit (look u) (f 0) stuck) (λ u. if_unit (look u) (f 1) stuck) stuck
on_word look (suc k) x f = if_pair (look x) (λ h l. on_word look k h (λ m. on_word look k l (λ n. f (m * 2 ^ (2 ^ k) + n)))) stuck

-- the same of a pair of words
unfoldable pub on_words : {A : Type 0} → (A → Shape A) → ℕ → A → (ℕ → ℕ → Outcome) → Outcome
on_words look k x f = if_pair (look x) (λ a b. on_word look k a (λ m. on_word look k b (f m))) stuck

-- document 01, CHECK and the meanings: verify fails on false
unfoldable pub verify : ℕ → Outcome
verify n = pick (eqb n 1) (value unit) failed

-- document 01, CHECK and the meanings: eq_8 is true on equal words
unfoldable pub eq8 : ℕ → ℕ → Outcome
eq8 a b = value (bit (eqb a b))

-- document 01, CHECK and the meanings: add_8 of (a, b) is (carry, a + b modulo 256)
unfoldable pub add8 : ℕ → ℕ → Outcome
add8 a b = value (pair (bit (ltb 255 (a + b))) (word 3 ((a + b) % 256)))

-- document 01, Refusals by number: a run knows jets 0 to 2. What jet j makes of x, whose shapes `look` says
unfoldable pub jet_on : {A : Type 0} → (A → Shape A) → ℕ → A → Outcome
jet_on look j x = choose (at 0 (on_word look 0 x verify) ∷ at 1 (on_words look 3 x eq8) ∷ at 2 (on_words look 3 x add8) ∷ []) j missing

-- a hash context: fewer than 64 bytes that wait, a count of 64 bits, a midstate of 256 bits
abbrev pub context : Ty
context = product (fewer (word_of 3) 5) (product (word_of 6) (word_of 8))

-- a jet's input type and output type
pub record Goes : Type 0 where
  pub from : Ty
  pub to : Ty

abbrev pub goes : Ty → Ty → Goes
goes a b = record { from = a; to = b }

-- 2 ^ k bytes added to a hash
abbrev pub adds : ℕ → Goes
adds k = goes (product context (power (word_of 3) k)) context

-- document 01, Stored order: verify, eq_8, add_8, hash init, adds of 1, 2, 4, 8, 16 and 32 bytes, finalize
unfoldable pub jet_types : ℕ → Goes
jet_types j =
    choose
    (at 0 (goes two one)
    ∷ at 1 (goes (product (word_of 3) (word_of 3)) two)
    ∷ at 2 (goes (product (word_of 3) (word_of 3)) (product two (word_of 3)))
    ∷ at 3 (goes one context)
    ∷ at 4 (adds 0)
    ∷ at 5 (adds 1)
    ∷ at 6 (adds 2)
    ∷ at 7 (adds 3)
    ∷ at 8 (adds 4)
    ∷ at 9 (adds 5)
    ∷ at 10 (goes context (word_of 8))
    ∷ [])
    j
    (goes one one)
