-- Laws of the hash adds: the rule of the jets 4 to 9, and what is known of each hash width's jet.
-- Assumes nothing.
use Rattle.std.proofs.Common.{Bool, ⊎_elim, ◌≡◌, refl, ap, ◌∙◌, ℕ, ◌+◌, ◌-◌, ◌<◌, ◌≤◌, arith, T, eqb, leb, ltb, eqb→eq, leb→le, ltb→lt}
use Rattle.std.specs.Int.Count.{count_leading_zeros}
use Rattle.laws.specs.Choices.{passes, all_chosen}
use Rattle.laws.specs.Table.{below, all_from}
use Rattle.jet.specs.Jets.{context, jet_of, adders, add_of, word_of, Adds}

-- the rule of the hash adds: a context and the data give a context
pub record AddRule (j : ℕ) : Type 0 where
  pub arguments : (jet_of j).arguments ≡ 2
  pub input : (jet_of j).input ≡ context + word_of j
  pub output : (jet_of j).output ≡ context

same : (f g : ℕ → ℕ) → T (below (λ i. eqb (f (4 + i)) (g (4 + i))) 6) → (j : ℕ) → 4 ≤ j → j < 10 → f j ≡ g j
same f g t j h k = eqb→eq (f j) (g j) (all_from (λ i. eqb (f i) (g i)) 4 6 t j h k)

-- the rule, computed over the table
pub adds_rule : (j : ℕ) → 4 ≤ j → j < 10 → AddRule j
adds_rule j h k = record {
  arguments = same (λ i. (jet_of i).arguments) (λ i. 2) tt j h k;
  input = same (λ i. (jet_of i).input) (λ i. context + word_of i) tt j h k;
  output = same (λ i. (jet_of i).output) (λ i. context) tt j h k;
}

-- what is computed of each hash width and its jet holds of the two
adder : (f : ℕ → ℕ → Bool) → T (passes f adders) → (bits : ℕ) → 0 < add_of bits → T (f bits (add_of bits))
unfolding add_of
adder f t bits h = ⊎_elim (λ (e : add_of bits ≡ 0). absurd (omega arith)) (λ (p : T (f bits (add_of bits))). p) (all_chosen f adders bits 0 t)

-- a hash width has its jet
pub adds_of : (bits r : ℕ) → 0 < add_of bits → r ≡ add_of bits → Adds bits r
adds_of bits r h q =
    let a : ℕ = add_of bits in
    let from : 4 ≤ a = leb→le 4 a (adder (λ b j. leb 4 j) tt bits h) in
    let to : a < 10 = ltb→lt a 10 (adder (λ b j. ltb j 10) tt bits h) in
    let word : word_of a ≡ bits = eqb→eq (word_of a) bits (adder (λ b j. eqb (word_of j) b) tt bits h) in
    rw q (record { is = refl; from = from; to = to; word = word; input = (adds_rule a from to).input ∙ ap (λ (n : ℕ). context + n) word })

zeros : (bits : ℕ) → 0 < add_of bits → 16 - count_leading_zeros 16 bits ≡ add_of bits
unfolding count_leading_zeros
zeros bits h = eqb→eq (16 - count_leading_zeros 16 bits) (add_of bits) (adder (λ b j. eqb (16 - count_leading_zeros 16 b) j) tt bits h)

-- its leading zeros tell the jet's number, computed at each hash width
pub adds_zeros : (bits : ℕ) → 0 < add_of bits → Adds bits (16 - count_leading_zeros 16 bits)
adds_zeros bits h = adds_of bits (16 - count_leading_zeros 16 bits) h (zeros bits h)
