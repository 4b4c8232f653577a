-- The machine's count of leading zeros against the plain definitions, for every u32.
-- Assumes nothing.
use Rattle.std.proofs.Common.{◌≡◌, ◌∙◌, ℕ, suc, ◌+◌, ◌-◌, ◌*◌, ◌%◌, ◌^◌, ◌<◌, ◌≤◌, arith, shl_exact}
use Rattle.std.specs.Int.Count.{count_leading_zeros}
use Rattle.std.proofs.lemmas.Nat.{leading_top}
use Rattle.array.specs.Split.{split_of, top_of, Split}
use Rattle.array.proofs.Splits.{split_is, split_of_lem, top_is}

-- the leading zeros and the top one bit's place make 31
pub top_zeros : (n : ℕ) → 0 < n → n < 2 ^ 32 → count_leading_zeros 32 n + suc (top_of n) ≡ 32
top_zeros n p h = let t = leading_top 32 n p h in rw (top_is t.0 n t.2 t.3) t.1

-- a one, moved to the top place of n - 1
abbrev pub half : ℕ → ℕ
half n = (1 * 2 ^ (31 - count_leading_zeros 32 (n - 1))) % 4294967296

half_rest : (n : ℕ) → 2 ≤ n → n < 2 ^ 32 → (half n ≤ n) × (n - half n ≡ split_of n)
half_rest n h k =
    let t = leading_top 32 (n - 1) (omega arith) (omega arith) in
    let e : 31 - count_leading_zeros 32 (n - 1) ≡ t.0 = omega (arith, t.1) in
    let m : half n ≡ 2 ^ t.0 = rw e (shl_exact {a = 1} 1 t.0 32 (omega arith) (omega (arith, t.1)) ∙ omega arith) in
    (omega (arith, t.2), rw m (omega (arith, split_is t.0 n (omega (arith, t.2)) (omega (arith, t.3)))))

-- it is in n
pub half_within : (n : ℕ) → 2 ≤ n → n ≤ 256 → half n ≤ n
half_within n h k = omega (arith, half_rest n h)

-- and leaves the left part of n
pub half_leaves : (n : ℕ) → 2 ≤ n → n ≤ 256 → Split n (n - half n)
half_leaves n h k = split_of_lem n (n - half n) h k (omega (arith, half_rest n h))
