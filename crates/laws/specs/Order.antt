-- Cases of an order, and a number against its power of two.
-- Assumes nothing.
use Rattle.std.specs.Prelude.{Bool, true, false, ◌≡◌, refl, ℕ, zero, suc, ◌<◌, ◌≤◌, ◌^◌, ltb}
use Rattle.std.proofs.Math.Nat.{two-pow-succ}
use Rattle.std.proofs.Common.{arith, ltb-true, ltb-false, pow_mono}

-- one of two numbers is below the other, or it is not
pub by_lt : {P : Type 0} (a b : ℕ) → (a < b → P) → (b ≤ a → P) → P
by_lt {P} a b f g = go (ltb a b) refl
  where
    go : (t : Bool) → ltb a b ≡ t → P
    go true e = f (ltb-true a b e)
    go false e = g (ltb-false a b e)

pub below_pow : (n : ℕ) → n < 2 ^ n
below_pow zero = omega arith
below_pow (suc n) = omega (arith, two-pow-succ n, below_pow n)

-- of two powers of two the lower one has the lower exponent
pub pow_less : (p q : ℕ) → 2 ^ p < 2 ^ q → p < q
pow_less p q h = by_lt p q (λ o. o) (λ o. absurd (omega (arith, pow_mono {i = q} {j = p} o)))
