-- `format::power_in` meets its contract: up to 256 the powers of two are the numbers with one one bit, which antt computes.
-- Assumes nothing.
use native.Mathlib.Omega.{arith}
use Prim.Native.Nat.{ℕ, ◌≤◌, ◌<◌}
use mathlib.Core.Bool.{Bool, true, false}
use mathlib.Core.Path.{◌≡◌, refl, ◌∙◌}
use lib.Dec.{T, eqb, leb, leb→le}
use lib.Count.{ones}
use Rattle.std.proofs.lemmas.Bool.Decides.{nat_tests}
use Rattle.laws.specs.Table.{among, all_below, both, both_right}
use Rattle.book.specs.Format.{power_in, powers, within}
use Rattle.book.proofs.format.power_in.Goals as goal

same : Bool → Bool → Bool
same true b = b
same false true = false
same false false = true

same_is : (a b : Bool) → T (same a b) → a ≡ b
unfolding same
same_is true true t = refl
same_is true false t = absurd t
same_is false true t = absurd t
same_is false false t = refl

one_bit : (x : ℕ) → x < 257 → eqb (ones x) 1 ≡ among powers x
unfolding ones same
one_bit x h = same_is (eqb (ones x) 1) (among powers x) (all_below (λ k. same (eqb (ones k) 1) (among powers k)) 257 tt x h)

ends : (lo hi x : ℕ) → both (leb lo x) (leb x hi) ≡ true → x ≤ hi
ends lo hi x e = leb→le x hi (both_right (leb lo x) (leb x hi) (rw e tt))

pub returns-then-contains : goal.returns-then-contains
unfolding power_in within
returns-then-contains c =
    let e : both (leb c.args.lo c.args.x) (leb c.args.x c.args.hi) ≡ true = grind (arith, nat_tests) in
    rw e (c.is_power_of_two.ensures ∙ one_bit c.args.x (omega (arith, ends c.args.lo c.args.hi c.args.x e)))

pub returns-else-contains : goal.returns-else-contains
unfolding power_in within
returns-else-contains c =
    let e : both (leb c.args.lo c.args.x) (leb c.args.x c.args.hi) ≡ false = grind (arith, nat_tests) in
    rw e c.if-contains.false
