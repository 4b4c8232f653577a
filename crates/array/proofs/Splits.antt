-- Laws of the split and of the top one bit: what they are between two powers of two, and how large the parts are.
-- Assumes nothing.
use mathlib.Core.Path.{◌≡◌, ap}
use Prim.Native.Nat.{ℕ, zero, suc, ◌+◌, ◌-◌, ◌*◌, ◌/◌, ◌^◌, ◌<◌, ◌≤◌}
use native.Mathlib.Nat.{two-pow-succ}
use native.Mathlib.Omega.{arith}
use borrow.Author.Tests.{le-leb, lt-leb}
use lib.Pow.{pow_pos, pow_mono}
use Rattle.laws.specs.Order.{by_lt, below_pow, pow_less}
use Rattle.array.specs.Split.{not_below, least_power, split_of, halvings, top_of, Split}

least : (f j q n : ℕ) → 2 ^ q < n → n ≤ 2 ^ suc q → j ≤ suc q → suc q ≤ j + f → not_below f (2 ^ j) n ≡ 2 ^ suc q
unfolding not_below
least zero j q n o h a b = let e : j ≡ suc q = omega arith in ap (λ (i : ℕ). 2 ^ i) e
least (suc f) j q n o h a b = by_lt (2 ^ j) n
    (λ u.
    let l : j < suc q = pow_less j (suc q) (omega arith) in
    let d : 2 * 2 ^ j ≡ 2 ^ suc j = omega (arith, two-pow-succ j) in
    rw (lt-leb n (2 ^ j) u, not_below, d) (least f (suc j) q n o h l (omega arith)))
    (λ u.
    let e : j ≡ suc q = omega (arith, pow_less q j (omega arith)) in
    rw (le-leb n (2 ^ j) u, not_below) (ap (λ (i : ℕ). 2 ^ i) e))

-- of a number over 2 ^ q and up to twice that, the right part is 2 ^ q
pub split_is : (q n : ℕ) → 2 ^ q < n → n ≤ 2 ^ suc q → split_of n ≡ n - 2 ^ q
unfolding split_of least_power
split_is q n o h =
    let e : not_below n 1 n ≡ 2 ^ suc q = least n 0 q n o h (omega arith) (omega (arith, below_pow q)) in
    omega (arith, two-pow-succ q)

top_at : (f j n : ℕ) → j ≤ f → 2 ^ j ≤ n → n < 2 ^ suc j → halvings f n ≡ j
unfolding halvings
top_at zero j n l a b = omega arith
top_at (suc f) zero n l a b = rw (le-leb n 1 (omega arith), halvings)
top_at (suc f) (suc j) n l a b =
    let p : 2 ^ suc j ≡ 2 ^ j + 2 ^ j = two-pow-succ j in
    let q : 2 ^ suc (suc j) ≡ 2 ^ suc j + 2 ^ suc j = two-pow-succ (suc j) in
    rw (lt-leb n 1 (omega (arith, pow_pos j)), halvings) (ap suc (top_at f j (n / 2) (omega arith) (omega arith) (omega arith)))

-- the top one bit's place j: n has 2 ^ j in it, and no higher power
pub top_is : (j n : ℕ) → 2 ^ j ≤ n → n < 2 ^ suc j → top_of n ≡ j
unfolding top_of
top_is j n a b = top_at n j n (omega (arith, below_pow j)) a b

-- the place q with 2 ^ q below n, and n at most twice that
pub record Place (n : ℕ) : Type 0 where
  pub place : ℕ
  pub over : 2 ^ place < n
  pub fits : n ≤ 2 ^ suc place

place_in : (p n : ℕ) → 2 ≤ n → n ≤ 2 ^ p → Place n
place_in zero n h k = absurd (omega arith)
place_in (suc p) n h k = by_lt (2 ^ p) n (λ o. record { place = p; over = o; fits = k }) (λ o. place_in p n h o)

pub place_of : (n : ℕ) → 2 ≤ n → Place n
place_of n h = place_in n n h (omega (arith, below_pow n))

-- the top power of n is in it, and twice that is not
pub record Top (n : ℕ) : Type 0 where
  pub most : 2 ^ top_of n ≤ n
  pub less : n < 2 ^ top_of n + 2 ^ top_of n

pub top_of_lem : (n : ℕ) → 0 < n → Top n
top_of_lem n h =
    let p = place_of (suc n) (omega arith) in
    let e : top_of n ≡ p.place = top_is p.place n (omega (arith, p.over)) (omega (arith, p.fits)) in
    record { most = rw e (omega (arith, p.over)); less = rw e (omega (arith, p.fits, two-pow-succ p.place)) }

-- a larger number's top one bit is no lower
pub top_mono : (m n : ℕ) → m ≤ n → top_of m ≤ top_of n
unfolding top_of halvings
top_mono zero n l = omega arith
top_mono (suc m) n l =
    let p = top_of_lem (suc m) (omega arith) in
    let q = top_of_lem n (omega arith) in
    omega (arith, pow_less (top_of (suc m)) (suc (top_of n)) (omega (arith, p.most, q.less, two-pow-succ (top_of n))))

-- a power of two above 1 is split in halves
pub split_power : (k : ℕ) → split_of (2 ^ suc k) ≡ 2 ^ k
split_power k =
    let d = two-pow-succ k in
    omega (arith, split_is k (2 ^ suc k) (omega (arith, d, pow_pos k)) (omega arith), d)

-- neither part of two or more is empty
pub split_some : (n : ℕ) → 2 ≤ n → 0 < split_of n
split_some n h = let p = place_of n h in omega (arith, split_is p.place n p.over p.fits)

pub split_less : (n : ℕ) → 2 ≤ n → split_of n < n
split_less n h = let p = place_of n h in omega (arith, split_is p.place n p.over p.fits, pow_pos p.place)

-- up to 256 the right part is at most 128, and the left part no larger than the right
pub split_of_lem : (n r : ℕ) → 2 ≤ n → n ≤ 256 → r ≡ split_of n → Split n r
split_of_lem n r h k q =
    let p = place_of n h in
    let e : split_of n ≡ n - 2 ^ p.place = split_is p.place n p.over p.fits in
    let l : p.place < 8 = pow_less p.place 8 (omega (arith, p.over)) in
    let m : 2 ^ p.place ≤ 128 = pow_mono {i = p.place} {j = 7} (omega arith) in
    record {
      is = q;
      left_some = omega (arith, split_some n h);
      right_some = omega (arith, split_less n h);
      left_most = omega (arith, two-pow-succ p.place);
      right_most = omega arith;
    }
