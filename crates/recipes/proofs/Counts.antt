-- Document 01, Stored order: how many nodes a list fold and a for-while store beyond the body, for every bound and width.
-- Assumes nothing.
use Prim.Native.Nat.{ℕ, zero, suc, ◌+◌, ◌-◌, ◌*◌, ◌^◌, ◌<◌}
use mathlib.Core.Bool.{Bool, true, false}
use mathlib.Core.Path.{◌≡◌, ◌∙◌}
use native.Mathlib.Nat.{two-pow-succ}
use native.Mathlib.Omega.{arith}
use lib.Pow.{pow_pos}
use Rattle.array.specs.Split.{top_of}
use Rattle.array.proofs.Splits.{top_is}
use Rattle.named.specs.Cut.{size}
use Rattle.named.proofs.Sizes.{Stores, stores_pure, stores_emit, stores_then, stores_bit, stores_select, stores_applied}
use Rattle.recipes.specs.ListFold.{next_array, with_block, next_fold, doubled, list_fold}
use Rattle.recipes.specs.ForWhile.{turn, for_while0, adapt, for_while}

module _ {r : ℕ} where
  stores_array : (f : ℕ) → Stores r 12 (next_array r f)
  unfolding next_array
  stores_array f =
      stores_then (stores_select _) (λ first. stores_then (stores_select _) (λ start. stores_then (stores_applied _ _ _) (λ middle.
      stores_then (stores_select _) (λ second. stores_applied _ _ _))))

  stores_block : (f g : ℕ) → Stores r 12 (with_block r f g)
  unfolding with_block
  stores_block f g =
      stores_then (stores_select _) (λ block. stores_then (stores_select _) (λ start. stores_then (stores_applied _ _ _) (λ middle.
      stores_then (stores_select _) (λ rest. stores_applied _ _ _))))

  stores_fold : (f g : ℕ) → Stores r 25 (next_fold r f g)
  unfolding next_fold
  stores_fold f g =
      stores_then (stores_select _) (λ block. stores_then (stores_select _) (λ rest. stores_then (stores_select _) (λ start.
      stores_then (stores_emit _ _ _) (λ kept. stores_then (stores_emit _ _ _) (λ input. stores_then (stores_emit _ _ _) (λ without.
      stores_then (stores_block f g) (λ with. stores_then (stores_emit _ _ _) (λ choice. stores_emit _ _ _))))))))

  stores_doubled : (k f g : ℕ) → Stores r (37 * k) (doubled r k f g)
  unfolding doubled
  stores_doubled zero f g = stores_pure g
  stores_doubled (suc k) f g =
      let e : 12 + (25 + 37 * k) ≡ 37 * suc k = omega arith in
      rw e at (stores_then (stores_array f) (λ f'. stores_then (stores_fold f' g) (λ g'. stores_doubled k f' g')))

  stores_turn : (b : Bool) (f : ℕ) → Stores r 9 (turn r b f)
  unfolding turn
  stores_turn b f =
      stores_then (stores_select _) (λ accumulator. stores_then (stores_select _) (λ context. stores_then (stores_bit b) (λ counter.
      stores_then (stores_emit _ _ _) (λ rest. stores_then (stores_emit _ _ _) (λ input. stores_emit _ _ _)))))

  stores_loop : (f : ℕ) → Stores r 26 (for_while0 r f)
  unfolding for_while0
  stores_loop f =
      stores_then (stores_turn false f) (λ first. stores_then (stores_select _) (λ context. stores_then (stores_emit _ _ _) (λ input.
      stores_then (stores_select _) (λ result. stores_then (stores_emit _ _ _) (λ stopped. stores_then (stores_turn true f) (λ second.
      stores_then (stores_emit _ _ _) (λ choice. stores_emit _ _ _)))))))

  stores_adapt : (f : ℕ) → Stores r 17 (adapt r f)
  unfolding adapt
  stores_adapt f =
      stores_then (stores_select _) (λ accumulator. stores_then (stores_select _) (λ context. stores_then (stores_select _) (λ high.
      stores_then (stores_select _) (λ low. stores_then (stores_emit _ _ _) (λ counter. stores_then (stores_emit _ _ _) (λ rest.
      stores_then (stores_emit _ _ _) (λ input. stores_emit _ _ _)))))))

  stores_while : (k f : ℕ) → Stores r (26 * 2 ^ k + 17 * (2 ^ k - 1)) (for_while r k f)
  unfolding for_while
  stores_while zero f = stores_loop f
  stores_while (suc k) f =
      let n : ℕ = 26 * 2 ^ k + 17 * (2 ^ k - 1) in
      let e : 17 + (n + n) ≡ 26 * 2 ^ suc k + 17 * (2 ^ suc k - 1) = omega (arith, two-pow-succ k, pow_pos k) in
      rw e at (stores_then (stores_adapt f) (λ g. stores_then (stores_while k g) (λ h. stores_while k h)))

-- list fold of bound 2 ^ k: 3 + 37(k - 1)
pub list_fold_size : (r k f c : ℕ) → 0 < k → size (list_fold r (2 ^ k) f c) ≡ 3 + 37 * (k - 1)
unfolding list_fold
list_fold_size r k f c h =
    let e : top_of (2 ^ k) ≡ k = top_is k (2 ^ k) (omega arith) (omega (arith, two-pow-succ k, pow_pos k)) in
    let s : 2 + (1 + 37 * (k - 1)) ≡ 3 + 37 * (k - 1) = omega arith in
    rw e ((stores_then {r = r} (stores_select _) (λ keep. stores_then (stores_emit _ _ _) (λ g. stores_doubled (k - 1) f g))).count c ∙ s)

-- for-while of width 2 ^ k: 26 times the width and 17 times one less
pub for_while_size : (r k f c : ℕ) → size (for_while r k f c) ≡ 26 * 2 ^ k + 17 * (2 ^ k - 1)
for_while_size r k f c = (stores_while k f).count c
