-- Document 01, Stored order: how many nodes an array fold stores beyond the body, and a raw hash, for every size.
-- Assumes nothing.
use Prim.Native.Nat.{ℕ, zero, suc, ◌+◌, ◌-◌, ◌*◌, ◌^◌, ◌≤◌, ◌<◌}
use mathlib.Core.Path.{◌≡◌, refl, sym, ap, ◌∙◌}
use mathlib.Core.List.{List, [], ◌∷◌}
use native.Mathlib.Omega.{arith}
use lib.Count.{ones, ones_cat, ones-le}
use lib.ListN.{length, get_or}
use lib.Pow.{pow_pos}
use Rattle.laws.specs.Order.{by_lt}
use Rattle.array.specs.Split.{split_of, top_of}
use Rattle.array.proofs.Splits.{split_some, split_less}
use Rattle.array.proofs.Rows.{lefts, rights, lefts_length, rights_length, rows_all}
use Rattle.named.specs.Combinators.{UNIT}
use Rattle.named.specs.Cut.{size}
use Rattle.named.proofs.Sizes.{Stores, stores_pure, stores_emit, stores_then, stores_select, stores_applied}
use Rattle.builtins.specs.ArrayFold.{f_array_fold, powers, tree_fold, array_fold, FoldNodes}
use Rattle.builtins.specs.RawHash.{add_both, add_row, raw_hash}
use Rattle.array.proofs.Splits.{top_of_lem}
use Rattle.builtins.proofs.Folds.{top_below, tree_top, tree_step}
use Rattle.builtins.proofs.Hashes.{add_word, add_parts}

-- the top one bit, and those of the rest
pub ones_top : (n : ℕ) → 0 < n → ones n ≡ suc (ones (n - 2 ^ top_of n))
unfolding ones
ones_top n h =
    let e : n ≡ 1 * 2 ^ top_of n + (n - 2 ^ top_of n) = omega (arith, top_of_lem n h) in
    let s : ones n ≡ 1 + ones (n - 2 ^ top_of n) = ap ones e ∙ ones_cat (top_of n) 1 (n - 2 ^ top_of n) (omega (arith, top_of_lem n h)) in
    omega arith

ones_none : ones 0 ≡ 0
unfolding ones
ones_none = refl

module _ {r : ℕ} where
  stores_join : (left right : ℕ) → Stores r 12 (f_array_fold r left right)
  unfolding f_array_fold
  stores_join left right =
      stores_then (stores_select _) (λ first. stores_then (stores_select _) (λ second. stores_then (stores_select _) (λ start.
      stores_then (stores_applied _ _ _) (λ middle. stores_applied _ _ _))))

  stores_powers : (k f : ℕ) → Stores r (12 * k) (powers r k f)
  unfolding powers
  stores_powers zero f = stores_pure (f ∷ [])
  stores_powers (suc k) f =
      let e : 12 + (12 * k + 0) ≡ 12 * suc k = omega arith in
      rw e at (stores_then (stores_join f f) (λ g. stores_then (stores_powers k g) (λ gs. stores_pure (f ∷ gs))))

  stores_tree : (d n : ℕ) (fs : List ℕ) → 0 < n → n ≤ d → Stores r (12 * (ones n - 1)) (tree_fold d r fs n)
  stores_tree zero n fs o h = absurd (omega arith)
  stores_tree (suc d) n fs o h = by_lt (2 ^ top_of n) n
      (λ l.
      let u : ℕ = n - 2 ^ top_of n in
      let e : 12 * (ones u - 1) + 12 ≡ 12 * (ones n - 1) = omega (arith, ones_top n o, ones_top u (omega arith)) in
      rw (tree_step r fs n d l) (rw e at (stores_then (stores_tree d u fs (omega arith) (omega (arith, pow_pos (top_of n)))) (λ left. stores_join left (get_or fs (top_of n) 0)))))
      (λ l.
      let z : n - 2 ^ top_of n ≡ 0 = omega arith in
      let e : 12 * (ones n - 1) ≡ 0 = omega (arith, rw z at (ones_top n o), ones_none) in
      rw (tree_top r fs n (suc d) (omega (arith, top_of_lem n o)), e) (stores_pure _))

  pub stores_array : (n f : ℕ) → 0 < n → Stores r (12 * (top_of n + ones n - 1)) (array_fold r n f)
  unfolding array_fold
  stores_array n f h =
      let e : 12 * top_of n + 12 * (ones n - 1) ≡ 12 * (top_of n + ones n - 1) = omega (arith, ones_top n h) in
      rw e at (stores_then (stores_powers (top_of n) f) (λ fs. stores_tree n n fs h (omega arith)))

-- array fold of n: 12 times (the place of the top one bit, the number of one bits, less 1)
pub array_fold_size : (r n f c : ℕ) → 0 < n → size (array_fold r n f c) ≡ 12 * (top_of n + ones n - 1)
array_fold_size r n f c h = (stores_array n f h).count c

pub fold_nodes : (n m : ℕ) → 0 < n → m ≡ 12 * (top_of n + ones n - 1) → FoldNodes n m
fold_nodes n m h e = record { is = e; stored = λ r f c. array_fold_size r n f c h ∙ sym e }

-- both counts are small: an array has at most 256 elements
pub counts_fit : (n : ℕ) → 0 < n → n ≤ 256 → (top_of n ≤ 8) × (0 < ones n) × (ones n ≤ 9)
counts_fit n h k = (omega (arith, top_below n 9 h (omega arith)), omega (arith, ones_top n h), ones-le 9 n (omega arith))

module _ {r : ℕ} where
  stores_both : (left right : ℕ) → Stores r 12 (add_both r left right)
  unfolding add_both
  stores_both left right =
      stores_then (stores_select _) (λ context. stores_then (stores_select _) (λ first. stores_then (stores_select _) (λ second.
      stores_then (stores_applied _ _ _) (λ middle. stores_applied _ _ _))))

  -- a word is one node, and each join of two parts twelve
  stores_row : (ws : List ℕ) → 0 < length ws → Stores r (length ws + 12 * (length ws - 1)) (add_row r ws)
  stores_row = rows_all (λ ws. 0 < length ws → Stores r (length ws + 12 * (length ws - 1)) (add_row r ws))
      (λ h. absurd (omega arith))
      (λ w h. rw (add_word r w) (stores_emit _ _ _))
      (λ ws two l g h.
      let n : ℕ = split_of (length ws) in
      let a : length (lefts ws) ≡ n = lefts_length ws two in
      let b : length (rights ws) ≡ length ws - n = rights_length ws in
      let e : length (lefts ws) + 12 * (length (lefts ws) - 1) + (length (rights ws) + 12 * (length (rights ws) - 1) + 12) ≡ length ws + 12 * (length ws - 1) =
      omega (arith, split_some (length ws) two, split_less (length ws) two) in
      rw (add_parts r ws two) (rw e at (stores_then (l (omega (arith, split_some (length ws) two))) (λ x. stores_then (g (omega (arith, split_less (length ws) two))) (λ y. stores_both x y)))))

-- raw hash of n words, 1 or more: eight nodes about the adds, one for each word, twelve for each join
pub raw_hash_size : (r : ℕ) (ws : List ℕ) (c : ℕ) → 0 < length ws → size (raw_hash r ws c) ≡ 8 + length ws + 12 * (length ws - 1)
unfolding raw_hash
raw_hash_size r ws c h =
    let d = stores_then {r = r} (stores_emit UNIT 0 0) (λ u. stores_then (stores_emit _ _ _) (λ init. stores_then (stores_emit _ _ _) (λ fresh.
    stores_then (stores_emit _ _ _) (λ words. stores_then (stores_emit _ _ _) (λ input. stores_then (stores_row ws h) (λ adds.
    stores_then (stores_emit _ _ _) (λ full. stores_then (stores_emit _ _ _) (λ end. stores_emit _ _ _)))))))) in
    d.count c ∙ omega arith
