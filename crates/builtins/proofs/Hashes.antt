-- Laws of the hash of a row: none, one word, and two parts.
-- Assumes nothing.
use Prim.Native.Nat.{ℕ, ◌+◌, ◌≤◌, ◌<◌}
use mathlib.Core.Path.{◌≡◌}
use mathlib.Core.List.{List, [], ◌∷◌, map}
use native.Mathlib.Omega.{arith}
use lib.ListN.{length, get_or, take, drop}
use lib.Seq.{get_or-take, get_or-drop}
use Rattle.laws.specs.Rows.{map_length, map_take, map_drop}
use Rattle.array.specs.Split.{split_of}
use Rattle.array.proofs.Rows.{row_none, row_one, row_step}
use Rattle.jet.specs.Jets.{add_of}
use Rattle.named.specs.Combinators.{TAKE, jet, select, joined}
use Rattle.builtins.specs.RawHash.{add_both, add_row, Widths}

module _ (r : ℕ) where
  add_empty : add_row r [] ≡ select r (TAKE ∷ [])
  unfolding add_row
  add_empty = row_none (select r (TAKE ∷ [])) (joined (add_both r))

  pub add_word : (w : ℕ) → add_row r (w ∷ []) ≡ jet r (add_of w)
  unfolding add_row
  add_word w = row_one (select r (TAKE ∷ [])) (joined (add_both r)) (jet r (add_of w))

  pub add_parts : (ws : List ℕ) → 2 ≤ length ws → add_row r ws ≡ joined (add_both r) (add_row r (take (split_of (length ws)) ws)) (add_row r (drop (split_of (length ws)) ws))
  unfolding add_row
  add_parts ws h = rw (row_step (select r (TAKE ∷ [])) (joined (add_both r)) (map (λ w. jet r (add_of w)) ws) (rw map_length h), map_length, map_take, map_drop)

-- widths by their length
module _ (r : ℕ) (ws : List ℕ) where
  pub add_none : length ws < 1 → add_row r ws ≡ select r (TAKE ∷ [])
  add_none h = none ws h
    where
      none : (vs : List ℕ) → length vs < 1 → add_row r vs ≡ select r (TAKE ∷ [])
      none [] l = add_empty r
      none (v ∷ vs) l = absurd (omega arith)

  pub add_one : {j : ℕ} → 1 ≤ length ws → length ws < 2 → j ≡ add_of (get_or ws 0 0) → add_row r ws ≡ jet r j
  add_one {j} h l e = one ws h l e
    where
      one : (vs : List ℕ) → 1 ≤ length vs → length vs < 2 → j ≡ add_of (get_or vs 0 0) → add_row r vs ≡ jet r j
      one [] p q a = absurd (omega arith)
      one (v ∷ []) p q a = rw a (add_word r v)
      one (v ∷ w ∷ vs) p q a = absurd (omega arith)

  -- two or more: the parts that they split into, and then both
  pub add_more : {c : ℕ} {ls gs : List ℕ} → 2 ≤ length ws → c ≡ split_of (length ws) → ls ≡ take c ws → gs ≡ drop c ws → add_row r ws ≡ joined (add_both r) (add_row r ls) (add_row r gs)
  add_more two e l g = rw (l, g, e) (add_parts r ws two)

-- both parts of a row of hash widths are such a row
module _ {ws ls : List ℕ} (c : ℕ) (w : Widths (length ws) ws) where
  pub widths_left : ls ≡ take c ws → length ls ≡ c → c ≤ length ws → Widths (length ls) ls
  widths_left e n h = record { each = λ k l. rw (e, get_or-take c ws k 0 (omega arith)) (w.each k (omega arith)) }

  pub widths_right : ls ≡ drop c ws → length ls + c ≡ length ws → Widths (length ls) ls
  widths_right e n = record { each = λ k l. rw (e, get_or-drop c ws k 0) (w.each (c + k) (omega arith)) }
