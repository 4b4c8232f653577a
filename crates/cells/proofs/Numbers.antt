-- The numbers of an entry as words of its table.
-- Assumes nothing.
use Rattle.std.proofs.Common.{◌≡◌, ℕ, ◌+◌, ◌*◌, ◌≤◌, List, length, get_or, arith}
use lib.ListN.{get_or-eq_default}
use Rattle.book.specs.Format.{word_at}
use Rattle.cells.specs.Entries.{left_at, right_at}

-- a word of which the second byte is past the end
pub word_short : (t : List ℕ) (i : ℕ) → length t ≤ i + 1 → get_or t i 0 ≡ word_at t i
unfolding word_at
word_short t i l = rw (get_or-eq_default t 0 l) (omega arith)

module _ (t : List ℕ) (n : ℕ) where
  pub left_word : word_at t (5 * n + 1) ≡ left_at t n
  unfolding word_at left_at
  left_word = let e : 5 * n + 1 + 1 ≡ 5 * n + 2 = omega arith in rw e

  pub right_word : word_at t (5 * n + 3) ≡ right_at t n
  unfolding word_at right_at
  right_word = let e : 5 * n + 3 + 1 ≡ 5 * n + 4 = omega arith in rw e
