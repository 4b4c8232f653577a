-- What it says that no record is loose, both ways.
-- Assumes nothing.
use Prim.Native.Nat.{ℕ, zero, suc, ◌+◌, ◌≤◌, ◌<◌}
use mathlib.Core.Bool.{false}
use mathlib.Core.Path.{◌≡◌}
use mathlib.Core.List.{List}
use mathlib.Core.Logic.{⊎_elim}
use native.Mathlib.Omega.{arith}
use native.Mathlib.Nat.{add-zero, eq-or-lt_of_le}
use lib.ListN.{get_or}
use borrow.Author.Tests.{eqb-true, eq-eqb}
use Rattle.book.specs.Format.{EXPRESSION}
use Rattle.book.specs.Read.{kind_at, State, done, is_unnamed, loose}
use Rattle.book.proofs.Picks.{first, second, refused_done}

-- an outcome has one number and one index
same_done : (m n : ℕ) (j i : List ℕ) → done m j ≡ done n i → (m ≡ n) × (j ≡ i)
same_done m n j i e = (cc, cc)

-- the records from j on that stand before the last are not loose, and the last is an expression
pub record Tight (b : List ℕ) (s : State) (j left n : ℕ) (i : List ℕ) : Type 0 where
  pub number : s.number ≡ n
  pub index : s.index ≡ i
  pub named : (x : ℕ) → j ≤ x → x < j + left → is_unnamed b (get_or s.index x 0) (get_or s.named x false) ≡ false
  pub root : kind_at b (get_or s.index (j + left) 0) ≡ EXPRESSION

-- where READ is done
pub tightened : (b : List ℕ) (s : State) (j left n : ℕ) (i : List ℕ) → loose b s j left ≡ done n i → Tight b s j left n i
unfolding loose
tightened b s j zero n i e =
    let h = first _ _ _ _ (refused_done _ n i) e in
    let w = same_done _ n _ i h.1 in
    record { number = w.0; index = w.1; named = λ x l u. absurd (omega arith); root = rw add-zero (eqb-true _ _ h.0) }
tightened b s j (suc left) n i e =
    let h = second _ _ _ _ (refused_done _ n i) e in
    let w = tightened b s (j + 1) left n i h.1 in
    let q : j + suc left ≡ j + 1 + left = omega arith in
    record {
      number = w.number;
      index = w.index;
      root = rw q w.root;
      named = λ x l u. ⊎_elim (λ (z : j ≡ x). rw (← z) h.0) (λ z. w.named x (omega arith) (omega arith)) (eq-or-lt_of_le l);
    }

-- so READ is done
pub loosened : (b : List ℕ) (s : State) (j left n : ℕ) (i : List ℕ) → Tight b s j left n i → loose b s j left ≡ done n i
unfolding loose
loosened b s j zero n i t = let h = rw add-zero at t.root in rw (eq-eqb _ _ h, t.number, t.index)
loosened b s j (suc left) n i t =
    let q : j + 1 + left ≡ j + suc left = omega arith in
    rw (t.named j (omega arith) (omega arith)) (loosened b s (j + 1) left n i (record { number = t.number; index = t.index; named = λ x l u. t.named x (omega arith) (omega arith); root = rw q t.root }))
