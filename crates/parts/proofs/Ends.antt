-- Laws of what ends a block and of a hash's row of widths: one more statement, one more width.
-- Assumes nothing.
use Prim.Native.Nat.{ℕ, zero, suc, ◌+◌, ◌*◌, ◌≤◌, ◌<◌}
use mathlib.Core.List.{List, [], ◌∷◌}
use mathlib.Core.Path.{◌≡◌, refl, ap, ap₂, ◌∙◌}
use native.Mathlib.Omega.{arith}
use lib.ListN.{length, get_or, set, length-set}
use lib.Seq.{get_or-set_same, get_or-set_other}
use Rattle.std.specs.Prelude.{Result, Ok, Err}
use Rattle.laws.specs.Order.{by_lt}
use Rattle.jet.specs.Jets.{add_of}
use Rattle.book.specs.Format.{CH}
use Rattle.book.specs.Index.{field}
use Rattle.book.specs.Tree.{group}
use Rattle.book.specs.declared.fault.Refusal.{Refusal}
use Rattle.named.specs.Trace.{Run}
use Rattle.named.specs.Stores.{Done}
use Rattle.named.specs.Table.{Table}
use Rattle.named.proofs.Storing.{then, halt, done_pure}
use Rattle.parts.specs.Parts.{Marked, Widths, widths_row, close_run, close_all}
use Rattle.parts.proofs.Numbers.{hash_width}

module _ {b i : List ℕ} {r : ℕ} where
  -- no width yet, and one more
  pub widths_none : (ws : List ℕ) → Widths b i r 0 ws
  widths_none ws = record { fits = omega arith; is = λ k h. absurd (omega arith) }

  pub widths_next : {n x : ℕ} {ws : List ℕ} → Widths b i r n ws → n < length ws → x ≡ field b i r (3 + 2 * n) → Widths b i r (n + 1) (set ws n x)
  widths_next {n} {x} {ws} w h e = record {
    fits = rw length-set (omega arith);
    is = λ k o. by_lt k n (λ l. get_or-set_other ws n k x 0 (λ z. omega arith) ∙ w.is k l) (λ l. let z : k ≡ n = omega arith in rw (z, get_or-set_same ws n x 0 h) e);
  }

  -- each has a jet that adds it
  pub widths_add : {n : ℕ} {ws : List ℕ} → Marked b i r CH → n ≡ field b i r 2 → Widths b i r n ws → (k : ℕ) → k < n → 0 < add_of (get_or ws k 0)
  widths_add g e w k h = rw (w.is k h) (hash_width g k (omega arith))

  pub widths_all : {n : ℕ} {ws : List ℕ} (k : ℕ) → k ≤ n → n ≤ k → Widths b i r k ws → Widths b i r n ws
  widths_all {n} k h o w = let e : n ≡ k = omega arith in rw e w

-- all of them are the row
module _ (b i : List ℕ) (r : ℕ) where
  row_from : (j : ℕ) (ws : List ℕ) → ((k : ℕ) → k < length ws → get_or ws k 0 ≡ field b i r (j + 2 * k)) → ws ≡ widths_row b i r j (length ws)
  unfolding widths_row group
  row_from j [] f = refl
  row_from j (w ∷ ws) f =
      let first : w ≡ field b i r j = f 0 (omega arith) ∙ ap (field b i r) (omega arith) in
      ap₂ ◌∷◌ first (row_from (j + 2) ws (λ k o. f (suc k) (omega arith) ∙ ap (field b i r) (omega arith)))

  pub widths_row_lem : {m : ℕ} (ws : List ℕ) → length ws ≡ m → Widths b i r (length ws) ws → ws ≡ widths_row b i r 3 m
  widths_row_lem ws e w = row_from 3 ws w.is ∙ ap (widths_row b i r 3) e

-- a run of what is read of the book: x is what was read, y what the book has
pub done_at : {A : Type 0} (m : A → Run ℕ) {x y : A} {d d' : Table} {s : Result ℕ Refusal} → x ≡ y → Done d (m x) s d' → Done d (m y) s d'
done_at m e p = rw (← e) p

-- the first k statements of a block, after which e stands
module _ (b i : List ℕ) (r : ℕ) (xs : List ℕ) (e : ℕ) {d : Table} where
  pub close_none : (k : ℕ) → k ≤ 0 → Done d (close_all b i r xs k e) (Ok e) d
  unfolding close_all
  close_none zero h = done_pure d e
  close_none (suc k) h = absurd (omega arith)

  module _ (k j s : ℕ) (z : k ≡ suc j) (w : s ≡ field b i r (2 + j)) {d₁ : Table} where
    pub close_next : {a : ℕ} {v : Result ℕ Refusal} {d₂ : Table} → Done d (close_run b i s (get_or xs j 0) e) (Ok a) d₁ → Done d₁ (close_all b i r xs j a) v d₂ → Done d (close_all b i r xs k e) v d₂
    unfolding close_all
    close_next p q = rw (z, ← w) (then (close_all b i r xs j) p q)

    pub close_halt : {o : Refusal} → Done d (close_run b i s (get_or xs j 0) e) (Err o) d₁ → Done d (close_all b i r xs k e) (Err o) d₁
    unfolding close_all
    close_halt p = rw (z, ← w) (halt (close_all b i r xs j) p)
