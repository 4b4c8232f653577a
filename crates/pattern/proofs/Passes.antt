-- Laws of a search from the left in a row of patterns: what the elements from the next on have, and how the search ends.
-- Assumes nothing.
use Prim.Native.Nat.{ℕ, zero, suc, ◌+◌, ◌*◌, ◌-◌, ◌≤◌, ◌<◌}
use mathlib.Core.List.{List, []}
use mathlib.Core.Option.{Option, some, none}
use mathlib.Core.Path.{◌≡◌, refl, ap, ◌∙◌}
use native.Mathlib.Omega.{arith}
use borrow.Author.Tests.{eq-eqb, ne_eqb}
use Rattle.array.specs.Path.{Side, path}
use Rattle.book.specs.Tree.{Pat, name, pat_row, Pats, no_pats, more_pats, group}
use Rattle.book.proofs.Built.{group_next, group_none}
use Rattle.named.specs.Combinators.{TAKE, DROP, kinds, wraps}
use Rattle.std.specs.Prelude.{Result, Ok, Err}
use Rattle.book.specs.declared.fault.Refusal.{Refusal}
use Rattle.named.specs.Stores.{Done}
use Rattle.named.specs.Table.{Table}
use Rattle.pattern.specs.Find.{size, within, find, find_from}
use Rattle.pattern.specs.Seeks.{Absent, Found}
use Rattle.pattern.proofs.Selectors.{found_in, full_in}

-- the patterns a of a group of s fields that stands m times from field h on
abbrev pub row_at : ℕ → (ℕ → Pat) → ℕ → ℕ → Pats
row_at s a = group s no_pats (λ j. more_pats (a j))

-- what the elements from k on have, in a row of n from field h on
unfoldable pub left : ℕ → ℕ → (ℕ → Pat) → ℕ → ℕ → ℕ → Option (List Side)
left x s a h n k = find_from x n k (row_at s a (h + k * s) (n - k))

pub size_row : (s : ℕ) (a : ℕ → Pat) (h m : ℕ) → size (row_at s a h m) ≡ m
unfolding size group
size_row s a h zero = refl
size_row s a h (suc m) = ap suc (size_row s a (h + s) m)

module _ (x s : ℕ) (a : ℕ → Pat) (h n : ℕ) where
  -- the whole row, one element and those after it, no more element
  pub left_all : find x (pat_row (row_at s a h n)) ≡ left x s a h n 0
  unfolding find find_from left
  left_all =
      let z : h + 0 * s ≡ h = omega arith in
      let y : n - 0 ≡ n = omega arith in
      ap (λ m. find_from x m 0 (row_at s a h n)) (size_row s a h n) ∙ rw (z, y)

  pub left_next : (k j : ℕ) → k < n → j ≡ h + k * s → left x s a h n k ≡ within n k (find x (a j)) (left x s a h n (suc k))
  unfolding find_from left
  left_next k j o e =
      let z : h + suc k * s ≡ j + s = omega arith in
      rw (← e, z, group_next s no_pats (λ i. more_pats (a i)) j (n - k) (j + s) (n - suc k) (omega arith) refl)

  pub left_none : (k : ℕ) → n ≤ k → left x s a h n k ≡ none
  unfolding find_from left
  left_none k o = rw (group_none s no_pats (λ i. more_pats (a i)) (h + k * s) (n - k) (omega arith))

-- a search that comes to w has passed the elements before k of a row of n from field h on, and stored nothing
pub record Passes (w : Option (List Side)) (x s : ℕ) (a : ℕ → Pat) (h n k : ℕ) (d d₁ : Table) : Type 0 where
  pub few : n ≤ 256
  pub low : k ≤ n
  pub table : d₁ ≡ d
  pub rest : w ≡ left x s a h n k

-- no element passed yet
pub passes_none : {w : Option (List Side)} {x s h : ℕ} {a : ℕ → Pat} {n : ℕ} {d : Table} → n ≤ 256 → w ≡ left x s a h n 0 → Passes w x s a h n 0 d d
passes_none few e = record { few = few; low = omega arith; table = refl; rest = e }

module _ {w : Option (List Side)} {x s h : ℕ} {a : ℕ → Pat} {n k : ℕ} {d d₁ : Table} (p : Passes w x s a h n k d d₁) where
  -- the elements are all passed: the name is missing
  pub passes_all : n ≤ k → Absent w d d₁
  passes_all o = record { is = p.rest ∙ left_none x s a h n k o; table = p.table }

  module _ (j : ℕ) (o : k < n) (e : j ≡ h + k * s) where
    -- one more, if it has not the name
    pub passes_next : {d₂ : Table} (u : ℕ) → u ≡ k + 1 → Absent (find x (a j)) d₁ d₂ → Passes w x s a h n u d d₂
    unfolding within
    passes_next u z f = record {
      few = p.few;
      low = omega arith;
      table = f.table ∙ p.table;
      rest = let y : suc k ≡ u = omega arith in p.rest ∙ left_next x s a h n k j o e ∙ rw (f.is, y);
    }

    -- the steps to it, if it has
    pub passes_found : {r : ℕ} {d₂ d₃ : Table} {c : ℕ} {v : Result ℕ Refusal} → Found r d₁ (find x (a j)) (Ok c) d₂ → Done d₂ (wraps r (kinds TAKE DROP (path n k)) c) v d₃ → Found r d w v d₃
    passes_found f q = found_in n k (find x (a j)) (left x s a h n (suc k)) (rw p.table at f) (p.rest ∙ left_next x s a h n k j o e) q

    -- there is no room for what was found in it
    pub passes_full : {r : ℕ} {d₂ : Table} {z : Refusal} → Found r d₁ (find x (a j)) (Err z) d₂ → Found r d w (Err z) d₂
    passes_full f = full_in n k (find x (a j)) (left x s a h n (suc k)) (rw p.table at f) (p.rest ∙ left_next x s a h n k j o e)

-- a name is found where it stands
pub name_is : (x z y : ℕ) → y ≡ z → y ≡ x → find x (name z) ≡ some []
unfolding find
name_is x z y f e = rw (← f, eq-eqb y x e)

pub name_not : (x z y : ℕ) → y ≡ z → (y ≡ x → ⊥) → find x (name z) ≡ none
unfolding find
name_not x z y f e = rw (← f, ne_eqb y x e)
