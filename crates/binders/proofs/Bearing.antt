-- Laws of the record that has all names of a row, which is sought element by element.
-- Assumes nothing.
use Prim.Native.Nat.{ℕ, suc, ◌+◌, ◌≤◌, ◌<◌}
use mathlib.Core.Bool.{false}
use mathlib.Core.List.{List, [], ◌++◌, append-nil}
use mathlib.Core.Path.{◌≡◌, refl, sym, ap, ◌∙◌}
use native.Mathlib.Omega.{arith}
use Rattle.book.specs.Format.{PATTERN, PT}
use Rattle.book.specs.Index.{mark, field}
use Rattle.book.specs.Stands.{Stands}
use Rattle.book.specs.Tree.{pattern_of}
use Rattle.std.specs.Prelude.{Option as Answer, Some, None, is_some}
use Rattle.laws.specs.Table.{true_false}
use Rattle.binders.specs.Binders.{names}
use Rattle.binders.specs.Memos.{Bears, nobody, somebody}
use Rattle.binders.proofs.Names.{names_row_lem, after, after_next, after_none}

-- the names of the elements from k on, in the row p of n
abbrev rest : List ℕ → List ℕ → ℕ → ℕ → ℕ → List ℕ
rest b i p n k = after 1 (λ j. names (pattern_of b i (field b i p j))) 1 n k

-- those of the next, record u, come first
split : (b i : List ℕ) (p n k j u v : ℕ) → k < n → j ≡ 1 + k → u ≡ field b i p j → v ≡ k + 1 → rest b i p n k ≡ names (pattern_of b i u) ++ rest b i p n v
split b i p n k j u v o y f z =
    let q : v ≡ suc k = omega arith in
    rw (f, q) (after_next 1 (λ j. names (pattern_of b i (field b i p j))) 1 n k j o (omega arith))

-- of n elements of the row p those before k have no names, or only the one that is record s has
pub data Bearing (b i : List ℕ) (p n k : ℕ) : Answer ℕ → Type 0 where
  unborne : names (pattern_of b i p) ≡ rest b i p n k → Bearing b i p n k None
  borne : {s : ℕ} → Stands b i s PATTERN → s < p → names (pattern_of b i p) ≡ names (pattern_of b i s) ++ rest b i p n k → Bearing b i p n k (Some s)

module _ {b i : List ℕ} {p : ℕ} where
  -- no element was looked at yet; the row has its own names
  pub bearing_none : {n : ℕ} → Stands b i p PATTERN → mark b i p ≡ PT → n ≡ field b i p 0 → Bearing b i p n 0 None
  bearing_none {n} s e z = unborne (names_row_lem s n e z)

  pub bears_self : Stands b i p PATTERN → Bears b i p (Some p)
  bears_self s = somebody s (omega arith) refl

  module _ {n k : ℕ} where
    -- all were looked at
    pub bearing_all : {s : Answer ℕ} → Bearing b i p n k s → n ≤ k → Bears b i p s
    bearing_all (unborne e) o = nobody (e ∙ after_none 1 _ 1 n k o)
    bearing_all (borne {s = q} h l e) o = somebody h (omega arith) (sym (e ∙ rw (after_none 1 (λ j. names (pattern_of b i (field b i p j))) 1 n k o) (append-nil (names (pattern_of b i q)))))

    -- the next is record u
    module _ (j u v : ℕ) (o : k < n) (y : j ≡ 1 + k) (f : u ≡ field b i p j) (z : v ≡ k + 1) where
      -- it has no names
      pub bearing_same : {s w : Answer ℕ} → Bearing b i p n k s → names (pattern_of b i u) ≡ [] → w ≡ s → Bearing b i p n v w
      bearing_same (unborne e) g x = rw x (unborne (e ∙ split b i p n k j u v o y f z ∙ rw g))
      bearing_same (borne {s = q} h l e) g x = rw x (borne h l (e ∙ ap (◌++◌ (names (pattern_of b i q))) (split b i p n k j u v o y f z ∙ rw g)))

      -- it is the first that may have names
      pub bearing_first : {s w : Answer ℕ} → Bearing b i p n k s → is_some s ≡ false → Stands b i u PATTERN × (u < p) → w ≡ Some u → Bearing b i p n v w
      bearing_first (unborne e) a part x = rw x (borne part.0 part.1 (e ∙ split b i p n k j u v o y f z))
      bearing_first (borne h l e) a part x = absurd (true_false a)

-- what was found: no record has names, or one that is no greater
module _ {b i : List ℕ} {p : ℕ} where
  pub bears_none : Bears b i p None → names (pattern_of b i p) ≡ []
  bears_none (nobody e) = e

  pub bears_some : {s : ℕ} → Bears b i p (Some s) → Stands b i s PATTERN × (s ≤ p) × (names (pattern_of b i s) ≡ names (pattern_of b i p))
  bears_some (somebody h l e) = (h, l, e)
