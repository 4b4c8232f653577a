-- What holds of each record of a kind before record r holds of those that r's fields name; so each by those before it.
-- Assumes nothing.
use Rattle.std.specs.declared.result.Result.TheVariants.{Ok}
use Prim.Native.Nat.{ℕ, zero, suc, ◌+◌, ◌*◌, ◌<◌}
use mathlib.Core.List.{List}
use mathlib.Core.Path.{◌≡◌, subst}
use native.Mathlib.Omega.{arith}
use lib.Dec.{T, ltb}
use lib.ListN.{get_or}
use Rattle.book.specs.Index.{mark, kind, field}
use Rattle.book.specs.Read.{read_of, index_of}
use Rattle.book.specs.Stands.{Stands}
use Rattle.book.proofs.Established.{answer_valid}
use Rattle.book.proofs.Roles.{layout, counted, is_kind}
use Rattle.book.proofs.Standing.{head_stands, head_below, each_stands, each_below}

-- a record of a book that READ accepts stands
pub read_stands : {b : List ℕ} {n : ℕ} → read_of b ≡ Ok n → {kd : ℕ} (r : ℕ) → r < n → kind b (index_of b) r ≡ kd → Stands b (index_of b) r kd
read_stands {b} {n} e r o k = record { records = n; valid = answer_valid b n e; inside = o; is = k }

-- P holds of each record of kind kd before record r
abbrev pub Before : List ℕ → List ℕ → (ℕ → Type 0) → ℕ → ℕ → Type 0
Before b i P kd r = (x : ℕ) → x < r → Stands b i x kd → P x

module _ {b i : List ℕ} (P : ℕ → Type 0) (kd : ℕ) where
  -- what holds of each, if of all before it, holds of all
  pub each_before : (n : ℕ) → ((r : ℕ) → r < n → Stands b i r kd → Before b i P kd r → P r) → Before b i P kd n
  each_before zero f x o s = absurd (omega arith)
  each_before (suc n) f x o s = f x o s (λ y l. each_before n (λ r u. f r (omega arith)) y (omega arith))

  -- a field of record r's head; the e-th of each time of its group
  module _ (t : T (is_kind kd)) {r w : ℕ} (s : Stands b i r w) (h : Before b i P kd r) (m : ℕ) (is : mark b i r ≡ m) where
    pub in_head_lem : (k : ℕ) → T (ltb k (layout m).heads) → get_or (layout m).head k 0 ≡ kd → P (field b i r k)
    in_head_lem k u o = h (field b i r k) (head_below s m is k u (rw o t)) (subst (Stands b i (field b i r k)) o (head_stands s m is k u (rw o t)))

    pub in_group_lem : (e : ℕ) → T (ltb e (layout m).eachs) → get_or (layout m).each e 0 ≡ kd → (k q : ℕ) → k ≡ (layout m).heads + q * (layout m).eachs + e → q < counted m (field b i r) → P (field b i r k)
    in_group_lem e u o k q z l = h (field b i r k) (each_below s m is k q e z l u (rw o t)) (subst (Stands b i (field b i r k)) o (each_stands s m is k q e z l u (rw o t)))
