-- The index with one more place: what it says of the earlier records stays, and what it says of the new one.
-- Assumes nothing.
use Prim.Native.Nat.{ℕ, ◌+◌, ◌<◌}
use mathlib.Core.Path.{◌≡◌, ◌∙◌}
use mathlib.Core.List.{List}
use native.Mathlib.Omega.{arith}
use native.Mathlib.Nat.{lt_trans}
use lib.ListN.{length, get_or, set}
use lib.Seq.{get_or-set_same, get_or-set_other}
use Rattle.book.specs.Read.{total_at}
use Rattle.book.specs.Valid.{Sound, Uses}
use Rattle.book.proofs.Judging.{Fits, up_to}

-- j is i with record r at p
pub record Extends (i j : List ℕ) (r p : ℕ) : Type 0 where
  pub before : (k : ℕ) → k < r → get_or j k 0 ≡ get_or i k 0
  pub new : get_or j r 0 ≡ p

-- to set the place of record r extends the index
pub extends : (i : List ℕ) (r p : ℕ) → r < length i → Extends i (set i r p) r p
extends i r p h = record { before = λ k l. get_or-set_other i r k p 0 (omega arith); new = get_or-set_same i r p 0 h }

-- a row that has f below r, and then at r
pub set_row : (f : ℕ → ℕ) (l : List ℕ) (r v : ℕ) → r < length l → ((k : ℕ) → k < r → get_or l k 0 ≡ f k) → v ≡ f r → (k : ℕ) → k < r + 1 → get_or (set l r v) k 0 ≡ f k
set_row f l r v h w e = up_to (λ k. get_or (set l r v) k 0 ≡ f k) r (λ k z. get_or-set_other l r k v 0 (omega arith) ∙ w k z) (get_or-set_same l r v 0 h ∙ e)

-- a field names the same wherever the index has its record
pub uses_at : (b i j : List ℕ) (r k x : ℕ) → get_or j r 0 ≡ get_or i r 0 → Uses b i r k x → Uses b j r k x
uses_at b i j r k x e u = record { inside = rw e u.inside; once = rw e u.once; is = rw e u.is }

module _ (b i j : List ℕ) (r p : ℕ) (x : Extends i j r p) where
  -- an earlier record stays sound
  pub sound_before : (s : ℕ) → s < r → Sound b i s → Sound b j s
  sound_before s h f =
      let e = x.before s h in
      record {
        ranged = λ k l. rw e (f.ranged k (rw e at l));
        earlier = λ k l n. rw e (f.earlier k (rw e at l) (rw e at n));
        kinds = λ k l n.
            let m = f.kinds k (rw e at l) (rw e at n) in
            let w = x.before _ (lt_trans (f.earlier k (rw e at l) (rw e at n)) h) in
            rw (e, w) m;
      }

  -- the new one is sound if its fields fit
  pub sound_new : ((k : ℕ) → k < total_at b p → Fits b i r p k) → Sound b j r
  sound_new f =
      let e = x.new in
      record {
        ranged = λ k l. rw e (f k (rw e at l)).ranged;
        earlier = λ k l n. rw e ((f k (rw e at l)).earlier (rw e at n));
        kinds = λ k l n.
            let g = f k (rw e at l) in
            let w = x.before _ (g.earlier (rw e at n)) in
            rw (e, w) (g.kinds (rw e at n));
      }

  -- and only then
  pub fits_sound : Sound b j r → (k : ℕ) → k < total_at b p → Fits b i r p k
  fits_sound f k l =
      let e = x.new in
      record {
        ranged = rw e at (f.ranged k (rw e l));
        earlier = λ n. rw e at (f.earlier k (rw e l) (rw e n));
        kinds = λ n.
            let w = x.before _ (rw e at (f.earlier k (rw e l) (rw e n))) in
            rw (e, w) at (f.kinds k (rw e l) (rw e n));
      }
