-- From a run on a clear table to the table's bytes.
-- Assumes nothing.
use Prim.Native.Nat.{ℕ, zero, suc, ◌+◌, ◌*◌, ◌-◌, ◌≤◌}
use mathlib.Core.Path.{◌≡◌, refl, sym, ◌∙◌}
use mathlib.Core.List.{List, [], ◌∷◌, ◌++◌}
use native.Mathlib.Omega.{arith}
use native.Mathlib.Nat.{zero-add}
use lib.ListN.{length, drop, replicate, length-replicate}
use lib.Seq.{sets-eq}
use Rattle.book.specs.declared.fault.Refusal.{Refusal}
use Rattle.named.specs.Trace.{Node, Trace, done, stopped, store, Run}
use Rattle.named.specs.Cut.{made, refused, cut, room, encode, image}
use Rattle.named.specs.Stores.{stored, comes, Gives, Stops}
use Rattle.named.proofs.Runs.{after_made}

-- a table of zeros
abbrev pub zeros : ℕ → List ℕ
zeros n = replicate n 0

drop_zeros : (n m : ℕ) → drop n (zeros m) ≡ zeros (m - n)
drop_zeros zero m = let e : m - 0 ≡ m = omega arith in rw e
drop_zeros (suc n) zero = let e : 0 - suc n ≡ 0 = omega arith in rw e
drop_zeros (suc n) (suc m) = let e : suc m - suc n ≡ m - n = omega arith in rw e (drop_zeros n m)

length_encode : (xs : List Node) → length (encode xs) ≡ 5 * length xs
unfolding encode
length_encode [] = refl
length_encode (x ∷ xs) = let h = length_encode xs in omega arith

stored_clear : (n : ℕ) (xs : List Node) → 5 * length xs ≤ n → stored (zeros n) 0 xs ≡ encode xs ++ zeros (n - length (encode xs))
unfolding stored
stored_clear n xs h =
    let e : 0 + length (encode xs) ≤ length (zeros n) = omega (arith, length_encode xs, length-replicate {A = ℕ} n 0) in
    sets-eq (encode xs) (zeros n) 0 e ∙ rw (zero-add, drop_zeros)

-- what fits has room
pub cut_fits : {A : Type 0} (l : ℕ) (τ : Trace A) (a : A) (xs : List Node) → cut l τ ≡ made a xs → length xs ≤ l
unfolding cut
cut_fits l (done b) a xs e = let z : xs ≡ [] = cc in rw z (omega arith)
cut_fits l (stopped s r) a xs e = let z : ◌≡◌ {A = ℕ} 0 1 = cc in absurd (omega arith)
cut_fits zero (store x τ) a xs e = let z : ◌≡◌ {A = ℕ} 0 1 = cc in absurd (omega arith)
cut_fits (suc l) (store x τ) a xs e =
    let q = after_made (x ∷ []) (cut l τ) a xs e in
    rw q.2 (omega (arith, cut_fits l τ a q.0 q.1))

module _ (n : ℕ) (m : Run ℕ) where
  from_clear : comes (zeros n) 0 m ≡ cut (room n) (m 0)
  from_clear = let z : room n - 0 ≡ room n = omega arith in rw (length-replicate, z)

  -- a result: its nodes and then zeros
  pub clear_gives : {a u : ℕ} {t' : List ℕ} → (g : Gives (zeros n) 0 m a u t') → (cut (room n) (m 0) ≡ made a g.nodes) × (u ≡ length g.nodes) × (t' ≡ image n (cut (room n) (m 0)))
  unfolding image room
  clear_gives {a} g =
      let e : cut (room n) (m 0) ≡ made a g.nodes = sym from_clear ∙ g.is in
      (e, g.next ∙ zero-add (length g.nodes), rw e (g.table ∙ stored_clear n g.nodes (omega (arith, cut_fits (room n) (m 0) a g.nodes e))))

  -- a refusal: zeros throughout
  pub clear_stops : {w : Refusal} → Stops (zeros n) 0 m w → (cut (room n) (m 0) ≡ refused w) × (zeros n ≡ image n (cut (room n) (m 0)))
  unfolding image
  clear_stops {w} s = let e : cut (room n) (m 0) ≡ refused w = sym from_clear ∙ s.is in (e, rw e refl)
