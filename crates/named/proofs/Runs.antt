-- Laws of runs and of their cuts.
-- Assumes nothing.
use Prim.Native.Nat.{ℕ, zero, suc, ◌+◌, ◌*◌, ◌-◌}
use mathlib.Core.Path.{◌≡◌, refl, ap, ◌∙◌}
use mathlib.Core.List.{List, [], ◌∷◌, ◌++◌, append_assoc}
use native.Mathlib.Omega.{arith}
use native.Mathlib.Nat.{add-zero}
use lib.ListN.{length}
use Rattle.book.specs.declared.fault.Refusal.{Refusal}
use Rattle.named.specs.Trace.{Node, Trace, done, stopped, store, Run, pure, graft, bind}
use Rattle.named.specs.Cut.{Out, made, refused, after, cut, encode}
use Rattle.named.specs.Stores.{stored}

-- runs in a row are grouped either way
graft_graft : {A B C : Type 0} (τ : Trace A) (k : A → Run B) (l : B → Run C) (c : ℕ) → graft (graft τ k c) l c ≡ graft τ (λ a. bind (k a) l) c
unfolding graft bind
graft_graft (done a) k l c = refl
graft_graft (stopped s r) k l c = refl
graft_graft (store x τ) k l c = ap (store x) (graft_graft τ k l (suc c))

pub bind_bind : {A B C : Type 0} (m : Run A) (k : A → Run B) (l : B → Run C) → bind (bind m k) l ≡ bind m (λ a. bind (k a) l)
unfolding bind
bind_bind m k l = λ i c. graft_graft (m c) k l c i

pub bind_pure : {A B : Type 0} (a : A) (k : A → Run B) → bind (pure a) k ≡ k a
unfolding bind pure graft
bind_pure a k = refl

graft_done : {A : Type 0} (τ : Trace A) (c : ℕ) → graft τ pure c ≡ τ
unfolding graft pure
graft_done (done a) c = refl
graft_done (stopped s r) c = refl
graft_done (store x τ) c = ap (store x) (graft_done τ (suc c))

pub bind_done : {A : Type 0} (m : Run A) → bind m pure ≡ m
unfolding bind
bind_done m = λ i c. graft_done (m c) c i

-- a result is not a refusal
pub never : {A : Type 0} {a : A} {xs : List Node} {w : Refusal} → made a xs ≡ refused w → ⊥
never e = let z : ◌≡◌ {A = ℕ} 0 1 = cc in omega arith

after_after : {A : Type 0} (xs ys : List Node) (o : Out A) → after xs (after ys o) ≡ after (xs ++ ys) o
unfolding after
after_after xs ys (made a zs) = ap (made a) (rw append_assoc)
after_after xs ys (refused w) = refl

after_none : {A : Type 0} (o : Out A) → after [] o ≡ o
unfolding after
after_none (made a xs) = refl
after_none (refused w) = refl

pub after_made : {A : Type 0} (xs : List Node) (o : Out A) (a : A) (ys : List Node) → after xs o ≡ made a ys → (zs : List Node) × (o ≡ made a zs) × (ys ≡ xs ++ zs)
unfolding after
after_made xs (made b zs) a ys e = (zs, cc, cc)
after_made xs (refused w) a ys e = let z : ◌≡◌ {A = ℕ} 0 1 = cc in absurd (omega arith)

after_refused : {A : Type 0} (xs : List Node) (o : Out A) (w : Refusal) → after xs o ≡ refused w → o ≡ refused w
unfolding after
after_refused xs (made b zs) w e = absurd (never e)
after_refused xs (refused v) w e = e

module _ {A B : Type 0} (k : A → Run B) where
  -- what was made before, and then the rest in the room that is left
  pub cut_then : (τ : Trace A) (l c : ℕ) (a : A) (xs : List Node) → cut l τ ≡ made a xs → cut l (graft τ k c) ≡ after xs (cut (l - length xs) (k a (c + length xs)))
  unfolding cut graft
  cut_then (done b) l c a xs e =
      let p : a ≡ b = cc in
      let q : xs ≡ [] = cc in
      let z : l - 0 ≡ l = omega arith in
      rw (p, q, add-zero, z, after_none)
  cut_then (stopped s r) l c a xs e = let z : ◌≡◌ {A = ℕ} 0 1 = cc in absurd (omega arith)
  cut_then (store x τ) zero c a xs e = let z : ◌≡◌ {A = ℕ} 0 1 = cc in absurd (omega arith)
  cut_then (store x τ) (suc l) c a xs e =
      let q = after_made (x ∷ []) (cut l τ) a xs e in
      let n : c + suc (length q.0) ≡ suc c + length q.0 = omega arith in
      let d : suc l - suc (length q.0) ≡ l - length q.0 = omega arith in
      rw (q.2, n, d, cut_then τ l (suc c) a q.0 q.1, after_after)

  -- a refusal stays one
  pub cut_stop : (τ : Trace A) (l c : ℕ) (w : Refusal) → cut l τ ≡ refused w → cut l (graft τ k c) ≡ refused w
  unfolding cut graft after
  cut_stop (done a) l c w e = absurd (never e)
  cut_stop (stopped s r) l c w e = ap refused (cc)
  cut_stop (store x τ) zero c w e = ap refused (cc)
  cut_stop (store x τ) (suc l) c w e = rw (cut_stop τ l (suc c) w (after_refused (x ∷ []) (cut l τ) w e))

-- a node and then others; a row of nodes and then another
stored_next : (t : List ℕ) (c : ℕ) (x : Node) (xs : List Node) → stored t c (x ∷ xs) ≡ stored (stored t c (x ∷ [])) (suc c) xs
unfolding stored encode
stored_next t c x xs = let e : 5 * suc c ≡ suc (suc (suc (suc (suc (5 * c))))) = omega arith in rw e

stored_none : (t : List ℕ) (c : ℕ) → stored t c [] ≡ t
unfolding stored encode
stored_none t c = refl

pub stored_more : (t : List ℕ) (c : ℕ) (xs ys : List Node) → stored t c (xs ++ ys) ≡ stored (stored t c xs) (c + length xs) ys
stored_more t c [] ys = rw (stored_none, add-zero)
stored_more t c (x ∷ xs) ys =
    let e : c + suc (length xs) ≡ suc c + length xs = omega arith in
    stored_next t c x (xs ++ ys) ∙ stored_more (stored t c (x ∷ [])) (suc c) xs ys ∙ rw (e, stored_next t c x xs)
