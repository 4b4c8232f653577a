-- Chains of types: alike types have one chain, so a walk along it finds what is alike.
-- Assumes nothing.
use Prim.Native.Nat.{ℕ, ◌+◌, ◌*◌, ◌-◌, ◌%◌, ◌≤◌, ◌<◌}
use mathlib.Core.Bool.{Bool, true, false}
use mathlib.Core.List.{List}
use mathlib.Core.Path.{◌≡◌, refl, sym, ◌∙◌}
use native.Mathlib.Decide.{ℕ_discrete}
use native.Mathlib.Nat.{mod-lt}
use native.Mathlib.Omega.{arith}
use borrow.Author.Tests.{eqb-true, eq-eqb, ne_eqb}
use lib.Dec.{eqb}
use lib.ListN.{get_or}
use Rattle.std.proofs.lemmas.Bool.{false_from_ne_true}
use Rattle.laws.specs.Table.{pick, below, some, true_false}
use Rattle.book.specs.Format.{word_at, kind_of, TYPE, TU}
use Rattle.book.specs.Read.{mark_at, kind_at, total_at, field_at, alike, repeats}
use Rattle.book.specs.Ready.{Opens, Rows, chain_of, Reaches, here, later, Chained}
use Rattle.book.specs.declared.read.Frame.{Frame}
use Rattle.book.specs.declared.read.Reader.{Reader}
use Rattle.book.proofs.Alikes.{two_fields, first_field, second_field, repeats_some}
use Rattle.book.proofs.Picks.{both_true}
use Rattle.book.proofs.Unlike.{letters_same, marks_same, kinds_same, none_some, some_false}

module _ (b : List ℕ) (p : ℕ) where
  -- the key of a type with two fields
  abbrev key : ℕ
  key = 67 * word_at b (p + 2) + 2 * word_at b (p + 4) + mark_at b p

  -- there are 1,024 chains
  pub chain_within : chain_of b p < 1024
  unfolding chain_of
  chain_within = go (eqb (mark_at b p) TU)
    where
      go : (t : Bool) → pick t 0 (key % 1024) < 1024
      go true = omega arith
      go false = omega (arith, mod-lt key {m = 1024} (omega arith))

  -- unit's chain, and the chain of any other type
  pub chain_none : mark_at b p ≡ TU → 0 ≡ chain_of b p
  unfolding chain_of
  chain_none e = rw (eq-eqb (mark_at b p) TU e)

  pub chain_two : (mark_at b p ≡ TU → ⊥) → key % 1024 ≡ chain_of b p
  unfolding chain_of
  chain_two n = rw (ne_eqb (mark_at b p) TU n)

-- alike types have the same fields
same_fields : (b : List ℕ) (p q : ℕ) → alike b p q ≡ true → total_at b p ≡ 2 → (field_at b p 0 ≡ field_at b q 0) × (field_at b p 1 ≡ field_at b q 1)
unfolding alike
same_fields b p q a t =
    let w : below (λ k. eqb (field_at b p k) (field_at b q k)) (total_at b p) ≡ true = (both_true (eqb (word_at b p) (word_at b q)) _ a).1 in
    let v = both_true _ _ (rw t at w) in
    (eqb-true _ _ (both_true _ _ v.1).0, eqb-true _ _ v.0)

-- and so the same chain
chain_alike : (b : List ℕ) (p q : ℕ) → kind_at b p ≡ TYPE → alike b p q ≡ true → chain_of b p ≡ chain_of b q
unfolding kind_at
chain_alike b p q k a = go (ℕ_discrete (mark_at b p) TU)
  where
    m : mark_at b p ≡ mark_at b q
    m = marks_same b p q (letters_same b p q a)

    go : Dec (mark_at b p ≡ TU) → chain_of b p ≡ chain_of b q
    go (yes u) = sym (chain_none b p u) ∙ chain_none b q (sym m ∙ u)
    go (no u) =
        let w = same_fields b p q a (two_fields b p (mark_at b p) refl k u) in
        let f : word_at b (p + 2) ≡ word_at b (q + 2) = sym (first_field b p) ∙ w.0 ∙ first_field b q in
        let s : word_at b (p + 4) ≡ word_at b (q + 4) = sym (second_field b p) ∙ w.1 ∙ second_field b q in
        sym (chain_two b p u) ∙ rw (f, s, m) (chain_two b q (λ e. u (m ∙ e)))

-- a test that passes somewhere below n
some_at : (f : ℕ → Bool) (n k : ℕ) → k < n → f k ≡ true → some f n ≡ true
some_at f n k h e = go (some f n) refl
  where
    go : (t : Bool) → some f n ≡ t → some f n ≡ true
    go true q = q
    go false q = absurd (true_false (sym e ∙ none_some f n q k h))

-- no chain goes on at 0
ends : (ls : List ℕ) (j n : ℕ) → n ≡ 0 → Reaches ls j n → ⊥
ends ls j n z (here e) = omega arith
ends ls j n z (later h w) = omega arith

-- the walk for the type of frame f has come to n: whatever is alike is still to come
pub record Walk (b : List ℕ) (s : Reader) (r : ℕ) (f : Frame) (n : ℕ) : Type 0 where
  pub rows : Rows b s.index r
  pub chained : Chained b s r
  pub opens : Opens b f
  pub kind : kind_of f.mark ≡ TYPE
  pub within : n ≤ r
  pub ahead : (k : ℕ) → k < r → alike b f.at (get_or s.index k 0) ≡ true → Reaches s.links k n

-- it begins at the newest of the chain
pub walk_start : {b : List ℕ} {s : Reader} {r : ℕ} {f : Frame} → Rows b s.index r → Chained b s r → Opens b f → kind_of f.mark ≡ TYPE → (h : ℕ) → h ≡ chain_of b f.at → Walk b s r f (get_or s.heads h 0)
unfolding kind_at
walk_start {b} {s} {r} {f} w c o k h e =
    let t : kind_at b f.at ≡ TYPE = rw (← o.mark) k in
    record {
      rows = w;
      chained = c;
      opens = o;
      kind = k;
      within = c.begins h;
      ahead = λ j l a. rw (e, chain_alike b f.at (get_or s.index j 0) t a) (c.reached j l (sym (kinds_same b f.at (get_or s.index j 0) (letters_same b f.at (get_or s.index j 0) a)) ∙ t));
    }

module _ {b : List ℕ} {s : Reader} {r : ℕ} {f : Frame} {n : ℕ} (g : Walk b s r f n) where
  -- no more is to come
  pub walk_none : n ≤ 0 → false ≡ repeats b s.index r f.at
  walk_none z = repeats_some b s.index r f.at f.mark g.opens.mark g.kind false (some_false (λ j. alike b f.at (get_or s.index j 0)) r (λ j l. false_from_ne_true _ (λ a. ends s.links j n (omega arith) (g.ahead j l a))))

  -- the record that it has come to is alike
  pub walk_found : 0 < n → alike b f.at (get_or s.index (n - 1) 0) ≡ true → true ≡ repeats b s.index r f.at
  walk_found h e = repeats_some b s.index r f.at f.mark g.opens.mark g.kind true (some_at (λ j. alike b f.at (get_or s.index j 0)) r (n - 1) (omega (arith, g.within)) e)
