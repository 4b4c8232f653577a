-- Laws of the names that were met, as the code counts them, and of the records that were found to have none.
-- Assumes nothing.
use Prim.Native.Nat.{ℕ, suc, ◌+◌, ◌*◌, ◌≤◌, ◌<◌}
use mathlib.Core.Bool.{Bool, true, false}
use mathlib.Core.List.{List, [], ◌∷◌}
use mathlib.Core.Path.{◌≡◌, refl, sym, ap, ◌∙◌}
use native.Mathlib.Omega.{arith}
use borrow.Author.Tests.{eqb-true, eqb-false, eq-eqb, ne_eqb}
use lib.Dec.{eqb}
use lib.ListN.{length, get_or, set, replicate, length-set}
use lib.Seq.{get_or-set_same, get_or-set_other}
use Rattle.laws.specs.Table.{pick, true_false}
use Rattle.book.specs.Stands.{Stands}
use Rattle.book.specs.Tree.{pattern_of}
use Rattle.book.proofs.Standing.{stands_few}
use Rattle.pattern.proofs.Memos.{filled_at, filled_size}
use Rattle.binders.specs.Binders.{names, twice}
use Rattle.binders.specs.Memos.{Met, met, Nameless, times, Tally, Notes}
use Rattle.binders.specs.declared.Noted.{Noted}
use Rattle.binders.specs.declared.Noted.TheVariants as notes
use Rattle.binders.proofs.Names.{times_both, times_one, twice_yes, twice_no, after, after_next, after_none}

-- a row of zeros has no name, and a row of false knows no record
pub met_none : (ns : List ℕ) → ns ≡ replicate 65536 0 → Met 0 ns
met_none ns e = record { size = filled_size 0 65536 e; most = λ x. omega (arith, filled_at 0 65536 e x) }

pub nameless_none : (ms : List Bool) (b i : List ℕ) → ms ≡ replicate 4096 false → Nameless b i ms
nameless_none ms b i e = record {
  size = filled_size false 4096 e;
  sound = λ r z. absurd (true_false (sym z ∙ filled_at false 4096 e r));
}

-- one more record without names
pub nameless_more : {b i : List ℕ} {ms : List Bool} → Nameless b i ms → (p : ℕ) → names (pattern_of b i p) ≡ [] → Nameless b i (set ms p true)
nameless_more {b} {i} {ms} m p e = record { size = length-set ms p true ∙ m.size; sound = λ r z. go r z (eqb r p) refl }
  where
    go : (r : ℕ) → get_or (set ms p true) r false ≡ true → (t : Bool) → eqb r p ≡ t → names (pattern_of b i r) ≡ []
    go r z true q = rw (eqb-true r p q) e
    go r z false q = m.sound r (sym (get_or-set_other ms p r true false (eqb-false r p q)) ∙ z)

-- that row has an entry for a record that stands
pub nameless_fits : {b i : List ℕ} {ms : List Bool} {p kd : ℕ} → Nameless b i ms → Stands b i p kd → p < length ms
nameless_fits m s = omega (arith, stands_few s, m.size)

-- a name that was met with this stamp, and one that was not
met_yes : (stamp x : ℕ) (ns : List ℕ) → get_or ns x 0 ≡ stamp → met stamp ns x ≡ 1
unfolding met
met_yes stamp x ns e = rw (eq-eqb _ _ e)

met_not : (stamp x : ℕ) (ns : List ℕ) → (get_or ns x 0 ≡ stamp → ⊥) → met stamp ns x ≡ 0
unfolding met
met_not stamp x ns f = rw (ne_eqb _ _ f)

met_once : (stamp x : ℕ) (ns : List ℕ) → met stamp ns x ≤ 1
unfolding met
met_once stamp x ns = go (eqb (get_or ns x 0) stamp)
  where
    go : (t : Bool) → pick t 1 0 ≤ 1
    go true = omega arith
    go false = omega arith

-- with a stamp that is new, no name was met yet
module _ {k stamp : ℕ} {ns : List ℕ} (m : Met k ns) (e : stamp ≡ k + 1) where
  pub met_next : Met stamp ns
  met_next = record { size = m.size; most = λ x. omega (arith, m.most x) }

  pub met_fresh : (x : ℕ) → met stamp ns x ≡ 0
  met_fresh x = met_not stamp x ns (λ z. omega (arith, m.most x))

-- a name that was met before, and one that is new
module _ {stamp : ℕ} {ns : List ℕ} (m : Met stamp ns) (x : ℕ) where
  pub notes_again : get_or ns x 0 ≡ stamp → Notes stamp (x ∷ []) ns notes.Twice ns
  unfolding Tally
  notes_again e = record { row = m; tally = (x, omega (arith, times_one x, met_yes stamp x ns e)) }

  pub notes_new : x < length ns → (get_or ns x 0 ≡ stamp → ⊥) → Notes stamp (x ∷ []) ns notes.Named (set ns x stamp)
  unfolding Tally times met
  notes_new h f = record { row = record { size = length-set ns x stamp ∙ m.size; most = λ y. most y (eqb y x) refl }; tally = λ y. go y (eqb y x) refl }
    where
      most : (y : ℕ) (t : Bool) → eqb y x ≡ t → get_or (set ns x stamp) y 0 ≤ stamp
      most y true e = rw (eqb-true y x e, get_or-set_same ns x stamp 0 h) (omega arith)
      most y false e = rw (get_or-set_other ns x y stamp 0 (eqb-false y x e)) (m.most y)

      go : (y : ℕ) (t : Bool) → eqb y x ≡ t → pick (eqb (get_or (set ns x stamp) y 0) stamp) 1 0 ≡ pick (eqb (get_or ns y 0) stamp) 1 0 + (pick t 1 0 + 0)
      go y true e = rw (eqb-true y x e, get_or-set_same ns x stamp 0 h, eq-eqb stamp stamp refl, ne_eqb (get_or ns x 0) stamp f)
      go y false e = rw (get_or-set_other ns x y stamp 0 (eqb-false y x e)) (omega arith)

-- no names
pub notes_none : {stamp : ℕ} {xs ns : List ℕ} → Met stamp ns → xs ≡ [] → Notes stamp xs ns notes.Unnamed ns
unfolding Tally
notes_none m e = record { row = m; tally = (e, refl) }

-- the names xs are met on top of ns: of those in a row's n elements, f, only those from element k on are left, and the row of names is
-- ns' now. Where `any` fails, there was none yet
pub record Meets (stamp : ℕ) (xs ns : List ℕ) (s : ℕ) (f : ℕ → List ℕ) (h n k : ℕ) (any : Bool) (ns' : List ℕ) : Type 0 where
  pub row : Met stamp ns'
  pub sum : (x : ℕ) → met stamp ns' x + times x (after s f h n k) ≡ met stamp ns x + times x xs
  pub none : any ≡ false → (xs ≡ after s f h n k) × (ns' ≡ ns)

-- no element was met yet
pub meets_none : {stamp : ℕ} {xs ns : List ℕ} {s h n : ℕ} {f : ℕ → List ℕ} {any : Bool} → Met stamp ns → xs ≡ after s f h n 0 → Meets stamp xs ns s f h n 0 any ns
meets_none m e = record { row = m; sum = λ x. omega (arith, ap (times x) e); none = λ z. (e, refl) }

module _ {stamp : ℕ} {xs ns : List ℕ} {s h n k : ℕ} {f : ℕ → List ℕ} {any : Bool} {ns₁ : List ℕ} (m : Meets stamp xs ns s f h n k any ns₁) where
  -- all elements were met, and there were names, or none
  all_met : n ≤ k → (x : ℕ) → met stamp ns₁ x ≡ met stamp ns x + times x xs
  unfolding times
  all_met o x = let e : times x (after s f h n k) ≡ 0 = rw (after_none s f h n k o) in omega (arith, m.sum x)

  pub meets_named : n ≤ k → Notes stamp xs ns notes.Named ns₁
  unfolding Tally
  meets_named o = record { row = m.row; tally = all_met o }

  pub meets_nameless : n ≤ k → any ≡ false → (xs ≡ []) × Notes stamp xs ns notes.Unnamed ns₁
  meets_nameless o e =
      let z : xs ≡ [] = (m.none e).0 ∙ after_none s f h n k o in
      (z, rw (← (m.none e).1) (notes_none m.row z))

  -- one element more
  module _ (j : ℕ) (o : k < n) (e : j ≡ h + k * s) {t : Noted} {ns₂ : List ℕ} (d : Notes stamp (f j) ns₁ t ns₂) where
    split : (x : ℕ) → times x (after s f h n k) ≡ times x (f j) + times x (after s f h n (suc k))
    split x = ap (times x) (after_next s f h n k j o e) ∙ times_both x (f j) (after s f h n (suc k))

    -- it has a name that was met before
    pub meets_twice : t ≡ notes.Twice → Notes stamp xs ns notes.Twice ns₂
    unfolding Tally
    meets_twice z =
        let w : Tally stamp (f j) ns₁ notes.Twice ns₂ = rw z at d.tally in
        record { row = d.row; tally = (w.0, omega (arith, w.1, m.sum w.0, split w.0)) }

    module _ (u : ℕ) (y : u ≡ k + 1) {any' : Bool} where
      -- it has new names
      pub meets_more : t ≡ notes.Named → any' ≡ true → Meets stamp xs ns s f h n u any' ns₂
      unfolding Tally
      meets_more z v =
          let w : Tally stamp (f j) ns₁ notes.Named ns₂ = rw z at d.tally in
          let q : u ≡ suc k = omega arith in
          record {
            row = d.row;
            sum = λ x. rw q (omega (arith, w x, m.sum x, split x));
            none = λ g. absurd (true_false (sym v ∙ g));
          }

      -- it has none
      pub meets_same : t ≡ notes.Unnamed → any' ≡ any → Meets stamp xs ns s f h n u any' ns₂
      unfolding Tally
      meets_same z v =
          let w : Tally stamp (f j) ns₁ notes.Unnamed ns₂ = rw z at d.tally in
          let q : u ≡ suc k = omega arith in
          let r : after s f h n k ≡ after s f h n u = after_next s f h n k j o e ∙ rw (w.0, q) in
          record {
            row = d.row;
            sum = λ x. rw (w.1, ← r) (m.sum x);
            none = λ g. let p = m.none (sym v ∙ g) in (p.0 ∙ r, w.1 ∙ p.1);
          }

-- names that were met on top of none: one stands twice, or all were new, or there are none
module _ {stamp : ℕ} {xs ns ns' : List ℕ} {t : Noted} (d : Notes stamp xs ns t ns') (e : (x : ℕ) → met stamp ns x ≡ 0) where
  pub notes_twice : t ≡ notes.Twice → twice xs ≡ true
  unfolding Tally
  notes_twice z =
      let w : Tally stamp xs ns notes.Twice ns' = rw z at d.tally in
      twice_yes w.0 xs (omega (arith, w.1, e w.0))

  pub notes_new_all : t ≡ notes.Named → twice xs ≡ false
  unfolding Tally
  notes_new_all z =
      let w : Tally stamp xs ns notes.Named ns' = rw z at d.tally in
      twice_no xs (λ x. omega (arith, w x, met_once stamp x ns', e x))

  pub notes_empty : t ≡ notes.Unnamed → twice xs ≡ false
  unfolding Tally twice
  notes_empty z =
      let w : Tally stamp xs ns notes.Unnamed ns' = rw z at d.tally in
      rw w.0
