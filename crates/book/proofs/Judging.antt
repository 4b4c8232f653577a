-- What is known of a field that READ judges good.
-- Assumes nothing.
use Prim.Native.Nat.{ℕ, zero, suc, ◌+◌, ◌*◌, ◌<◌}
use mathlib.Core.Bool.{Bool, true, false}
use mathlib.Core.Path.{◌≡◌, refl, ap, ◌∙◌}
use mathlib.Core.List.{List}
use mathlib.Core.Logic.{⊎_elim}
use native.Mathlib.Omega.{arith}
use native.Mathlib.Nat.{eq-or-lt_of_le}
use lib.ListN.{length, get_or, set, length-set}
use lib.Dec.{T, eqb}
use borrow.Author.Tests.{ltb-true, eqb-true}
use Rattle.laws.specs.Table.{pick}
use Rattle.book.specs.Format.{word_at, in_range}
use Rattle.book.specs.Read.{kind_at, role_at, field_at, names, Verdict, good, bad, and_then, deeper, once, refer, judge, fields}
use Rattle.book.specs.Index.{single}
use Rattle.book.specs.declared.fault.Fault.{Fault}
use Rattle.book.proofs.Picks.{first, second, both_true, bad_good}

-- the kind of the record that field k of the record at p names, 0 where it names none
abbrev pub names_at : List ℕ → ℕ → ℕ → ℕ
names_at b p k = names (role_at b p k) (field_at b p k)

-- a test whose failure is a fault has passed
passed : (t : Bool) (v : Verdict) (f : Fault) (nm : List Bool) (d : ℕ) → pick t v (bad f) ≡ good nm d → (t ≡ true) × (v ≡ good nm d)
passed t v f nm d e = first t v (bad f) (good nm d) (bad_good f nm d) e

-- what holds below k and of k
pub up_to : (Q : ℕ → Type 0) (k : ℕ) → ((j : ℕ) → j < k → Q j) → Q k → (j : ℕ) → j < k + 1 → Q j
up_to Q k h q j l = ⊎_elim (λ (e : j ≡ k). rw e q) (λ z. h j z) (eq-or-lt_of_le (omega arith))

-- a field of kind kd and number x, judged where nm were named, leaves nm'
pub data Noted (kd x : ℕ) (nm nm' : List Bool) : Type 0 where
  marks : single kd ≡ true → get_or nm x false ≡ false → nm' ≡ set nm x true → Noted kd x nm nm'
  skips : single kd ≡ false → nm' ≡ nm → Noted kd x nm nm'

-- field k of record r at p has its number in range, and what it names is earlier and of the kind
pub record Fits (b i : List ℕ) (r p k : ℕ) : Type 0 where
  pub ranged : T (in_range (role_at b p k) (word_at b (p + 2 * k)) (field_at b p k))
  pub earlier : (names_at b p k ≡ 0 → ⊥) → field_at b p k < r
  pub kinds : (names_at b p k ≡ 0 → ⊥) → kind_at b (get_or i (field_at b p k) 0) ≡ names_at b p k

-- what `judge` found of that field, and what it answers
pub record Judges (b i ds : List ℕ) (r p k : ℕ) (nm : List Bool) (d : ℕ) (nm' : List Bool) (d' : ℕ) : Type 0 where
  pub fits : Fits b i r p k
  pub noted : Noted (names_at b p k) (field_at b p k) nm nm'
  pub deep : d' ≡ pick (eqb (names_at b p k) 0) d (deeper d (get_or ds (field_at b p k) 0))

-- the answer for a field that names a record of kind kd
noted : (t : Bool) (kd x : ℕ) (nm nm' : List Bool) (d d' : ℕ) → single kd ≡ t → pick t (once nm x d) (good nm d) ≡ good nm' d' → Noted kd x nm nm' × (d' ≡ d)
unfolding once
noted true kd x nm nm' d d' z e = let h = second _ _ _ _ (bad_good _ nm' d') e in (marks z h.0 (cc), cc)
noted false kd x nm nm' d d' z e = (skips z (cc), cc)

module _ (b i ds : List ℕ) (r p k : ℕ) (nm : List Bool) (d : ℕ) (nm' : List Bool) (d' : ℕ) where
  -- the same, by whether the field names a record
  judged : (t : Bool) → eqb (names_at b p k) 0 ≡ t
      → in_range (role_at b p k) (word_at b (p + 2 * k)) (field_at b p k) ≡ true
      → pick t (good nm d) (refer b i ds r (names_at b p k) (field_at b p k) nm d) ≡ good nm' d'
      → Judges b i ds r p k nm d nm' d'
  unfolding refer
  judged true z g e =
      let q = eqb-true _ _ z in
      record { fits = record { ranged = rw g tt; earlier = λ n. absurd (n q); kinds = λ n. absurd (n q) }; noted = skips (rw q) (cc); deep = rw z (cc) }
  judged false z g e =
      let h = passed _ _ _ nm' d' e in
      let t = both_true _ _ h.0 in
      let w = noted _ (names_at b p k) _ nm nm' _ d' refl h.1 in
      record { fits = record { ranged = rw g tt; earlier = λ n. ltb-true _ _ t.0; kinds = λ n. eqb-true _ _ t.1 }; noted = w.0; deep = rw z w.1 }

  -- a field that is judged good
  pub judge_good : judge b i ds r p k nm d ≡ good nm' d' → Judges b i ds r p k nm d nm' d'
  unfolding judge
  judge_good e = let h = passed _ _ _ nm' d' e in judged _ refl h.0 h.1

-- a row of names keeps its length
pub noted_length : (kd x : ℕ) (nm nm' : List Bool) → Noted kd x nm nm' → length nm' ≡ length nm
noted_length kd x nm nm' (marks o z e) = ap length e ∙ simp length-set
noted_length kd x nm nm' (skips o e) = ap length e

-- the first of the fields from k on was judged good, and then the others
pub record Goes (b i ds : List ℕ) (r p k left : ℕ) (nm : List Bool) (d : ℕ) (nm' : List Bool) (d' : ℕ) : Type 0 where
  pub noted : List Bool
  pub deep : ℕ
  pub first : Judges b i ds r p k nm d noted deep
  pub others : fields b i ds r p (k + 1) left noted deep ≡ good nm' d'

module _ (b i ds : List ℕ) (r p k left : ℕ) (nm : List Bool) (d : ℕ) (nm' : List Bool) (d' : ℕ) where
  -- the same, by the verdict on the first
  goes : (v : Verdict) → judge b i ds r p k nm d ≡ v → and_then v (λ nm d. fields b i ds r p (k + 1) left nm d) ≡ good nm' d' → Goes b i ds r p k left nm d nm' d'
  goes (good x y) z e = record { noted = x; deep = y; first = judge_good b i ds r p k nm d x y z; others = e }
  goes (bad f) z e = absurd (bad_good f nm' d' e)

  -- fields that are judged good, one by one
  pub fields_good : fields b i ds r p k (suc left) nm d ≡ good nm' d' → Goes b i ds r p k left nm d nm' d'
  unfolding fields
  fields_good e = goes _ refl e

-- what every good field keeps holds after the last of them
module _ (b i ds : List ℕ) (r p n : ℕ) (P : ℕ → List Bool → ℕ → Type 0)
    (keeps : (k : ℕ) (nm : List Bool) (d : ℕ) (nm' : List Bool) (d' : ℕ) → k < n → Judges b i ds r p k nm d nm' d' → P k nm d → P (k + 1) nm' d') where
  pub fields_keep : (k left : ℕ) (nm : List Bool) (d : ℕ) (nm' : List Bool) (d' : ℕ) → k + left ≡ n → fields b i ds r p k left nm d ≡ good nm' d' → P k nm d → P n nm' d'
  unfolding fields
  fields_keep k zero nm d nm' d' z e h =
      let q : k ≡ n = omega arith in
      let x : nm ≡ nm' = cc in
      let y : d ≡ d' = cc in
      rw (q, x, y) at h
  fields_keep k (suc left) nm d nm' d' z e h =
      let g = fields_good b i ds r p k left nm d nm' d' e in
      fields_keep (k + 1) left _ _ nm' d' (omega arith) g.others (keeps k nm d _ _ (omega arith) g.first h)

module _ (b i ds : List ℕ) (r p n : ℕ) (nm : List Bool) (d : ℕ) (nm' : List Bool) (d' : ℕ) (e : fields b i ds r p 0 n nm d ≡ good nm' d') where
  -- so does the length of the row of names
  pub fields_length : length nm' ≡ length nm
  fields_length = fields_keep b i ds r p n (λ k l f. length l ≡ length nm) (λ k l f l' f' h j z. noted_length _ _ l l' j.noted ∙ z) 0 n nm d nm' d' (omega arith) e refl

  -- and each field fits
  pub fields_fit : (k : ℕ) → k < n → Fits b i r p k
  fields_fit = fields_keep b i ds r p n (λ k l f. (j : ℕ) → j < k → Fits b i r p j) (λ k l f l' f' h j z. up_to (λ x. Fits b i r p x) k z j.fits) 0 n nm d nm' d' (omega arith) e (λ j z. absurd (omega arith))
