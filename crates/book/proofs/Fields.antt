-- The roll through the fields of one record, and when READ judges all of them good.
-- Assumes nothing.
use Prim.Native.Nat.{ℕ, zero, suc, ◌+◌, ◌*◌, ◌<◌}
use mathlib.Core.Bool.{Bool, true, false}
use mathlib.Core.Path.{◌≡◌, refl, sym, ◌∙◌}
use mathlib.Core.List.{List}
use native.Mathlib.Omega.{arith}
use lib.ListN.{length, get_or}
use lib.Dec.{T, eqb}
use borrow.Author.Tests.{eqb-false, lt-ltb, eq-eqb}
use Rattle.std.proofs.lemmas.Bool.{false_from_ne_true}
use Rattle.laws.specs.Table.{pick, true_false}
use Rattle.book.specs.Format.{word_at, in_range}
use Rattle.book.specs.Read.{total_at, role_at, field_at, Verdict, good, bad, once, refer, judge, fields}
use Rattle.book.specs.Index.{single}
use Rattle.book.specs.Valid.{Uses}
use Rattle.book.specs.declared.fault.Fault.TheVariants.{Number}
use Rattle.book.proofs.Judging.{names_at, Fits, Judges, judge_good, noted_length, fields_keep}
use Rattle.book.proofs.Extends.{Extends}
use Rattle.book.proofs.Names.{Names, Roll, roll_field, roll_next}

-- a verdict that is good
pub record Good (v : Verdict) : Type 0 where
  pub named : List Bool
  pub deep : ℕ
  pub is : v ≡ good named deep

-- a test that holds, and then a good verdict
tested : (t : Bool) (v w : Verdict) → T t → Good v → Good (pick t v w)
tested true v w h g = g
tested false v w h g = absurd h

-- a field that fits is judged good, unless it names again what may be named once
module _ (b i ds : List ℕ) (r p k : ℕ) (nm : List Bool) (d : ℕ) (f : Fits b i r p k) (new : single (names_at b p k) ≡ true → get_or nm (field_at b p k) false ≡ false) where
  -- it is named for the first time, or may be named again
  once_can : (t : Bool) (e : ℕ) → single (names_at b p k) ≡ t → Good (pick t (once nm (field_at b p k) e) (good nm e))
  unfolding once
  once_can true e o = rw (new o) (record { named = _; deep = _; is = refl })
  once_can false e o = record { named = _; deep = _; is = refl }

  -- it names no record, or one that is earlier and of the kind
  refer_can : (t : Bool) → eqb (names_at b p k) 0 ≡ t → Good (pick t (good nm d) (refer b i ds r (names_at b p k) (field_at b p k) nm d))
  unfolding refer
  refer_can true z = record { named = _; deep = _; is = refl }
  refer_can false z =
      let n = eqb-false _ _ z in
      rw (lt-ltb _ _ (f.earlier n), eq-eqb _ _ (f.kinds n)) (once_can _ _ refl)

  -- its number is in range, and what it names is right
  judge_can : Good (judge b i ds r p k nm d)
  unfolding judge
  judge_can = tested (in_range (role_at b p k) (word_at b (p + 2 * k)) (field_at b p k)) _ (bad Number) f.ranged (refer_can _ refl)

-- before field k of record r the roll has its length, and says what is named
pub record Tracks (b j : List ℕ) (r k : ℕ) (nm : List Bool) : Type 0 where
  pub long : length nm ≡ 4096
  pub roll : Roll b j r k nm

-- the record r at p, judged with the index i, where j has its place and those before it
module _ (b i j ds : List ℕ) (r p : ℕ) (x : Extends i j r p) (few : r < 4096) where
  -- one more field
  tracks_field : (k : ℕ) (nm : List Bool) (d : ℕ) (nm' : List Bool) (d' : ℕ) → k < total_at b p → Judges b i ds r p k nm d nm' d' → Tracks b j r k nm → Tracks b j r (k + 1) nm'
  tracks_field k nm d nm' d' l f w =
      let e = x.new in
      record {
        long = noted_length _ _ nm nm' f.noted ∙ w.long;
        roll = roll_field b j r k nm nm' (rw e l) (rw e (λ n. let g = f.fits.earlier n in let m = w.long in omega arith)) (rw e f.noted) w.roll;
      }

  -- the roll after the last field
  pub tracks_fields : (nm nm' : List Bool) (d : ℕ) → Tracks b j r 0 nm → fields b i ds r p 0 (total_at b p) nm 0 ≡ good nm' d → Tracks b j (r + 1) 0 nm'
  tracks_fields nm nm' d w e =
      let q = fields_keep b i ds r p (total_at b p) (λ k l f. Tracks b j r k l) tracks_field 0 (total_at b p) nm 0 nm' d (omega arith) e w in
      record { long = q.long; roll = roll_next b j r nm' (rw x.new q.roll) }

  -- the fields that fit are judged good, if none names what an earlier one does
  module _ (fit : (k : ℕ) → k < total_at b p → Fits b i r p k) (lone : (k s l y : ℕ) → Names b j r k s l y → Uses b j r k y → ⊥) where
    -- what such a field names is not on the roll
    unnamed : (k : ℕ) (nm : List Bool) → k < total_at b p → Roll b j r k nm → single (names_at b p k) ≡ true → get_or nm (field_at b p k) false ≡ false
    unnamed k nm l w o = false_from_ne_true _ (λ t.
        let u = w.used _ (λ z. true_false (sym t ∙ z)) in
        let e = x.new in
        lone k _ _ _ u.names (record { inside = rw e l; once = rw e o; is = rw e }))

    -- the fields from k on
    fields_from : (k left : ℕ) (nm : List Bool) (d : ℕ) → k + left ≡ total_at b p → Tracks b j r k nm → Good (fields b i ds r p k left nm d)
    unfolding fields
    fields_from k zero nm d z w = record { named = nm; deep = d; is = refl }
    fields_from k (suc left) nm d z w =
        let l : k < total_at b p = omega arith in
        let g = judge_can b i ds r p k nm d (fit k l) (unnamed k nm l w.roll) in
        let h = fields_from (k + 1) left g.named g.deep (omega arith) (tracks_field k nm d _ _ l (judge_good b i ds r p k nm d _ _ g.is) w) in
        record { named = h.named; deep = h.deep; is = rw g.is h.is }

    -- all of them
    pub fields_can : (nm : List Bool) → Tracks b j r 0 nm → Good (fields b i ds r p 0 (total_at b p) nm 0)
    fields_can nm w = fields_from 0 (total_at b p) nm 0 (omega arith) w
