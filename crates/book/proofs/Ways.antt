-- How the fields of a record are judged one by one, a law for each way through.
-- Assumes nothing.
use Prim.Native.Nat.{ℕ, suc, ◌+◌, ◌-◌, ◌≤◌, ◌<◌}
use mathlib.Core.Path.{◌≡◌, sym, ap, ◌∙◌}
use mathlib.Core.Bool.{Bool}
use mathlib.Core.List.{List}
use native.Mathlib.Omega.{arith}
use Rattle.std.specs.Prelude.{Result, Ok, Err}
use Rattle.book.specs.Read.{Verdict, good, bad, judge, fields, and_then}
use Rattle.book.specs.Ready.{verdict_of}
use Rattle.book.specs.declared.fault.Fault.{Fault}

module _ (b i ds : List ℕ) (r p k : ℕ) (nm : List Bool) (d : ℕ) where
  -- the verdict on a field, and what the code makes of it: refused, it refuses the record; else the next field goes on from there
  module _ (total : ℕ) (more : k < total) (v : Result ℕ Fault) (nm' : List Bool) (is : verdict_of v nm' ≡ judge b i ds r p k nm d) where
    field_judged : (w : Verdict) → verdict_of v nm' ≡ w → and_then w (λ l e. fields b i ds r p (k + 1) (total - (k + 1)) l e) ≡ fields b i ds r p k (total - k) nm d
    unfolding fields
    field_judged w e =
        let q : total - k ≡ suc (total - (k + 1)) = omega arith in
        let z : judge b i ds r p k nm d ≡ w = sym is ∙ e in
        rw (q, z)

    pub field_refused : (f : Fault) → v ≡ Err f → bad f ≡ fields b i ds r p k (total - k) nm d
    field_refused f e = field_judged (bad f) (ap (λ (u : Result ℕ Fault). verdict_of u nm') e)

    pub field_passed : (d' : ℕ) → v ≡ Ok d' → fields b i ds r p (k + 1) (total - (k + 1)) nm' d' ≡ fields b i ds r p k (total - k) nm d
    field_passed d' e = field_judged (good nm' d') (ap (λ (u : Result ℕ Fault). verdict_of u nm') e)

-- after the last field
pub fields_end : (b i ds : List ℕ) (r p k total : ℕ) (nm : List Bool) (d : ℕ) → total ≤ k → fields b i ds r p k (total - k) nm d ≡ good nm d
unfolding fields
fields_end b i ds r p k total nm d h = let q : total - k ≡ 0 = omega arith in rw q

-- from the first field on
pub fields_all : (b i ds : List ℕ) (r p t total : ℕ) (nm : List Bool) (d : ℕ) → t ≡ total → fields b i ds r p 0 (t - 0) nm d ≡ fields b i ds r p 0 total nm d
fields_all b i ds r p t total nm d e = let q : t - 0 ≡ total = omega arith in rw q
