-- Types by their records: two are the same exactly where their records are, and what is learnt of a record that may be none.
-- Assumes nothing.
use Prim.Native.Nat.{ℕ}
use mathlib.Core.Bool.{Bool, true, false}
use mathlib.Core.List.{List}
use mathlib.Core.Option.{Option, some, none}
use mathlib.Core.Path.{◌≡◌, refl, sym, ap, ◌∙◌}
use native.Mathlib.Omega.{arith}
use borrow.Author.Tests.{eqb-true, eq-eqb}
use lib.Dec.{eqb}
use Rattle.laws.specs.Order.{by_lt}
use Rattle.simplicity.specs.Types.{Ty, same}
use Rattle.simplicity.proofs.Safe.{same_is, is_same}
use Rattle.book.specs.Format.{TYPE}
use Rattle.book.specs.Stands.{Stands}
use Rattle.book.specs.Tree.{type_of}
use Rattle.book.proofs.Types.{types_equal}
use Rattle.shapes.specs.Shapes.{is_there, is_at}
use Rattle.shapes.specs.Views.{Gives, nowhere, record_of}
use Rattle.std.specs.Prelude.{Option as Answer, Some, None, is_some}
use Rattle.std.specs.Option.{option_eq}

-- two tests are one where each follows from the other
pub one_test : (a b : Bool) → (a ≡ true → b ≡ true) → (b ≡ true → a ≡ true) → a ≡ b
one_test true b f g = sym (f refl)
one_test false true f g = g refl
one_test false false f g = refl

-- two types are the same either way round
pub same_turned : (a c : Ty) → same a c ≡ same c a
same_turned a c = one_test (same a c) (same c a) (λ e. is_same c a (sym (same_is a c e))) (λ e. is_same a c (sym (same_is c a e)))

module _ {b i : List ℕ} where
  -- types with equal trees are one record
  one_type : {t u : ℕ} → Stands b i t TYPE → Stands b i u TYPE → type_of b i t ≡ type_of b i u → t ≡ u
  one_type {t} {u} s r e = by_lt s.records r.records
      (λ o. (types_equal r.valid t u (omega (arith, s.inside)) r.inside s.is r.is).0 e)
      (λ o. (types_equal s.valid t u s.inside (omega (arith, r.inside)) s.is r.is).0 e)

  -- so a test of the numbers is one of the types
  pub types_same : {t u : ℕ} → Stands b i t TYPE → Stands b i u TYPE → eqb t u ≡ same (type_of b i t) (type_of b i u)
  types_same {t} {u} s r = one_test (eqb t u) (same (type_of b i t) (type_of b i u))
      (λ e. is_same (type_of b i t) (type_of b i u) (ap (type_of b i) (eqb-true t u e)))
      (λ e. eq-eqb t u (one_type s r (same_is (type_of b i t) (type_of b i u) e)))

  -- an answer that may be no type: against a type's record, and whether there is one
  pub gives_at : {o : Option Ty} {x : Answer ℕ} {u : ℕ} → Gives b i o x → Stands b i u TYPE → option_eq eqb x (Some u) ≡ is_at o (type_of b i u)
  unfolding is_at
  gives_at (nowhere e) r = rw e
  gives_at (record_of s e) r = rw e (types_same s r)

  pub gives_there : {o : Option Ty} {x : Answer ℕ} → Gives b i o x → is_some x ≡ is_there o
  unfolding is_there
  gives_there (nowhere e) = rw e
  gives_there (record_of s e) = rw e

  -- there is none; there is one, which stands
  pub gives_none : {o : Option Ty} → Gives b i o None → o ≡ none
  gives_none (nowhere e) = e

  pub gives_some : {o : Option Ty} {t : ℕ} → Gives b i o (Some t) → o ≡ some (type_of b i t)
  gives_some (record_of s e) = e

  pub gives_stands : {o : Option Ty} {t : ℕ} → Gives b i o (Some t) → Stands b i t TYPE
  gives_stands (record_of s e) = s

  -- so a test of the code's tells of the type
  pub tells_at : {o : Option Ty} {x : Answer ℕ} {u : ℕ} {t : Bool} → Gives b i o x → Stands b i u TYPE → t ≡ option_eq eqb x (Some u) → t ≡ is_at o (type_of b i u)
  tells_at g r e = e ∙ gives_at g r

  pub tells_there : {o : Option Ty} {x : Answer ℕ} {t : Bool} → Gives b i o x → t ≡ is_some x → t ≡ is_there o
  tells_there g e = e ∙ gives_there g
