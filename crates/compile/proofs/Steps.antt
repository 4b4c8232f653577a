-- Laws of bindings and of a row's elements, one at a time.
-- Assumes nothing.
use Prim.Native.Nat.{ℕ, suc, ◌+◌, ◌*◌, ◌-◌, ◌≤◌, ◌<◌}
use mathlib.Core.Bool.{Bool}
use mathlib.Core.Path.{◌≡◌, refl}
use mathlib.Core.List.{List, [], ◌∷◌, ◌++◌, append_assoc, append-nil}
use native.Mathlib.Omega.{arith}
use native.Mathlib.Nat.{mul-add}
use native.Mathlib.Numerals.{add-one}
use borrow.Author.Tests.{lt-ltb, le-ltb}
use lib.ListN.{length, take, set}
use lib.Seq.{take-suc-set}
use Rattle.std.proofs.lemmas.List.{take_all}
use Rattle.std.specs.Prelude.{Result, Ok, Err}
use Rattle.book.specs.Faults.{refusal}
use Rattle.book.specs.Tree.{Pat}
use Rattle.book.specs.declared.fault.Fault.TheVariants.{Bindings}
use Rattle.book.specs.declared.fault.Refusal.{Refusal}
use Rattle.book.proofs.Built.{group_next, group_none}
use Rattle.named.specs.Trace.{Run, pure, bind, bindings}
use Rattle.named.specs.Stores.{Done, Fills}
use Rattle.named.specs.Table.{Table}
use Rattle.named.proofs.Storing.{done_stop, fill_none, fill_next, fill_halt, fill_any}
use Rattle.compile.specs.Lower.{binding_at}
use Rattle.compile.specs.Cycle.{element_run, elements_run}

-- a binding that there is room for, and one too many, where so many are live
pub at_fits : (live r : ℕ) {t t' : Table} {m : Run ℕ} {s : Result ℕ Refusal} → live < 256 → Done t m s t' → Done t (binding_at r live m) s t'
at_fits live r h d = rw (lt-ltb live 256 h) d

pub at_full : (live : ℕ) (t : Table) (r : ℕ) (m : Run ℕ) → 256 ≤ live → Done t (binding_at r live m) (Err (refusal Bindings r)) t
at_full live t r m h = rw (le-ltb live 256 h) (done_stop t r bindings)

-- elements of record r in the scope sc, stride s apart
module _ (y : Bool) (b i : List ℕ) (r m : ℕ) (sc : List Pat) (s : ℕ) where
  elements_next : (j n l : ℕ) → n ≡ suc l → elements_run y b i r m sc s j n ≡ bind (element_run y b i r m sc j) (λ a. bind (elements_run y b i r m sc s (j + s) l) (λ xs. pure (a ∷ xs)))
  unfolding elements_run
  elements_next j n l e = group_next s (pure []) (λ k more. bind (element_run y b i r m sc k) (λ a. bind more (λ xs. pure (a ∷ xs)))) j n (j + s) l e refl

  elements_none : (j n : ℕ) → n ≡ 0 → elements_run y b i r m sc s j n ≡ pure []
  unfolding elements_run
  elements_none j n e = group_none s (pure []) (λ k more. bind (element_run y b i r m sc k) (λ a. bind more (λ xs. pure (a ∷ xs)))) j n e

-- what the elements from k on, of n, come to is what all come to, after the nodes of those before
pub record Suffices (y : Bool) (b i : List ℕ) (r m : ℕ) (sc : List Pat) (s f n : ℕ) (t₀ t : Table) (k : ℕ) (roots : List ℕ) : Type 0 where
  pub all : (w : Result (Unit {0}) Refusal) (xs : List ℕ) (t' : Table) → Fills t (elements_run y b i r m sc s (f + s * k) (n - k)) w xs t' → Fills t₀ (elements_run y b i r m sc s f n) w (take k roots ++ xs) t'

module _ {y : Bool} {b i : List ℕ} {r m : ℕ} {sc : List Pat} {s f n : ℕ} {t₀ t : Table} {k : ℕ} {roots : List ℕ} (p : Suffices y b i r m sc s f n t₀ t k roots) where
  pub suffices_next : {t₁ : Table} {a : ℕ} → k < n → k < length roots → Done t (element_run y b i r m sc (f + s * k)) (Ok a) t₁ → Suffices y b i r m sc s f n t₀ t₁ (k + 1) (set roots k a)
  suffices_next {t₁} {a} h l d = record {
    all = λ w xs t' g.
        let z : f + s * (k + 1) ≡ f + s * k + s = omega (arith, mul-add s k 1) in
        let v : take (k + 1) (set roots k a) ++ xs ≡ take k roots ++ (a ∷ xs) = rw (add-one k, take-suc-set roots k a l, append_assoc) in
        rw v (p.all w (a ∷ xs) t' (rw (elements_next y b i r m sc s (f + s * k) (n - k) (n - (k + 1)) (omega arith)) (fill_next d (rw z at g))));
  }

  pub suffices_halt : {t₁ : Table} {w : Refusal} (xs : List ℕ) → k < n → Done t (element_run y b i r m sc (f + s * k)) (Err w) t₁ → Fills t₀ (elements_run y b i r m sc s f n) (Err w) xs t₁
  suffices_halt {t₁} {w} xs h d =
      fill_any xs (p.all (Err w) [] t₁ (rw (elements_next y b i r m sc s (f + s * k) (n - k) (n - (k + 1)) (omega arith)) (fill_halt _ [] d)))

  pub suffices_done : n ≤ k → length roots ≤ k → Fills t₀ (elements_run y b i r m sc s f n) (Ok tt) roots t
  suffices_done h g =
      let z : n - k ≡ 0 = omega arith in
      let v : take k roots ≡ roots = take_all k roots g in
      rw v at (rw append-nil at (p.all (Ok tt) [] t (rw (elements_none y b i r m sc s (f + s * k) (n - k) z) fill_none)))
