-- Whether a pattern's record fits a type's: by its mark, by what is known, and element by element of a row.
-- Assumes nothing.
use Prim.Native.Nat.{ℕ, suc, ◌+◌, ◌-◌, ◌≤◌, ◌<◌}
use mathlib.Core.Bool.{Bool, true, false}
use mathlib.Core.List.{List}
use mathlib.Core.Logic.{◌⊎◌, inl, inr}
use mathlib.Core.Option.{some, none}
use mathlib.Core.Path.{◌≡◌, refl, sym, ap, ◌∙◌}
use native.Mathlib.Omega.{arith}
use borrow.Author.Tests.{eq-eqb, ne_eqb}
use lib.Dec.{eqb}
use lib.ListN.{length, replicate}
use Rattle.laws.specs.Table.{pick, both, true_false}
use Rattle.simplicity.specs.Types.{Ty, one, same}
use Rattle.book.specs.Format.{PATTERN, PT}
use Rattle.book.specs.Index.{mark, field}
use Rattle.book.specs.Stands.{Stands}
use Rattle.book.specs.Tree.{Pat, pat_row, no_pats, more_pats, as_pattern, type_of, pattern_of}
use Rattle.book.proofs.Standing.{stands_tree}
use Rattle.book.proofs.Built.{group_next, group_none}
use Rattle.pattern.proofs.Passes.{row_at, size_row}
use Rattle.pattern.proofs.Records.{but_row, row_most}
use Rattle.shapes.specs.Shapes.{products, place_of}
use Rattle.binders.specs.Binders.{fits, fits_from}
use Rattle.shapes.specs.Views.{Gives}
use Rattle.std.specs.Prelude.{Some, None}
use Rattle.binders.specs.Memos.{marked, Known, Marks, Fitted}
use Rattle.shapes.proofs.Same.{gives_none, gives_some}
use Rattle.binders.proofs.Bits.{marked_none}

-- a row of zeros knows no pair
pub known_none : (b i memo : List ℕ) (n : ℕ) → memo ≡ replicate n 0 → Known b i memo
known_none b i memo n e = record { sound = λ p t m. absurd (true_false (sym m ∙ marked_none n p t e)) }

-- what is marked still fits where a pair that fits was marked
known_case : {b i memo : List ℕ} {p t q s : ℕ} → Known b i memo → fits (pattern_of b i p) (type_of b i t) ≡ true → (marked memo q s ≡ true) ⊎ ((q ≡ p) × (s ≡ t)) → fits (pattern_of b i q) (type_of b i s) ≡ true
known_case {q = q} {s} k f (inl e) = k.sound q s e
known_case k f (inr e) = rw (e.0, e.1) f

known_more : {b i memo memo' : List ℕ} {p t : ℕ} → Known b i memo → fits (pattern_of b i p) (type_of b i t) ≡ true → Marks memo p t memo' → Known b i memo'
known_more k f m = record { sound = λ q s e. known_case k f (m.only q s e) }

-- whether the elements from k on fit, of a row of n whose element at field j is a j
unfoldable pub fits_left : ℕ → (ℕ → Pat) → Ty → ℕ → Bool
fits_left n a t k = fits_from n k (row_at 1 a (1 + k) (n - k)) t

module _ (n : ℕ) (a : ℕ → Pat) (t : Ty) where
  -- the whole row
  fits_all : fits (pat_row (row_at 1 a 1 n)) t ≡ pick (eqb n 0) (same t one) (fits_left n a t 0)
  unfolding fits fits_left
  fits_all =
      let z : n - 0 ≡ n = omega arith in
      rw z (ap (λ m. pick (eqb m 0) (same t one) (fits_from m 0 (row_at 1 a 1 n) t)) (size_row 1 a 1 n))

  -- an element and those after it; no more element
  fits_next : (k : ℕ) → k < n → fits_left n a t k ≡ both (elim (place_of products n k t) [ some s ↦ fits (a (1 + k)) s | none ↦ false ]) (fits_left n a t (suc k))
  unfolding fits_from fits_left
  fits_next k o = ap (λ ps. fits_from n k ps t) (group_next 1 no_pats (λ j. more_pats (a j)) (1 + k) (n - k) (1 + suc k) (n - suc k) (omega arith) (omega arith))

  fits_none : (k : ℕ) → n ≤ k → fits_left n a t k ≡ true
  unfolding fits_from fits_left
  fits_none k o = ap (λ ps. fits_from n k ps t) (group_none 1 no_pats (λ j. more_pats (a j)) (1 + k) (n - k) (omega arith))

-- a record's pattern by its mark: one that is no row fits every type; a row
module _ {b i : List ℕ} {p : ℕ} (s : Stands b i p PATTERN) (t : Ty) where
  fits_other : (mark b i p ≡ PT → ⊥) → fits (pattern_of b i p) t ≡ true
  unfolding fits
  fits_other = but_row s (λ q. fits q t) true (λ x. refl) refl

  fits_row : (n : ℕ) → mark b i p ≡ PT → n ≡ field b i p 0 → fits (pattern_of b i p) t ≡ pick (eqb n 0) (same t one) (fits_left n (λ j. pattern_of b i (field b i p j)) t 0)
  unfolding as_pattern
  fits_row n e z = ap (λ u. fits (as_pattern u) t) (stands_tree s PT e) ∙ rw z (fits_all (field b i p 0) (λ j. pattern_of b i (field b i p j)) t)

-- what is found with nothing marked newly: of a pattern that is no row, of a pair that is marked, of an empty row
module _ {b i memo : List ℕ} (k : Known b i memo) where
  pub fitted_other : {p : ℕ} → Stands b i p PATTERN → (t : Ty) {m : ℕ} → m ≡ mark b i p → (m ≡ PT → ⊥) → Fitted b i (fits (pattern_of b i p) t) true memo
  fitted_other s t is other = record { known = k; is = sym (fits_other s t (λ e. other (is ∙ e))) }

  pub fitted_known : (p t : ℕ) {f : Bool} → f ≡ marked memo p t → f ≡ true → Fitted b i (fits (pattern_of b i p) (type_of b i t)) true memo
  fitted_known p t is e = record { known = k; is = sym (k.sound p t (sym is ∙ e)) }

  pub fitted_empty : {p : ℕ} → Stands b i p PATTERN → (t : Ty) {n : ℕ} {f : Bool} → mark b i p ≡ PT → n ≡ field b i p 0 → n ≡ 0 → f ≡ same t one → Fitted b i (fits (pattern_of b i p) t) f memo
  fitted_empty s t {n} e z o is = record { known = k; is = is ∙ sym (fits_row s t n e z ∙ rw (eq-eqb n 0 o)) }

-- a pair that was found to fit is marked
pub fitted_marked : {b i memo memo' : List ℕ} {p t : ℕ} {f : Bool} → Fitted b i (fits (pattern_of b i p) (type_of b i t)) f memo → f ≡ true → Marks memo p t memo' → Fitted b i (fits (pattern_of b i p) (type_of b i t)) true memo'
fitted_marked d e m = let v = sym e ∙ d.is in record { known = known_more d.known (sym v) m; is = v }

-- v is whether the elements from k on of a row of n fit, and the pairs that are marked fit, in a memo as long as the one it was
pub record Fitting (b i : List ℕ) (v : Bool) (n : ℕ) (a : ℕ → Pat) (t : Ty) (k : ℕ) (memo₀ memo : List ℕ) : Type 0 where
  pub kept : length memo ≡ length memo₀
  pub few : n ≤ 256
  pub known : Known b i memo
  pub rest : v ≡ fits_left n a t k

-- no element was looked at yet
pub fitting_none : {b i memo : List ℕ} {p : ℕ} → Known b i memo → Stands b i p PATTERN → (t : Ty) {n : ℕ} → mark b i p ≡ PT → n ≡ field b i p 0 → (n ≡ 0 → ⊥) → Fitting b i (fits (pattern_of b i p) t) n (λ j. pattern_of b i (field b i p j)) t 0 memo memo
fitting_none k s t {n} e z filled = record { kept = refl; few = row_most s n e z; known = k; rest = fits_row s t n e z ∙ rw (ne_eqb n 0 filled) }

module _ {b i memo₀ memo : List ℕ} {v : Bool} {n : ℕ} {a : ℕ → Pat} {t : Ty} {k : ℕ} (w : Fitting b i v n a t k memo₀ memo) where
  -- all were looked at: the row fits
  pub fitting_all : n ≤ k → Fitted b i v true memo
  fitting_all o = record { known = w.known; is = sym (w.rest ∙ fits_none n a t k o) }

  module _ (o : k < n) where
    -- the type has no place for the next; it does not fit there; it fits
    pub fitting_nowhere : Gives b i (place_of products n k t) None → Fitted b i v false memo
    fitting_nowhere g = record { known = w.known; is = sym (w.rest ∙ fits_next n a t k o ∙ rw (gives_none g)) }

    module _ {s : ℕ} (g : Gives b i (place_of products n k t) (Some s)) {memo' : List ℕ} {f : Bool} (d : Fitted b i (fits (a (1 + k)) (type_of b i s)) f memo') where
      pub fitting_not : f ≡ false → Fitted b i v false memo'
      fitting_not e = record { known = d.known; is = sym (w.rest ∙ fits_next n a t k o ∙ rw (gives_some g, ← d.is, e)) }

      pub fitting_next : {u : ℕ} → f ≡ true → u ≡ k + 1 → length memo' ≡ length memo → Fitting b i v n a t u memo₀ memo'
      fitting_next {u} e z l = record {
        kept = l ∙ w.kept;
        few = w.few;
        known = d.known;
        rest = let y : suc k ≡ u = omega arith in w.rest ∙ fits_next n a t k o ∙ rw (gives_some g, ← d.is, e, y);
      }
