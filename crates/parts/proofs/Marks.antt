-- Laws of a record whose mark a match has shown: its fields lie, what its span is, and which mark is left where no arm fits.
-- Assumes nothing.
use Prim.Native.Nat.{ℕ, ◌+◌, ◌*◌, ◌≤◌, ◌<◌}
use mathlib.Core.Bool.{Bool, true, false}
use mathlib.Core.List.{List, [], ◌∷◌}
use mathlib.Core.Path.{◌≡◌, sym, ◌∙◌}
use native.Mathlib.Omega.{arith}
use lib.Dec.{T, eqb, ltb, leb, leb→le, eqb→eq}
use lib.ListN.{get_or}
use borrow.Author.Tests.{ne_eqb}
use Rattle.laws.specs.Order.{by_lt}
use Rattle.laws.specs.Table.{pick, both, among, both_left, both_right, every, ◌also◌}
use Rattle.book.specs.Format.{COUNT, CJ, CL, CR, CD, CA, CP, CN, CH}
use Rattle.book.specs.Index.{mark, field, Lies}
use Rattle.book.proofs.Roles.{layout}
use Rattle.book.proofs.Standing.{stands_mark, head_lies, head_most, each_lies}
use Rattle.parts.specs.Parts.{Marked, Spanned, span_at, is_call, symbol_marks, is_functional}
use Rattle.parts.specs.declared.view.Span.{Span}

-- the widths of a hash
pub width_lies : {b i : List ℕ} {r : ℕ} → Marked b i r CH → (k : ℕ) → k < field b i r 2 → Lies b i r (3 + 2 * k)
width_lies g k h = each_lies g.stands CH g.is (3 + 2 * k) k 0 (omega arith) h tt

-- a span whose count alone depends on the record
abbrev small : Span → Bool
small s = both (leb s.from 4) (leb s.stride 2)

pub spanned_as : {b i : List ℕ} {r m : ℕ} {p : Span} (s : Span) → span_at m (field b i r) ≡ s → p ≡ s → s.count ≤ 256 → T (small s) → Spanned b i r m p
spanned_as s e q few t =
    let low : s.from ≤ 4 = leb→le _ _ (both_left (leb s.from 4) (leb s.stride 2) t) in
    let near : s.stride ≤ 2 = leb→le _ _ (both_right (leb s.from 4) (leb s.stride 2) t) in
    rw q (record { is = sym e; few = few; low = low; near = near })

module _ {b i : List ℕ} {r m : ℕ} (g : Marked b i r m) where
  -- at a mark that is written out the test computes
  pub lies : (k : ℕ) → T (ltb k (layout m).heads) → Lies b i r k
  lies k t = head_lies g.stands m g.is k t

  pub most : (k : ℕ) → T (ltb k (layout m).heads) → get_or (layout m).head k 0 ≡ COUNT → field b i r k ≤ 256
  most k t e = head_most g.stands m g.is k t e

  -- the mark is n
  pub at_mark : (n : ℕ) → m ≡ n → Marked b i r n
  at_mark n e = record { stands = g.stands; is = g.is ∙ e }

  pub spanned : {p : Span} (n : ℕ) → m ≡ n → p ≡ span_at n (field b i r) → (span_at n (field b i r)).count ≤ 256 → T (small (span_at n (field b i r))) → Spanned b i r m p
  spanned n e q few t = spanned_as (span_at n (field b i r)) (rw e) q few t

-- the calls that name no function, but for a hash
abbrev pub plain_marks : List ℕ
plain_marks = CJ ∷ CL ∷ CR ∷ CD ∷ CA ∷ CP ∷ CN ∷ []

-- the one that is left is a hash
abbrev left_over : ℕ → Bool
left_over m = pick (is_call m) (pick (is_functional m) true (pick (among plain_marks m) true (eqb m CH))) true

pub plain_rest : {b i : List ℕ} {r m : ℕ} → Marked b i r m → is_call m ≡ true → is_functional m ≡ false → among plain_marks m ≡ false → m ≡ CH
unfolding is_call is_functional
plain_rest {b} {i} {r} {m} g call plain free =
    let t : T (left_over (mark b i r)) = stands_mark g.stands left_over tt tt in
    let u : T (left_over m) = rw g.is at t in
    let v : T (eqb m CH) = rw (call, plain, free) at u in
    eqb→eq m CH v

-- the marks that have a symbol: those from CJ to CP, and CH
pub has_symbol : (m : ℕ) → CJ ≤ m → m ≤ CH → (CP < m → CH ≤ m) → among symbol_marks m ≡ true
has_symbol m l h f =
    by_lt m CL (λ o. let z : m ≡ CJ = omega arith in rw z) (λ l.
    by_lt m CR (λ o. let z : m ≡ CL = omega arith in rw z) (λ l.
    by_lt m CD (λ o. let z : m ≡ CR = omega arith in rw z) (λ l.
    by_lt m CA (λ o. let z : m ≡ CD = omega arith in rw z) (λ l.
    by_lt m CP (λ o. let z : m ≡ CA = omega arith in rw z) (λ l.
    by_lt CP m (λ o. let g : CH ≤ m = f o in let z : m ≡ CH = omega arith in rw z) (λ k. let z : m ≡ CP = omega arith in rw z))))))

pub no_symbol : (m : ℕ) → (CJ ≤ m → CP < m) → (m ≡ CH → ⊥) → among symbol_marks m ≡ false
no_symbol m f e =
    rw (ne_eqb m CJ (λ z. omega arith), ne_eqb m CL (λ z. omega arith), ne_eqb m CR (λ z. omega arith), ne_eqb m CD (λ z. omega arith), ne_eqb m CA (λ z. omega arith), ne_eqb m CP (λ z. omega arith), ne_eqb m CH e)

-- where the mark has one, it is field 1
pub symbol_lies : {b i : List ℕ} {r m : ℕ} → Marked b i r m → among symbol_marks m ≡ true → Lies b i r 1
symbol_lies {b} {i} {r} {m} g e = every symbol_marks (λ k. Marked b i r k → Lies b i r 1)
    ((λ k. lies k 1 tt) also (λ k. lies k 1 tt) also (λ k. lies k 1 tt) also (λ k. lies k 1 tt) also (λ k. lies k 1 tt) also (λ k. lies k 1 tt) also (λ k. lies k 1 tt) also tt)
    m (rw e tt) g
