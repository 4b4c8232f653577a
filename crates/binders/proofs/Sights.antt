-- Laws of a name's type: where a path leads, what a row of patterns that fits a type has at each place, and how a search for the name ends.
-- Assumes nothing.
use Prim.Native.Nat.{ℕ, zero, suc, ◌+◌, ◌*◌, ◌≤◌, ◌<◌}
use mathlib.Core.Bool.{Bool, true, false}
use mathlib.Core.List.{List, [], ◌∷◌, ◌++◌}
use mathlib.Core.Option.{Option, some, none}
use mathlib.Core.Path.{◌≡◌, refl, sym, ◌∙◌}
use native.Mathlib.Omega.{arith}
use borrow.Author.Tests.{eqb-false, ne_eqb}
use lib.Dec.{eqb}
use lib.ListN.{get_or, set}
use Rattle.laws.specs.Table.{true_false}
use Rattle.array.specs.Path.{Side, path}
use Rattle.simplicity.specs.Types.{Ty}
use Rattle.book.specs.Format.{TYPE, PATTERN, PI, PT}
use Rattle.book.specs.Index.{mark, field}
use Rattle.book.specs.Stands.{Stands}
use Rattle.book.specs.Tree.{Pat, pat_row, as_pattern, group, pattern_of, type_of}
use Rattle.book.proofs.Picks.{both_true}
use Rattle.book.proofs.Standing.{stands_tree}
use Rattle.pattern.specs.Find.{find, within}
use Rattle.pattern.specs.Seeks.{Memo}
use Rattle.pattern.proofs.Memos.{memo_more}
use Rattle.pattern.proofs.Passes.{row_at, left, size_row, left_next, left_none, name_is, name_not}
use Rattle.pattern.proofs.Records.{row_part, finds_row, finds_name, finds_none}
use Rattle.shapes.specs.Shapes.{Sort, products, side_of, onward, leads, place_of}
use Rattle.shapes.specs.Views.{Gives, nowhere, record_of}
use Rattle.std.specs.Prelude.{Option as Answer, Some, None, is_some}
use Rattle.binders.specs.Binders.{fits, fits_from}
use Rattle.binders.specs.Memos.{Seen, absent, present, Sights, Binds}

-- one step after another, from what may not be there
onward_more : (o : Option Ty) (f g k : Ty → Option Ty) → ((t : Ty) → f t ≡ onward (g t) k) → onward o f ≡ onward (onward o g) k
unfolding onward
onward_more (some t) f g k h = h t
onward_more none f g k h = refl

-- a path that goes on leads where its second part leads from the end of the first
leads_more : (s : Sort) (js ks : List Side) (t : Ty) → leads s (js ++ ks) t ≡ onward (leads s js t) (leads s ks)
unfolding leads onward
leads_more s [] ks t = refl
leads_more s (j ∷ js) ks t = onward_more (side_of s j t) (leads s (js ++ ks)) (leads s js) (leads s ks) (leads_more s js ks)

-- a pattern fits the type at a place
abbrev fits_at : Pat → Option Ty → Bool
fits_at p o = elim o [ some s ↦ fits p s | none ↦ false ]

-- each of m elements of a row fits the type at its place
from_fits : (s : ℕ) (a : ℕ → Pat) (n k h m : ℕ) (t : Ty) → fits_from n k (row_at s a h m) t ≡ true → (q : ℕ) → q < m → fits_at (a (h + q * s)) (place_of products n (k + q) t) ≡ true
unfolding fits_from group
from_fits s a n k h zero t f q o = absurd (omega arith)
from_fits s a n k h (suc m) t f zero o =
    let z : h + 0 * s ≡ h = omega arith in
    let y : k + 0 ≡ k = omega arith in
    rw (z, y) (both_true (fits_at (a h) (place_of products n k t)) (fits_from n (suc k) (row_at s a (h + s) m) t) f).0
from_fits s a n k h (suc m) t f (suc q) o =
    let z : h + suc q * s ≡ h + s + q * s = omega arith in
    let y : k + suc q ≡ suc k + q = omega arith in
    rw (z, y) (from_fits s a n (suc k) (h + s) m t (both_true (fits_at (a h) (place_of products n k t)) (fits_from n (suc k) (row_at s a (h + s) m) t) f).1 q (omega arith))

row_fits : (s : ℕ) (a : ℕ → Pat) (h n : ℕ) (t : Ty) → fits (pat_row (row_at s a h n)) t ≡ true → (k : ℕ) → k < n → fits_at (a (h + k * s)) (place_of products n k t) ≡ true
unfolding fits
row_fits s a h n t f k o =
    let y : 0 + k ≡ k = omega arith in
    let g : fits_from n 0 (row_at s a h n) t ≡ true = rw (size_row s a h n, ne_eqb n 0 (λ z. omega arith)) at f in
    rw y at (from_fits s a n 0 h n t g k o)

-- a search that found nothing
pub seen_none : {b i : List ℕ} {x : ℕ} {p : Pat} {t : Ty} {s : Answer ℕ} → Seen b i x p t s → is_some s ≡ false → find x p ≡ none
seen_none (absent e) o = e
seen_none (present ks h e l) o = absurd (true_false o)

-- a search for x in p, a row of n patterns from field h on, s fields apart: those before k have not the name
pub record Skips (x : ℕ) (p : Pat) (s : ℕ) (a : ℕ → Pat) (h n k : ℕ) : Type 0 where
  pub rest : find x p ≡ left x s a h n k

module _ {x s h n k : ℕ} {a : ℕ → Pat} {p : Pat} (w : Skips x p s a h n k) where
  -- none has it
  pub skips_all : n ≤ k → find x p ≡ none
  skips_all o = w.rest ∙ left_none x s a h n k o

  module _ (j : ℕ) (o : k < n) (e : j ≡ h + k * s) where
    -- one more has it not
    pub skips_next : (u : ℕ) → u ≡ k + 1 → find x (a j) ≡ none → Skips x p s a h n u
    unfolding within
    skips_next u z f = let y : suc k ≡ u = omega arith in record { rest = w.rest ∙ left_next x s a h n k j o e ∙ rw (f, y) }

    -- the next has it: its type, seen from the row
    pub skips_found : {b i : List ℕ} {t v : Ty} {r : Answer ℕ} → place_of products n k t ≡ some v → Seen b i x (a j) v r → is_some r ≡ true → Seen b i x p t r
    unfolding within onward
    skips_found l (absent f) there = absurd (true_false (sym there))
    skips_found {t = t} l (present ks r f g) there = present (path n k ++ ks) r (w.rest ∙ left_next x s a h n k j o e ∙ rw f) (leads_more products (path n k) ks t ∙ rw l g)

-- what a pattern that fits the type at a place makes of the record that was found there
place_fits : {b i : List ℕ} {o : Option Ty} {s : ℕ} (p : Pat) → Gives b i o (Some s) → fits_at p o ≡ true → Stands b i s TYPE × (o ≡ some (type_of b i s)) × (fits p (type_of b i s) ≡ true)
place_fits p (record_of h e) f = (h, e, rw e at f)

-- and there is one
place_there : {b i : List ℕ} {o : Option Ty} {x : Answer ℕ} (p : Pat) → Gives b i o x → fits_at p o ≡ true → is_some x ≡ true
place_there p (nowhere e) f = absurd (true_false (sym (rw e at f)))
place_there p (record_of h e) f = refl

-- element k of n of the pattern p, which is record u, and the type at its place in the type t, which is record s
pub record Element (b i : List ℕ) (p t n k u s : ℕ) : Type 0 where
  pub binds : Binds b i u s
  pub below : u < p
  pub place : place_of products n k (type_of b i t) ≡ some (type_of b i s)

-- a pattern that fits a type
module _ {b i : List ℕ} {p t : ℕ} (d : Binds b i p t) where
  -- an element of a row
  element_fits : (n k j u : ℕ) → mark b i p ≡ PT → n ≡ field b i p 0 → k < n → j ≡ 1 + k → u ≡ field b i p j → fits_at (pattern_of b i u) (place_of products n k (type_of b i t)) ≡ true
  unfolding as_pattern
  element_fits n k j u e z o y f =
      let at_k : 1 + k * 1 ≡ j = omega arith in
      let row : fits (pat_row (row_at 1 (λ q. pattern_of b i (field b i p q)) 1 n)) (type_of b i t) ≡ true = rw z (rw (stands_tree d.pattern PT e) at d.fit) in
      rw (f, ← at_k) (row_fits 1 (λ q. pattern_of b i (field b i p q)) 1 n (type_of b i t) row k o)

  pub binds_place : (n k j u : ℕ) {x : Answer ℕ} → mark b i p ≡ PT → n ≡ field b i p 0 → k < n → j ≡ 1 + k → u ≡ field b i p j → Gives b i (place_of products n k (type_of b i t)) x → is_some x ≡ true
  binds_place n k j u e z o y f g = place_there (pattern_of b i u) g (element_fits n k j u e z o y f)

  pub binds_element : (n k j u s : ℕ) → mark b i p ≡ PT → n ≡ field b i p 0 → k < n → j ≡ 1 + k → u ≡ field b i p j → Gives b i (place_of products n k (type_of b i t)) (Some s) → Element b i p t n k u s
  binds_element n k j u s e z o y f g =
      let part = row_part d.pattern n k j e z o y u f in
      let here = place_fits (pattern_of b i u) g (element_fits n k j u e z o y f) in
      record { binds = record { pattern = part.0; type = here.0; fit = here.2 }; below = part.1; place = here.1 }

  -- a search in it: no element of its row was searched yet
  pub skips_none : (x n : ℕ) → mark b i p ≡ PT → n ≡ field b i p 0 → Skips x (pattern_of b i p) 1 (λ j. pattern_of b i (field b i p j)) 1 n 0
  skips_none x n e z = record { rest = finds_row d.pattern x n e z }

  -- an element, record u, has not the name: the search goes on
  pub skips_element : {x n k u : ℕ} → Skips x (pattern_of b i p) 1 (λ j. pattern_of b i (field b i p j)) 1 n k → (j : ℕ) → k < n → j ≡ 1 + k → u ≡ field b i p j → (q : ℕ) → q ≡ k + 1 → find x (pattern_of b i u) ≡ none → Skips x (pattern_of b i p) 1 (λ j. pattern_of b i (field b i p j)) 1 n q
  skips_element w j o y f q z e = skips_next w j o (omega arith) q z (rw f at e)

  -- the name is nowhere in it
  sights_none : {x : ℕ} {ms : List Bool} → Memo b i x ms → find x (pattern_of b i p) ≡ none → Sights b i x (pattern_of b i p) (type_of b i t) None ms
  sights_none v e = record { memo = v; seen = absent e }

  -- it was sought there in vain before
  pub sights_known : {x : ℕ} {ms : List Bool} → Memo b i x ms → get_or ms p false ≡ true → Sights b i x (pattern_of b i p) (type_of b i t) None ms
  sights_known v e = sights_none v (v.sound p e)

  -- all elements of its row were searched in vain
  pub sights_row : {x n k : ℕ} {a : ℕ → Pat} {ms : List Bool} → Memo b i x ms → Skips x (pattern_of b i p) 1 a 1 n k → n ≤ k → Sights b i x (pattern_of b i p) (type_of b i t) None (set ms p true)
  sights_row v w o = sights_none (memo_more p v (skips_all w o)) (skips_all w o)

  -- no row is entered: the pattern is the name, is another, or has none
  module _ (m : ℕ) (is : m ≡ mark b i p) {x : ℕ} {ms : List Bool} (v : Memo b i x ms) where
    pub sights_name : (y : ℕ) → m ≡ PI → y ≡ field b i p 0 → y ≡ x → Sights b i x (pattern_of b i p) (type_of b i t) (Some t) ms
    unfolding leads
    sights_name y e f o = record { memo = v; seen = present [] d.type (finds_name d.pattern x (sym is ∙ e) ∙ name_is x _ y f o) refl }

    pub sights_other : (y : ℕ) → m ≡ PI → y ≡ field b i p 0 → (y ≡ x → ⊥) → Sights b i x (pattern_of b i p) (type_of b i t) None ms
    sights_other y e f o = sights_none v (finds_name d.pattern x (sym is ∙ e) ∙ name_not x _ y f o)

    pub sights_ignored : (m ≡ PT → ⊥) → (m ≡ PI → ⊥) → Sights b i x (pattern_of b i p) (type_of b i t) None ms
    sights_ignored f g = sights_none v (finds_none d.pattern x (λ e. f (is ∙ e)) (λ e. g (is ∙ e)))

-- a pattern has not the name x: it is another name, or neither a name nor a row
module _ {b i : List ℕ} {p : ℕ} (h : Stands b i p PATTERN) (x m : ℕ) (is : m ≡ mark b i p) where
  pub other_not : (y : ℕ) → m ≡ PI → y ≡ field b i p 0 → eqb y x ≡ false → find x (pattern_of b i p) ≡ none
  other_not y e f o = finds_name h x (sym is ∙ e) ∙ name_not x _ y f (eqb-false y x o)

  pub ignored_not : (m ≡ PI → ⊥) → eqb m PT ≡ false → find x (pattern_of b i p) ≡ none
  ignored_not g o = finds_none h x (λ e. eqb-false m PT o (is ∙ e)) (λ e. g (is ∙ e))

-- what the search in an element, record u, left: it goes on in the row, or ends there
module _ {b i : List ℕ} {p t n k u s x : ℕ} {r : Answer ℕ} {ms : List Bool} (w : Skips x (pattern_of b i p) 1 (λ j. pattern_of b i (field b i p j)) 1 n k) (d : Element b i p t n k u s) (h : Sights b i x (pattern_of b i u) (type_of b i s) r ms) (j : ℕ) (o : k < n) (y : j ≡ 1 + k) (f : u ≡ field b i p j) where
  pub element_none : (q : ℕ) → q ≡ k + 1 → is_some r ≡ false → Memo b i x ms × Skips x (pattern_of b i p) 1 (λ j. pattern_of b i (field b i p j)) 1 n q
  element_none q z e = (h.memo, skips_next w j o (omega arith) q z (rw f at (seen_none h.seen e)))

  pub element_found : is_some r ≡ true → Sights b i x (pattern_of b i p) (type_of b i t) r ms
  element_found there = record { memo = h.memo; seen = skips_found w j o (omega arith) d.place (rw f at h.seen) there }
