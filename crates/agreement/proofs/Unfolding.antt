-- A table of nodes that the check accepts, unfolded to terms, as a relation.
-- Assumes nothing.
use Prim.Native.Nat.{ℕ, zero, suc, ◌+◌, ◌/◌, ◌<◌, ◌≤◌}
use mathlib.Core.Bool.{Bool, true, false}
use mathlib.Core.List.{List, [], ◌∷◌}
use mathlib.Core.Path.{◌≡◌, refl, sym, ap, subst, ◌∙◌}
use native.Mathlib.Omega.{arith}
use borrow.Author.Tests.{eqb-true, eqb-false, ne_eqb}
use lib.ListN.{length}
use lib.Dec.{T, eqb, ltb, ltb→lt}
use Rattle.std.specs.Prelude.{Ok, Err}
use Rattle.laws.specs.Order.{by_lt}
use Rattle.laws.specs.Table.{pick, both_left, both_right, choose, among, Every, every, ◌also◌, true_false}
use Rattle.simplicity.specs.Terms.{Term, iden, unit, injl, injr, take, drop, comp, case, pair, assertl, assertr, fail, witness, scribe, jet}
use Rattle.book.specs.Format.{TYPE, VALUE}
use Rattle.book.specs.Tree.{type_of, value_of}
use Rattle.named.specs.Combinators.{IDEN, UNIT, INJL, INJR, TAKE, DROP, COMP, CASE, PAIR, ASSERTL, ASSERTR, FAIL, WITNESS, SCRIBE, JET}
use Rattle.cells.specs.Entries.{kind_at}
use Rattle.book.specs.Text.{Text}
use Rattle.nodes.specs.Given.{Given, holds}
use Rattle.nodes.specs.Nodes.{roles_of, fits, role_at, formed, first_bad, Judged, judge}
use Rattle.machine.specs.Run.{left_of, right_of}
use Rattle.agreement.specs.Unfold.{makers, term_to, term_at}

-- node n is a term: its kind, and what its operands are
pub data Unfolds (g : Given) : ℕ → Term → Type 0 where
  u_iden : {n : ℕ} → kind_at g.nodes n ≡ IDEN → Unfolds g n iden
  u_unit : {n : ℕ} → kind_at g.nodes n ≡ UNIT → Unfolds g n unit
  u_injl : {n : ℕ} {t : Term} → kind_at g.nodes n ≡ INJL → Unfolds g (left_of g n) t → Unfolds g n (injl t)
  u_injr : {n : ℕ} {t : Term} → kind_at g.nodes n ≡ INJR → Unfolds g (left_of g n) t → Unfolds g n (injr t)
  u_take : {n : ℕ} {t : Term} → kind_at g.nodes n ≡ TAKE → Unfolds g (left_of g n) t → Unfolds g n (take t)
  u_drop : {n : ℕ} {t : Term} → kind_at g.nodes n ≡ DROP → Unfolds g (left_of g n) t → Unfolds g n (drop t)
  u_comp : {n : ℕ} {s t : Term} → kind_at g.nodes n ≡ COMP → Unfolds g (left_of g n) s → Unfolds g (right_of g n) t → Unfolds g n (comp s t)
  u_case : {n : ℕ} {s t : Term} → kind_at g.nodes n ≡ CASE → Unfolds g (left_of g n) s → Unfolds g (right_of g n) t → Unfolds g n (case s t)
  u_pair : {n : ℕ} {s t : Term} → kind_at g.nodes n ≡ PAIR → Unfolds g (left_of g n) s → Unfolds g (right_of g n) t → Unfolds g n (pair s t)
  u_assertl : {n : ℕ} {s : Term} → kind_at g.nodes n ≡ ASSERTL → Unfolds g (left_of g n) s → Unfolds g n (assertl s (right_of g n))
  u_assertr : {n : ℕ} {t : Term} → kind_at g.nodes n ≡ ASSERTR → Unfolds g (right_of g n) t → Unfolds g n (assertr (left_of g n) t)
  u_fail : {n : ℕ} → kind_at g.nodes n ≡ FAIL → Unfolds g n fail
  u_witness : {n : ℕ} → kind_at g.nodes n ≡ WITNESS → T (holds g.book TYPE (right_of g n)) → Unfolds g n (witness (left_of g n) (type_of g.book.bytes g.book.index (right_of g n)))
  u_scribe : {n : ℕ} → kind_at g.nodes n ≡ SCRIBE → T (holds g.book VALUE (left_of g n)) → Unfolds g n (scribe (value_of g.book.bytes g.book.index (left_of g n)))
  u_jet : {n : ℕ} → kind_at g.nodes n ≡ JET → Unfolds g n (jet (left_of g n))

abbrev all_kinds : List ℕ
all_kinds = IDEN ∷ UNIT ∷ INJL ∷ INJR ∷ TAKE ∷ DROP ∷ COMP ∷ CASE ∷ PAIR ∷ ASSERTL ∷ ASSERTR ∷ FAIL ∷ WITNESS ∷ SCRIBE ∷ JET ∷ []

module _ (g : Given) (n : ℕ) where
  -- the operands of node n fit, were its kind k
  abbrev first_fits : ℕ → Bool
  first_fits k = fits g.book (role_at k 0) n (left_of g n)

  abbrev second_fits : ℕ → Bool
  second_fits k = fits g.book (role_at k 1) n (right_of g n)

  -- no operand fits a bad kind
  fits_none : (k : ℕ) → ((j : ℕ) → among all_kinds j ≡ true → eqb k j ≡ false) → first_fits k ≡ false
  unfolding roles_of fits
  fits_none k miss = simp miss

  fits_kind : (k : ℕ) → T (first_fits k) → T (among all_kinds k)
  fits_kind k t = go (among all_kinds k) refl
    where
      go : (b : Bool) → among all_kinds k ≡ b → T b
      go true e = tt
      go false e = absurd (rw (fits_none k (λ j q. ne_eqb k j (λ z. true_false (sym q ∙ ap (among all_kinds) (sym z) ∙ e)))) at t)

  -- where the nodes below are terms, node n is one, by its kind
  module _ (kids : ℕ → Term) (h : (m : ℕ) → m < n → Unfolds g m (kids m)) where
    child : (m : ℕ) → T (ltb m n) → Unfolds g m (kids m)
    child m t = h m (ltb→lt m n t)

    abbrev Made : ℕ → Type 0
    Made k = kind_at g.nodes n ≡ k → T (first_fits k) → T (second_fits k) → Unfolds g n (choose (makers g kids) k (λ m. fail) n)

    made_each : Every Made all_kinds
    unfolding roles_of fits
    made_each =
        (λ e t u. u_iden e)
        also (λ e t u. u_unit e)
        also (λ e t u. u_injl e (child _ t))
        also (λ e t u. u_injr e (child _ t))
        also (λ e t u. u_take e (child _ t))
        also (λ e t u. u_drop e (child _ t))
        also (λ e t u. u_comp e (child _ t) (child _ u))
        also (λ e t u. u_case e (child _ t) (child _ u))
        also (λ e t u. u_pair e (child _ t) (child _ u))
        also (λ e t u. u_assertl e (child _ t))
        also (λ e t u. u_assertr e (child _ u))
        also (λ e t u. u_fail e)
        also (λ e t u. u_witness e u)
        also (λ e t u. u_scribe e t)
        also (λ e t u. u_jet e)
        also tt

    made : T (formed g.book g.nodes n) → Unfolds g n (choose (makers g kids) (kind_at g.nodes n) (λ m. fail) n)
    unfolding formed
    made t =
        let k = kind_at g.nodes n in
        let a = both_left (first_fits k) (second_fits k) t in
        every all_kinds Made made_each k (fits_kind k a) refl a (both_right (first_fits k) (second_fits k) t)

-- a table whose first c nodes are formed unfolds at each of them
module _ (g : Given) (c : ℕ) (good : (n : ℕ) → n < c → T (formed g.book g.nodes n)) where
  unfolds_to : (k n : ℕ) → n < k → n < c → Unfolds g n (term_to k g n)
  unfolding term_to
  unfolds_to zero n l i = absurd (omega arith)
  unfolds_to (suc k) n l i = made g n (term_to k g) (λ m h. unfolds_to k m (omega arith) (omega arith)) (good n i)

  pub unfolds_at : (n : ℕ) → n < c → Unfolds g n (term_at g n)
  unfolding term_at
  unfolds_at n i = unfolds_to (suc n) n (omega arith) i

-- where the first bad node is past the last one, each node is formed
good_from : (b : Text) (ns : List ℕ) (n left : ℕ) → first_bad b ns n left ≡ n + left → (j : ℕ) → n ≤ j → j < n + left → T (formed b ns j)
unfolding first_bad
good_from b ns n zero e j h l = absurd (omega arith)
good_from b ns n (suc left) e j h l = go (good_from b ns (n + 1) left) (formed b ns n) refl e
  where
    go : (first_bad b ns (n + 1) left ≡ n + 1 + left → (i : ℕ) → n + 1 ≤ i → i < n + 1 + left → T (formed b ns i)) → (t : Bool) → formed b ns n ≡ t → pick t (first_bad b ns (n + 1) left) n ≡ n + suc left → T (formed b ns j)
    go more true f q = by_lt n j (λ o. more (omega arith) j (omega arith) (omega arith)) (λ o. let z : j ≡ n = omega arith in rw (z, f) tt)
    go more false f q = absurd (omega arith)

abbrev Well : Judged → Type 0
Well (Ok x) = Unit {0}
Well (Err p) = ⊥

-- a test that would refuse the table failed, and one that accepts it passed
went_on : (t : Bool) (p : ℕ) (j : Judged) → Well (pick t (Err p) j) → (t ≡ false) × Well j
went_on true p j w = absurd w
went_on false p j w = (refl, w)

accepted : (t : Bool) (p : ℕ) → Well (pick t (Ok tt) (Err p)) → t ≡ true
accepted true p w = refl
accepted false p w = absurd w

-- the check accepts a table: there is a node, and each is formed
pub judged : (b : Text) (ns : List ℕ) (c : ℕ) → judge b ns c ≡ Ok tt → (0 < c) × ((n : ℕ) → n < c → T (formed b ns n))
unfolding judge
judged b ns c e =
    let some = went_on (eqb c 0) 0 _ (subst Well (sym e) tt) in
    let few = went_on (ltb 65535 c) 65535 _ some.1 in
    let long = went_on (ltb (length ns / 5) c) (length ns / 5) _ few.1 in
    let full = eqb-true (first_bad b ns 0 c) c (accepted _ _ long.1) in
    let not_None = eqb-false c 0 some.0 in
    (omega arith, λ n l. good_from b ns 0 c (omega arith) n (omega arith) (omega arith))
