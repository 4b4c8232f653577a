-- The steps of CHECK's cycle: what each function makes of the judgements that it calls.
-- Assumes nothing.
use Prim.Native.Nat.{ℕ, suc, ◌+◌, ◌-◌, ◌*◌, ◌≤◌, ◌<◌}
use mathlib.Core.Bool.{Bool, true, false}
use mathlib.Core.List.{List, ◌∷◌}
use mathlib.Core.Option.{Option, some}
use mathlib.Core.Path.{◌≡◌, refl, sym, ap, ap₂, ◌∙◌}
use native.Mathlib.Nat.{mul-suc}
use native.Mathlib.Omega.{arith}
use native.Mathlib.Numerals.{add-one}
use borrow.Author.Tests.{eq-eqb, ne_eqb}
use lib.Dec.{T, eqb}
use Rattle.std.specs.Prelude.{Ok, Option as Answer, Some, None}
use Rattle.std.specs.Result.{result_and}
use Rattle.laws.specs.Table.{pick, all_below}
use Rattle.simplicity.specs.Types.{Ty, one, same}
use Rattle.book.specs.Format.{STATEMENT, SA, EB, EM, EH, EV, CK}
use Rattle.book.specs.Index.{mark, field}
use Rattle.book.specs.Stands.{Stands}
use Rattle.book.specs.Tree.{type_of, pattern_of, expr_of}
use Rattle.parts.specs.Parts.{Marked, Spanned, block_end}
use Rattle.parts.specs.declared.view.Span.{Span}
use Rattle.shapes.specs.Shapes.{type_is, sums, place_of, is_there, has_places, whole}
use Rattle.shapes.specs.Views.{Gives}
use Rattle.std.specs.Option.{is_some}
use Rattle.binders.specs.Binders.{Binding, binding}
use Rattle.binders.specs.Memos.{Live, scope_of}
use Rattle.typing.specs.Check.{Checked, agree, binds, there, variant_type, check, statements}
use Rattle.typing.specs.declared.cycle.Judge.{Judge}
use Rattle.typing.specs.Cycle.{Scoped, Stays, Bound, Stated, Places, checks_at, row_of, arm_of, arms_from, match_of, stmts_of, block_of, statement_of, entered_of, live_after, parts_of}
use Rattle.shapes.proofs.Same.{gives_there, gives_some}
use Rattle.typing.proofs.Judging.{passed_holds, Handed, handed_not, first_halts, first_passes, at_once, stays_as, stays_on, stays_next, stays_halt}
use Rattle.typing.proofs.Marks.{parts_is, stmts_next, end_none, end_some}
use Rattle.parts.proofs.Blocks.{unended, ended_is, ended_some}
use Rattle.typing.proofs.Facts.{checks_next}
use Rattle.typing.proofs.Scopes.{stays_scope, stays_rows, stays_scoped}

-- a test that holds
holds : (t : Bool) → T t → t ≡ true
holds true h = refl
holds false h = absurd h

-- from one element to the next
stride_next : (f s k : ℕ) → f + s * (k + 1) ≡ f + s * k + s
stride_next f s k = rw (add-one k, mul-suc s k) (omega arith)

-- a statement makes at most one binding
after_least : (b i : List ℕ) (s n : ℕ) → n ≤ live_after b i s n
unfolding live_after
after_least b i s n = go (eqb (mark b i s) SA)
  where
    go : (t : Bool) → n ≤ pick t (n + 1) n
    go true = omega arith
    go false = omega arith

after_most : (b i : List ℕ) (s n : ℕ) → live_after b i s n ≤ n + 1
unfolding live_after
after_most b i s n = go (eqb (mark b i s) SA)
  where
    go : (t : Bool) → pick t (n + 1) n ≤ n + 1
    go true = omega arith
    go false = omega arith

-- one judgement passed and another followed; one was refused
module _ {b i : List ℕ} {x : Checked} {n : ℕ} {q : Judge} {c : Checked} {q₁ : Judge} (d : Stays b i x n q c q₁) where
  both : {a v : Checked} → a ≡ v → Stays b i v n q a q₁
  both e = record { is = e; doubled = d.doubled; lent = d.lent; known = d.known; missing = d.missing; kept = d.kept; before = d.before }

  pub both_then : {y : Checked} {k : ℕ} {c₂ : Checked} {q₂ : Judge} → c ≡ Ok tt → Stays b i y k q₁ c₂ q₂ → n ≤ k → Stays b i (result_and x y) n q c₂ q₂
  both_then {y} e f h = stays_on (both (sym (first_passes y e d.is))) f h

  pub both_halt : (y : Checked) {a : Checked} → Handed c a → Stays b i (result_and x y) n q a q₁
  both_halt y h = both (first_halts y h d.is)

  -- and what was judged without a row
  pub both_last : {y : Checked} {a : Checked} → c ≡ Ok tt → a ≡ y → Stays b i (result_and x y) n q a q₁
  both_last {y} e z = both (z ∙ sym (first_passes y e d.is))

-- a judgement of what is the same
pub stays_of : {b i : List ℕ} {v w : Checked} {n : ℕ} {q : Judge} {c : Checked} {q₁ : Judge} → Stays b i v n q c q₁ → w ≡ v → Stays b i w n q c q₁
stays_of d e = record { is = d.is ∙ sym e; doubled = d.doubled; lent = d.lent; known = d.known; missing = d.missing; kept = d.kept; before = d.before }

-- an arm
module _ {b i : List ℕ} (r : ℕ) {p t e n : ℕ} {base : Answer ℕ} {q : Judge} {c : Checked} {q₁ : Judge} (d : Bound b i (binds r (pattern_of b i p) (type_of b i t)) p t n base q c q₁) (j : ℕ) (z : p ≡ field b i r j) (y : e ≡ field b i r (j + 1)) where
  pub arm_then : {c₂ : Checked} {q₂ : Judge} → c ≡ Ok tt → Stays b i (check (expr_of b i e) (scope_of b i q₁.bindings (n + 1) base)) (n + 1) q₁ c₂ q₂ → Stays b i (arm_of b i r j (type_of b i t) (scope_of b i q.bindings n base)) n q c₂ q₂
  unfolding arm_of
  arm_then g f = rw (← z, ← y, ← (d.newer g).is) (both_then d.stays g f (omega arith))

  pub arm_halt : {a : Checked} → Handed c a → Stays b i (arm_of b i r j (type_of b i t) (scope_of b i q.bindings n base)) n q a q₁
  unfolding arm_of
  arm_halt h = rw (← z, ← y) (both_halt d.stays _ h)

-- where there is a type
is_there_lem : {o : Option Ty} {t : Ty} → o ≡ some t → there o ≡ t
unfolding there
is_there_lem e = rw e

-- the type at a variant's place
module _ {b i : List ℕ} {t n k : ℕ} (p : Places b i t n) (h : k < n) where
  there_at : is_there (place_of sums n k (type_of b i t)) ≡ true
  unfolding has_places
  there_at = holds _ (all_below (λ j. is_there (place_of sums n j (type_of b i t))) n (rw p.all tt) k h)

  pub place_there : {x : Answer ℕ} → Gives b i (place_of sums n k (type_of b i t)) x → is_some x ≡ true
  place_there g = gives_there g ∙ there_at

pub place_type : {b i : List ℕ} {s : ℕ} (t n k : ℕ) → Gives b i (place_of sums n k (type_of b i t)) (Some s) → variant_type n k (type_of b i t) ≡ type_of b i s
place_type t n k g = is_there_lem (gives_some g)

-- the elements of a row
module _ {b i : List ℕ} {r m : ℕ} (sc : List Binding) {p : Span} (v : Spanned b i r m p) where
  pub row_start : row_of b i r m sc ≡ checks_at b i r sc p.stride (p.from + p.stride * 0) (p.count - 0)
  unfolding row_of
  row_start =
      let z : p.from + p.stride * 0 ≡ p.from = omega arith in
      let y : p.count - 0 ≡ p.count = omega arith in
      rw (← v.is, z, y)

  pub row_next : (k j x : ℕ) → k < p.count → j ≡ k + 1 → x ≡ field b i r (p.from + p.stride * k) → checks_at b i r sc p.stride (p.from + p.stride * k) (p.count - k) ≡ result_and (check (expr_of b i x) sc) (checks_at b i r sc p.stride (p.from + p.stride * j) (p.count - j))
  row_next k j x h e z =
      let y : p.from + p.stride * j ≡ p.from + p.stride * k + p.stride = rw e (stride_next p.from p.stride k) in
      rw (z, y) (checks_next b i r sc p.stride (p.from + p.stride * k) (p.count - k) (p.count - j) (omega arith))

-- the arms of a match
module _ (b i : List ℕ) (r from n : ℕ) (t : Ty) (sc : List Binding) where
  pub arms_next : (k j : ℕ) → k < n → j ≡ k + 1 → arms_from b i r from n t sc k (n - k) ≡ result_and (arm_of b i r (from + 2 * k) (variant_type n k t) sc) (arms_from b i r from n t sc j (n - j))
  unfolding arms_from
  arms_next k j h e =
      let z : n - k ≡ suc (n - j) = omega arith in
      let y : j ≡ suc k = omega arith in
      rw (z, y)

  pub arms_none : (k : ℕ) → n ≤ k → Ok tt ≡ arms_from b i r from n t sc k (n - k)
  unfolding arms_from
  arms_none k h = let z : n - k ≡ 0 = omega arith in rw z

-- a match, after its scrutinee's type was looked at
module _ (b i : List ℕ) (r from n : ℕ) (sc : List Binding) {e : ℕ} (t : ℕ) (z : e ≡ field b i r 1) (y : type_of b i t ≡ type_is (expr_of b i e)) where
  pub match_is : has_places n (type_of b i t) ≡ true → match_of b i r from n sc ≡ result_and (arms_from b i r from n (type_of b i t) sc 0 n) (check (expr_of b i e) sc)
  unfolding match_of
  match_is h = rw (← z, ← y, h)

  pub match_not : {w : Bool} {c a : Checked} → w ≡ has_places n (type_of b i t) → c ≡ agree w r → Handed c a → a ≡ match_of b i r from n sc
  unfolding match_of
  match_not {w} g f h = first_halts {v = agree (has_places n (type_is (expr_of b i (field b i r 1)))) r} _ h (f ∙ rw (g, y, z))

-- where a test was agreed to it holds
pub agreed : (v : Bool) (r : ℕ) {w : Bool} {c : Checked} → w ≡ v → c ≡ agree w r → c ≡ Ok tt → v ≡ true
agreed v r {w} g f h = sym g ∙ passed_holds w _ r (sym f ∙ h)

-- a block: the statements before k have passed, and so many bindings are live
pub record Block (b i : List ℕ) (r n live : ℕ) (base : Answer ℕ) (q q₁ : Judge) (at k : ℕ) : Type 0 where
  pub from : live ≤ at
  pub few : at ≤ live + k
  pub live_now : Live b i q₁.bindings at base
  pub stays : Stays b i (block_of b i r (scope_of b i q.bindings live base)) live q (statements (stmts_of b i r (2 + k) (n - k)) (scope_of b i q₁.bindings at base)) q₁

pub block_start : {b i : List ℕ} {q : Judge} {live : ℕ} {base : Answer ℕ} (r n : ℕ) → Scoped b i q live base → n ≡ field b i r 1 → Block b i r n live base q q live 0
unfolding block_of
block_start r n s e = record {
  from = omega arith;
  few = omega arith;
  live_now = s.live;
  stays = let y : n - 0 ≡ n = omega arith in rw (y, e) (at_once s.rows refl);
}

module _ {b i : List ℕ} {r n live : ℕ} {base : Answer ℕ} {q q₁ : Judge} {at k : ℕ} (g : Block b i r n live base q q₁ at k) where
  pub block_scoped : Scoped b i q live base → Scoped b i q₁ at base
  block_scoped s = record { rows = stays_rows g.stays s.rows; live = g.live_now }

  -- one more statement
  module _ {s : ℕ} {c : Checked} {q₂ : Judge} (d : Stated b i s at base q₁ c q₂) (h : k < n) (z : s ≡ field b i r (2 + k)) (o : Stands b i s STATEMENT) where
    left_is : (sc : List Binding) → statements (stmts_of b i r (2 + k) (n - k)) sc ≡ result_and (statement_of b i s sc) (statements (stmts_of b i r (2 + k + 1) (n - (k + 1))) (entered_of b i s sc))
    left_is sc = rw z (stmts_next b i r sc (2 + k) (n - k) (n - (k + 1)) (omega arith) (rw z at o))

    pub block_halt : {a : Checked} → Handed c a → Stays b i (block_of b i r (scope_of b i q.bindings live base)) live q a q₂
    block_halt f = stays_halt d.stays _ (stays_as g.stays (sym (left_is _))) g.from f

    pub block_next : (j u : ℕ) → c ≡ Ok tt → j ≡ k + 1 → u ≡ live_after b i s at → Block b i r n live base q q₂ u j
    block_next j u f e l =
        let y : 2 + k + 1 ≡ 2 + j = omega arith in
        let x : n - (k + 1) ≡ n - j = rw e in
        let w = d.newer f in
        record {
          from = omega (arith, g.from, after_least b i s at);
          few = omega (arith, g.few, after_most b i s at);
          live_now = rw l w.live;
          stays = rw (l, w.is, ← y, ← x) (stays_next d.stays _ (stays_as g.stays (sym (left_is _))) g.from f);
        }

  -- the end of the block
  module _ (h : k ≡ n) (z : n ≡ field b i r 1) where
    no_more : statements (stmts_of b i r (2 + k) (n - k)) (scope_of b i q₁.bindings at base) ≡ statements (stmts_of b i r (2 + field b i r 1) 0) (scope_of b i q₁.bindings at base)
    no_more = let x : n - n ≡ 0 = omega arith in rw (h, x, z)

    pub block_none : None ≡ block_end (field b i r) → Stays b i (block_of b i r (scope_of b i q.bindings live base)) live q (Ok tt) q₁
    block_none f = stays_as g.stays (sym (no_more ∙ end_none b i r _ _ (unended _ f)))

    pub block_ended : {e : ℕ} {c : Checked} {q₂ : Judge} → Some e ≡ block_end (field b i r) → Stays b i (check (expr_of b i e) (scope_of b i q₁.bindings at base)) at q₁ c q₂ → Stays b i (block_of b i r (scope_of b i q.bindings live base)) live q c q₂
    block_ended {e} f d =
        let y : check (expr_of b i e) (scope_of b i q₁.bindings at base) ≡ statements (stmts_of b i r (2 + k) (n - k)) (scope_of b i q₁.bindings at base) = sym (no_more ∙ end_some b i r _ _ (ended_some _ f) ∙ rw (← ended_is (field b i r) f)) in
        stays_on (stays_as g.stays y) d g.from

-- a statement that is an expression alone
module _ {b i : List ℕ} (s : ℕ) {x n : ℕ} (sc : List Binding) {q : Judge} {c : Checked} {q₁ : Judge} (u : mark b i s ≡ SA → ⊥) (z : x ≡ field b i s 0) (d : Stays b i (check (expr_of b i x) sc) n q c q₁) where
  pub does_then : {a : Checked} → c ≡ Ok tt → a ≡ agree (same (type_is (expr_of b i x)) one) s → Stays b i (statement_of b i s sc) n q a q₁
  unfolding statement_of
  does_then f e = rw (ne_eqb _ _ u, ← z) (both_last d f e)

  pub does_halt : {a : Checked} → Handed c a → Stays b i (statement_of b i s sc) n q a q₁
  unfolding statement_of
  does_halt h = rw (ne_eqb _ _ u, ← z) (both_halt d _ h)

-- makes no binding
pub does_stated : {b i : List ℕ} {s n : ℕ} {base : Answer ℕ} {q : Judge} {c : Checked} {q₁ : Judge} → (mark b i s ≡ SA → ⊥) → Scoped b i q n base → Stays b i (statement_of b i s (scope_of b i q.bindings n base)) n q c q₁ → Stated b i s n base q c q₁
unfolding live_after entered_of
does_stated {base = base} u s d = record {
  stays = d;
  newer = λ e. rw (ne_eqb _ _ u) (record { live = (stays_scoped d s).live; is = stays_scope d base });
}

-- an assignment
module _ {b i : List ℕ} (s : ℕ) {p x n : ℕ} {base : Answer ℕ} {q : Judge} {c : Checked} {q₁ : Judge} (is : mark b i s ≡ SA) (y : p ≡ field b i s 0) (z : x ≡ field b i s 1) (d : Stays b i (check (expr_of b i x) (scope_of b i q.bindings n base)) n q c q₁) where
  pub assign_then : {t : ℕ} {a : Checked} {q₂ : Judge} → c ≡ Ok tt → type_of b i t ≡ type_is (expr_of b i x) → Bound b i (binds s (pattern_of b i p) (type_of b i t)) p t n base q₁ a q₂ → Stated b i s n base q a q₂
  unfolding statement_of entered_of live_after
  assign_then {t = t} f e g = record {
    stays = rw (eq-eqb _ _ is, ← y, ← z, ← e) (both_then d f g.stays (omega arith));
    newer = λ o. let w = g.newer o in rw (eq-eqb _ _ is, ← y, ← z, ← e) (record { live = w.live; is = w.is ∙ ap (◌∷◌ (binding (pattern_of b i p) (type_of b i t))) (stays_scope d base) });
  }

  pub assign_halt : {a : Checked} → Handed c a → Stated b i s n base q a q₁
  unfolding statement_of
  assign_halt h = record {
    stays = rw (eq-eqb _ _ is, ← y, ← z) (both_halt d _ h);
    newer = λ o. absurd (handed_not h o);
  }

-- an expression: its parts, and then the whole
module _ {b i : List ℕ} {r m n : ℕ} (sc : List Binding) {q : Judge} {c : Checked} {q₁ : Judge} (g : Marked b i r m) (h : m ≡ EV → ⊥) (d : Stays b i (parts_of b i r m sc) n q c q₁) where
  pub expr_then : {a : Checked} {w : Bool} → c ≡ Ok tt → w ≡ whole (expr_of b i r) → a ≡ agree w r → Stays b i (check (expr_of b i r) sc) n q a q₁
  expr_then f e z = rw (parts_is b i r sc g h) (both_last d f (z ∙ rw e))

  pub expr_halt : {a : Checked} → Handed c a → Stays b i (check (expr_of b i r) sc) n q a q₁
  expr_halt f = rw (parts_is b i r sc g h) (both_halt d _ f)

-- the parts by mark
module _ (b i : List ℕ) (r m : ℕ) (sc : List Binding) where
  pub parts_block : m ≡ EB → parts_of b i r m sc ≡ block_of b i r sc
  unfolding parts_of
  parts_block e = rw e

  pub parts_match : m ≡ EM → parts_of b i r m sc ≡ match_of b i r 2 2 sc
  unfolding parts_of
  parts_match e = rw e

  pub parts_enum : (n : ℕ) → m ≡ EH → n ≡ field b i r 2 → parts_of b i r m sc ≡ match_of b i r 3 n sc
  unfolding parts_of
  parts_enum n e z = rw (e, z)

  pub parts_cast : (x : ℕ) → m ≡ CK → x ≡ field b i r 1 → parts_of b i r m sc ≡ check (expr_of b i x) sc
  unfolding parts_of
  parts_cast x e z = rw (e, z)

  pub parts_row : (m ≡ EB → ⊥) → (m ≡ EM → ⊥) → (m ≡ EH → ⊥) → (m ≡ CK → ⊥) → parts_of b i r m sc ≡ row_of b i r m sc
  unfolding parts_of
  parts_row e f g h = rw (ne_eqb _ _ e, ne_eqb _ _ f, ne_eqb _ _ g, ne_eqb _ _ h)

-- one more element of a row
module _ (base : Answer ℕ) {b i : List ℕ} {r m : ℕ} {v : Checked} {n : ℕ} {q : Judge} {p : Span} {q₁ : Judge} {k : ℕ} (a : Spanned b i r m p) (g : Stays b i v n q (checks_at b i r (scope_of b i q.bindings n base) p.stride (p.from + p.stride * k) (p.count - k)) q₁) (h : k < p.count) {x : ℕ} {c : Checked} {q₂ : Judge} (d : Stays b i (check (expr_of b i x) (scope_of b i q₁.bindings n base)) n q₁ c q₂) (z : x ≡ field b i r (p.from + p.stride * k)) where
  abbrev element : Stays b i (check (expr_of b i x) (scope_of b i q.bindings n base)) n q₁ c q₂
  element = stays_of d (ap (check (expr_of b i x)) (sym (stays_scope g base)))

  pub row_again : (j : ℕ) → c ≡ Ok tt → j ≡ k + 1 → Stays b i v n q (checks_at b i r (scope_of b i q.bindings n base) p.stride (p.from + p.stride * j) (p.count - j)) q₂
  row_again j f e = stays_next element _ (stays_as g (sym (row_next (scope_of b i q.bindings n base) a k j x h e z))) (omega arith) f

  pub row_halt : {e : Checked} → Handed c e → Stays b i v n q e q₂
  row_halt f = stays_halt element _ (stays_as g (sym (row_next (scope_of b i q.bindings n base) a k (k + 1) x h refl z))) (omega arith) f

-- one more arm
module _ (r from t : ℕ) (base : Answer ℕ) (s : ℕ) {b i : List ℕ} {m : ℕ} {v : Checked} {n : ℕ} {q q₁ : Judge} {k : ℕ} (g : Stays b i v n q (arms_from b i r from m (type_of b i t) (scope_of b i q.bindings n base) k (m - k)) q₁) (h : k < m) {c : Checked} {q₂ : Judge} (d : Stays b i (arm_of b i r (from + 2 * k) (type_of b i s) (scope_of b i q₁.bindings n base)) n q₁ c q₂) (z : variant_type m k (type_of b i t) ≡ type_of b i s) where
  abbrev an_arm : Stays b i (arm_of b i r (from + 2 * k) (variant_type m k (type_of b i t)) (scope_of b i q.bindings n base)) n q₁ c q₂
  an_arm = stays_of d (ap₂ (arm_of b i r (from + 2 * k)) z (sym (stays_scope g base)))

  pub arms_again : (j : ℕ) → c ≡ Ok tt → j ≡ k + 1 → Stays b i v n q (arms_from b i r from m (type_of b i t) (scope_of b i q.bindings n base) j (m - j)) q₂
  arms_again j f e = stays_next an_arm _ (stays_as g (sym (arms_next b i r from m (type_of b i t) (scope_of b i q.bindings n base) k j h e))) (omega arith) f

  pub arms_halt : {e : Checked} → Handed c e → Stays b i v n q e q₂
  arms_halt f = stays_halt an_arm _ (stays_as g (sym (arms_next b i r from m (type_of b i t) (scope_of b i q.bindings n base) k (k + 1) h refl))) (omega arith) f

-- a match: its arms, and then its scrutinee
module _ {b i : List ℕ} (r from m t : ℕ) (base : Answer ℕ) {e n : ℕ} {q : Judge} (z : e ≡ field b i r 1) (y : type_of b i t ≡ type_is (expr_of b i e)) (o : has_places m (type_of b i t) ≡ true) {c : Checked} {q₁ : Judge} (d : Stays b i (arms_from b i r from m (type_of b i t) (scope_of b i q.bindings n base) 0 m) n q c q₁) where
  pub match_then : {a : Checked} {q₂ : Judge} → c ≡ Ok tt → Stays b i (check (expr_of b i e) (scope_of b i q₁.bindings n base)) n q₁ a q₂ → Stays b i (match_of b i r from m (scope_of b i q.bindings n base)) n q a q₂
  match_then f g = stays_of (both_then d f (stays_of g (ap (check (expr_of b i e)) (sym (stays_scope d base)))) (omega arith)) (match_is b i r from m (scope_of b i q.bindings n base) t z y o)

  pub match_halt : {a : Checked} → Handed c a → Stays b i (match_of b i r from m (scope_of b i q.bindings n base)) n q a q₁
  match_halt f = stays_of (both_halt d _ f) (match_is b i r from m (scope_of b i q.bindings n base) t z y o)
