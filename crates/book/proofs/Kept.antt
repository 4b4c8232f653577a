-- How a record is made depends on no tree but those of the records that its fields name.
-- Assumes nothing.
use Prim.Native.Nat.{ℕ, zero, suc, ◌+◌, ◌*◌, ◌≤◌, ◌<◌}
use mathlib.Core.Bool.{Bool, true, false}
use mathlib.Core.List.{List, [], ◌∷◌}
use mathlib.Core.Path.{◌≡◌, refl, sym, ap, ap₂, ◌∙◌, fun_ext}
use native.Mathlib.Decide.{dec_lt}
use native.Mathlib.Omega.{arith}
use borrow.Author.Tests.{lt-ltb, le-ltb, eqb-true, eqb-false, ne_eqb}
use lib.Dec.{T, eqb, ltb, lit<}
use lib.ListN.{get_or}
use Rattle.laws.specs.Table.{pick, Case, at, choose}
use Rattle.book.specs.Format.{Fields, role_of, total_of, EXPRESSION, PT, ET, EL, EN, EB, EH, CJ, CF, CH, FN}
use Rattle.book.specs.Read.{names}
use Rattle.book.specs.Tree.{no_pats, more_pats, pat_row, param, tuple, list, variant, block, match_enum, jet, call, hash, no_exprs, more_exprs, no_arms, more_arms, no_parts, more_parts, end, no_end, fun, Tree, pattern, expression, function, nothing, as_type, as_pattern, as_expr, as_stmt, as_fun, group, pats_at, exprs_at, arms_at, parts_at, params_at, last_at, stmts_at, Maker, makers, maker}
use Rattle.book.proofs.Roles.{layout, counted, is_kind, kind_some, names_kind, each_role, each_inside, last_role, last_inside}

-- groups are equal where each time's share is
group_same : {A : Type 0} (s : ℕ) (e : A) (f g : ℕ → A → A) (k m : ℕ) → ((q : ℕ) → q < m → f (k + q * s) ≡ g (k + q * s)) → group s e f k m ≡ group s e g k m
unfolding group
group_same s e f g k zero h = refl
group_same s e f g k (suc m) h =
    let here : k + 0 * s ≡ k = omega arith in
    let there : (q : ℕ) → k + suc q * s ≡ k + s + q * s = λ q. omega arith in
    let first : f k ≡ g k = rw here at (h 0 (omega arith)) in
    rw (first, group_same s e f g (k + s) m (λ q p. rw (there q) at (h (suc q) (omega arith))))

-- the kind that field k names, 0 where it names none or where there is no such field; in the head it computes
abbrev refers : Fields → ℕ → (ℕ → ℕ) → ℕ → ℕ
refers l n x k = pick (ltb k l.heads) (names (role_of l n k) (x k)) (pick (ltb k (total_of l n)) (names (role_of l n k) (x k)) 0)

-- the trees of what the fields name, and nothing at the other fields
abbrev kept : Fields → ℕ → (ℕ → ℕ) → (ℕ → Tree) → ℕ → Tree
kept l n x a k = pick (eqb (refers l n x k) 0) nothing (a k)

-- what a field with a kind's role names is kept
kind_kept : (kd x : ℕ) (t : Tree) → T (is_kind kd) → t ≡ pick (eqb (names kd x) 0) nothing t
kind_kept kd x t h = rw (names_kind kd x h, ne_eqb kd 0 (kind_some kd h))

-- a choice between one thing and itself
pick_same : {A : Type 0} (t : Bool) (y : A) → pick t y y ≡ y
pick_same true y = refl
pick_same false y = refl

module _ (l : Fields) (n : ℕ) (x : ℕ → ℕ) where
  -- among the fields the role decides, and beyond them there is none
  refers_inside : (k : ℕ) → k < total_of l n → refers l n x k ≡ names (role_of l n k) (x k)
  refers_inside k h = rw (lt-ltb k (total_of l n) h) (pick_same (ltb k l.heads) (names (role_of l n k) (x k)))

  refers_beyond : (k : ℕ) → total_of l n ≤ k → refers l n x k ≡ 0
  unfolding total_of
  refers_beyond k h =
      let past : l.heads ≤ k = omega arith in
      rw (le-ltb k l.heads past, le-ltb k (total_of l n) h)

  -- two rows of trees that agree on what the fields name
  kept_same : (f g : ℕ → Tree) → ((k : ℕ) → k < total_of l n → (names (role_of l n k) (x k) ≡ 0 → ⊥) → f k ≡ g k) → kept l n x f ≡ kept l n x g
  kept_same f g h = fun_ext (λ k. go k (dec_lt k (total_of l n)))
    where
      case : (k : ℕ) (t : Bool) → eqb (names (role_of l n k) (x k)) 0 ≡ t → k < total_of l n → pick t nothing (f k) ≡ pick t nothing (g k)
      case k true e o = refl
      case k false e o = h k o (eqb-false _ 0 e)

      go : (k : ℕ) → Dec (k < total_of l n) → kept l n x f k ≡ kept l n x g k
      go k (yes o) = rw (refers_inside k o) (case k _ refl o)
      go k (no o) = rw (refers_beyond k (omega arith))

  -- a field of the group that has a kind's role is kept
  each_kept : (a : ℕ → Tree) (k q e : ℕ) → k ≡ l.heads + q * l.eachs + e → q < n → e < l.eachs → T (is_kind (get_or l.each e 0)) → a k ≡ kept l n x a k
  each_kept a k q e z h g t = rw (refers_inside k (each_inside l n k q e z h g), each_role l n k q e z h g) (kind_kept _ (x k) (a k) t)

  -- the last field is kept if it names a record
  last_kept : (a : ℕ → Tree) (k : ℕ) → k ≡ l.heads + n * l.eachs → (l.last ≡ 0 → ⊥) → kept l n x a k ≡ pick (eqb (names l.last (x k)) 0) nothing (a k)
  last_kept a k z h = rw (refers_inside k (last_inside l n k z h), last_role l n k z)

  -- a group of expressions is kept
  exprs_kept : (a : ℕ → Tree) → l.eachs ≡ 1 → T (is_kind (get_or l.each 0 0)) → exprs_at a l.heads n ≡ exprs_at (kept l n x a) l.heads n
  exprs_kept a one t = group_same 1 no_exprs _ _ l.heads n (λ q h. ap (λ w. more_exprs (as_expr w)) (each_kept a _ q 0 (rw one (omega arith)) h (rw one (lit< tt)) t))

-- P holds at each entry of a table
data Every {A : Type 0} (P : ℕ → A → Type 0) : List (Case A) → Type 0 where
  none : Every P []
  ◌&◌ : {k : ℕ} {a : A} {es : List (Case A)} → P k a → Every P es → Every P (at k a ∷ es)

infixr 60 ◌&◌
-- so it holds of what is chosen
chosen : {A : Type 0} (P : ℕ → A → Type 0) (es : List (Case A)) (m : ℕ) (d : A) → Every P es → P m d → P m (choose es m d)
chosen P es m d none p = p
chosen P es m d (◌&◌ {k = k} {a = a} {es = rest} h t) p = go (chosen P rest m d t p) (eqb m k) refl
  where
    go : P m (choose rest m d) → (t : Bool) → eqb m k ≡ t → P m (pick t a (choose rest m d))
    go c true e = rw (eqb-true m k e) h
    go c false e = c

-- a maker looks at nothing but what its mark's fields name
abbrev Keeps : ℕ → Maker → Type 0
Keeps m f = f ≡ (λ r x a. f r x (kept (layout m) (counted m x) x a))

-- makers that make the same of everything are equal
by_parts_lem : {f g : Maker} → ((r : ℕ) (x : ℕ → ℕ) (a : ℕ → Tree) → f r x a ≡ g r x a) → f ≡ g
by_parts_lem h = fun_ext (λ r. fun_ext (λ x. fun_ext (λ a. h r x a)))

-- the groups of pt, eh, ch, fn and eb, the end of eb, the body of fn
module _ (x : ℕ → ℕ) (a : ℕ → Tree) where
  pats_kept : pats_at a 1 (x 0) ≡ pats_at (kept (layout PT) (x 0) x a) 1 (x 0)
  pats_kept = group_same 1 no_pats _ _ 1 (x 0) (λ q h. ap (λ w. more_pats (as_pattern w)) (each_kept (layout PT) (x 0) x a _ q 0 (omega arith) h (lit< tt) tt))

  arms_kept : arms_at a 3 (x 2) ≡ arms_at (kept (layout EH) (x 2) x a) 3 (x 2)
  arms_kept =
      group_same 2 no_arms _ _ 3 (x 2) (λ q h. ap₂ (λ w z. more_arms (as_pattern w) (as_expr z))
      (each_kept (layout EH) (x 2) x a _ q 0 (omega arith) h (lit< tt) tt)
      (each_kept (layout EH) (x 2) x a _ q 1 (omega arith) h (lit< tt) tt))

  parts_kept : parts_at x a 3 (x 2) ≡ parts_at x (kept (layout CH) (x 2) x a) 3 (x 2)
  parts_kept = group_same 2 no_parts _ _ 3 (x 2) (λ q h. ap (λ w. more_parts (x (3 + q * 2)) (as_expr w)) (each_kept (layout CH) (x 2) x a _ q 1 (omega arith) h (lit< tt) tt))

  params_kept : params_at x a 2 (x 1) ≡ params_at x (kept (layout FN) (x 1) x a) 2 (x 1)
  params_kept = group_same 2 [] _ _ 2 (x 1) (λ q h. ap (λ w ps. param (x (2 + q * 2)) (as_type w) ∷ ps) (each_kept (layout FN) (x 1) x a _ q 1 (omega arith) h (lit< tt) tt))

  end_kept : last_at x a (2 + x 1) ≡ last_at x (kept (layout EB) (x 1) x a) (2 + x 1)
  unfolding names
  end_kept = rw (last_kept (layout EB) (x 1) x a (2 + x 1) (omega arith) (λ z. omega arith)) (go (eqb (x (2 + x 1)) 65535) (a (2 + x 1)))
    where
      go : (t : Bool) (y : Tree) → pick t no_end (end (as_expr y)) ≡ pick t no_end (end (as_expr (pick (eqb (pick t 0 EXPRESSION) 0) nothing y)))
      go true y = refl
      go false y = refl

  stmts_kept : stmts_at x a 2 (x 1) ≡ stmts_at x (kept (layout EB) (x 1) x a) 2 (x 1)
  stmts_kept =
      ap (λ w. group 1 w (λ j. as_stmt (a j)) 2 (x 1)) end_kept
      ∙ group_same 1 _ _ _ 2 (x 1) (λ q h. ap as_stmt (each_kept (layout EB) (x 1) x a _ q 0 (omega arith) h (lit< tt) tt))

  body_kept : a (2 + 2 * x 1) ≡ kept (layout FN) (x 1) x a (2 + 2 * x 1)
  unfolding names
  body_kept = sym (last_kept (layout FN) (x 1) x a (2 + 2 * x 1) (omega arith) (λ z. omega arith))

-- and so does each row of the table: what is in the head computes, what is in a group or last is by the lemmas
keeps : Every Keeps makers
unfolding names role_of
keeps =
    -- tu, ts, tp, vu, vl, vr, vp, pi, pn
    refl & refl & refl & refl & refl & refl & refl & refl & refl
    & by_parts_lem (λ r x a. ap (λ w. pattern (pat_row w)) (pats_kept x a))
    -- ec, ew, ev
    & refl & refl & refl
    & by_parts_lem (λ r x a. ap (λ w. expression (tuple r (as_type (a 0)) w)) (exprs_kept (layout ET) (x 1) x a refl tt))
    & by_parts_lem (λ r x a. ap (λ w. expression (list r (as_type (a 0)) (x 1) w)) (exprs_kept (layout EL) (x 2) x a refl tt))
    -- e0, e1
    & refl & refl
    & by_parts_lem (λ r x a. ap (λ w. expression (variant r (as_type (a 0)) (x 1) (x 2) w)) (exprs_kept (layout EN) (x 3) x a refl tt))
    & by_parts_lem (λ r x a. ap (λ w. expression (block r (as_type (a 0)) w)) (stmts_kept x a))
    -- sa, se, em
    & refl & refl & refl
    & by_parts_lem (λ r x a. ap (λ w. expression (match_enum r (as_type (a 0)) (as_expr (a 1)) w)) (arms_kept x a))
    & by_parts_lem (λ r x a. ap (λ w. expression (jet r (as_type (a 0)) (x 1) (x 2) w)) (exprs_kept (layout CJ) (x 3) x a refl tt))
    -- cl, cr, cd, ca, cp, cn, ck
    & refl & refl & refl & refl & refl & refl & refl
    & by_parts_lem (λ r x a. ap (λ w. expression (call r (as_type (a 0)) (as_fun (a 1)) w)) (exprs_kept (layout CF) (x 2) x a refl tt))
    -- cq, cy, cw
    & refl & refl & refl
    & by_parts_lem (λ r x a. ap (λ w. expression (hash r (as_type (a 0)) (x 1) w)) (parts_kept x a))
    & by_parts_lem (λ r x a. ap₂ (λ w z. function (fun r (as_type (a 0)) w (as_expr z))) (params_kept x a) (body_kept x a))
    & none

-- trees that agree on what the fields name make the same record
pub maker_same : (m r : ℕ) (x : ℕ → ℕ) (f g : ℕ → Tree) → ((k : ℕ) → k < total_of (layout m) (counted m x) → (names (role_of (layout m) (counted m x) k) (x k) ≡ 0 → ⊥) → f k ≡ g k) → maker m r x f ≡ maker m r x g
maker_same m r x f g h =
    let e : Keeps m (maker m) = chosen Keeps makers m (λ r x a. nothing) keeps refl in
    let at_row : (a : ℕ → Tree) → maker m r x a ≡ maker m r x (kept (layout m) (counted m x) x a) = λ a. ap (λ (w : Maker). w r x a) e in
    at_row f ∙ ap (maker m r x) (kept_same (layout m) (counted m x) x f g h) ∙ sym (at_row g)
