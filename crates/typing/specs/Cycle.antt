-- What each function of CHECK's cycle does, by the mark of its record, and what it asks of the rows that it is lent.
-- Assumes nothing.
use Rattle.std.specs.Prelude.{ℕ, zero, suc, ◌+◌, ◌*◌, ◌≤◌, ◌<◌, ◌≡◌, true, false, List, ◌∷◌, eqb, length, get_or, Ok, Option}
use Rattle.std.specs.Result.{result_and}
use Rattle.laws.specs.Table.{pick}
use Rattle.simplicity.specs.Types.{Ty, one, same}
use Rattle.book.specs.Format.{TYPE, PATTERN, EXPRESSION, FUNCTION, SA, EB, EM, EH, CK}
use Rattle.book.specs.Index.{mark, field, depth, Lies}
use Rattle.book.specs.Stands.{Stands}
use Rattle.book.specs.Text.{Text}
use Rattle.book.specs.Valid.{Valid}
use Rattle.book.specs.Tree.{Stmts, stmts_at, group, tree, type_of, pattern_of, expr_of}
use Rattle.parts.specs.Parts.{span_at}
use Rattle.shapes.specs.Shapes.{type_is, has_places}
use Rattle.binders.specs.Binders.{Binding, binding}
use Rattle.binders.specs.declared.Binding.{Binding as Entry}
use Rattle.binders.specs.Memos.{Known, pattern_twice, params_twice, Live, entry_at, scope_of}
use Rattle.typing.specs.declared.cycle.Judge.{Judge}
use Rattle.typing.specs.declared.cycle.Scope.{Scope}
use Rattle.typing.specs.Check.{Checked, agree, binds, variant_type, check, statements}

-- one of a valid book's records
pub record Among (b i : List ℕ) (r : ℕ) : Type 0 where
  pub records : ℕ
  pub valid : Valid b i records
  pub inside : r < records

-- what a judgement works on: which patterns and functions have a name twice, which pairs are known to fit, which records were searched in vain,
-- and the live bindings, with room for 256 of them at each of 255 depths
pub record Rows (b i : List ℕ) (q : Judge) : Type 0 where
  pub long : length q.doubled.now ≡ 4096
  pub patterns : (r : ℕ) → Stands b i r PATTERN → get_or q.doubled.now r false ≡ pattern_twice b i r
  pub functions : (r : ℕ) → Stands b i r FUNCTION → get_or q.doubled.now r false ≡ params_twice b i r
  pub known : Known b i q.memo.now
  pub missing : length q.vain ≡ 4096
  pub room : length q.bindings ≡ 65280

-- where n bindings are live
pub record Scoped (b i : List ℕ) (q : Judge) (n : ℕ) (base : Option ℕ) : Type 0 where
  pub rows : Rows b i q
  pub live : Live b i q.bindings n base

-- there is room for the bindings of record r and of all below it: at most 256 at each depth
pub record Enough (b i : List ℕ) (r n : ℕ) : Type 0 where
  pub room : n + 256 * depth b i r ≤ 65280

-- a judgement that comes to v gave c; the memo is still the row that was lent, and the names and the n live bindings stay as they were
pub record Stays (b i : List ℕ) (v : Checked) (n : ℕ) (q : Judge) (c : Checked) (q' : Judge) : Type 0 where
  pub is : c ≡ v
  pub doubled : q'.doubled.now ≡ q.doubled.now
  pub lent : q'.memo.ghost_name ≡ q.memo.ghost_name
  pub known : Known b i q'.memo.now
  pub missing : length q'.vain ≡ 4096
  pub kept : length q'.bindings ≡ length q.bindings
  pub before : (j : ℕ) → j < n → entry_at q'.bindings j ≡ entry_at q.bindings j

-- the row holds n live bindings, which make the scope sc
pub record Holds (b i : List ℕ) (bs : List Entry) (n : ℕ) (base : Option ℕ) (sc : List Binding) : Type 0 where
  pub live : Live b i bs n base
  pub is : scope_of b i bs n base ≡ sc

-- a binding of pattern p to type t, where n are live
pub record Bound (b i : List ℕ) (v : Checked) (p t n : ℕ) (base : Option ℕ) (q : Judge) (c : Checked) (q' : Judge) : Type 0 where
  pub stays : Stays b i v n q c q'
  pub newer : c ≡ Ok tt → Holds b i q'.bindings (n + 1) base (binding (pattern_of b i p) (type_of b i t) ∷ scope_of b i q.bindings n base)

module _ (b i : List ℕ) where
  -- the elements of a record's row
  unfoldable pub checks_at : ℕ → List Binding → ℕ → ℕ → ℕ → Checked
  checks_at r sc s k n = group s (Ok tt) (λ j v. result_and (check (expr_of b i (field b i r j)) sc) v) k n

  unfoldable pub row_of : ℕ → ℕ → List Binding → Checked
  row_of r m sc = let p = span_at m (field b i r) in checks_at r sc p.stride p.from p.count

  -- the arm whose pattern is field j, of type t; the arms from k of n on, of which so many are left, of a match on type t
  unfoldable pub arm_of : ℕ → ℕ → Ty → List Binding → Checked
  arm_of r j t sc = result_and (binds r (pattern_of b i (field b i r j)) t) (check (expr_of b i (field b i r (j + 1))) (binding (pattern_of b i (field b i r j)) t ∷ sc))

  unfoldable pub arms_from : ℕ → ℕ → ℕ → Ty → List Binding → ℕ → ℕ → Checked
  arms_from r from n t sc k zero = Ok tt
  arms_from r from n t sc k (suc left) = result_and (arm_of r (from + 2 * k) (variant_type n k t) sc) (arms_from r from n t sc (suc k) left)

  unfoldable pub match_of : ℕ → ℕ → ℕ → List Binding → Checked
  match_of r from n sc = let e = expr_of b i (field b i r 1) in
      result_and (agree (has_places n (type_is e)) r) (result_and (arms_from r from n (type_is e) sc 0 n) (check e sc))

  -- the n statements of a block from field k on, and its end
  unfoldable pub stmts_of : ℕ → ℕ → ℕ → Stmts
  stmts_of r k n = stmts_at (field b i r) (λ j. tree b i (field b i r j)) k n

  unfoldable pub block_of : ℕ → List Binding → Checked
  block_of r sc = statements (stmts_of r 2 (field b i r 1)) sc

  -- a statement, and the scope of the rest of its block; how many bindings are live there
  unfoldable pub statement_of : ℕ → List Binding → Checked
  statement_of s sc = pick (eqb (mark b i s) SA)
      (result_and (check (expr_of b i (field b i s 1)) sc) (binds s (pattern_of b i (field b i s 0)) (type_is (expr_of b i (field b i s 1)))))
      (result_and (check (expr_of b i (field b i s 0)) sc) (agree (same (type_is (expr_of b i (field b i s 0))) one) s))

  unfoldable pub entered_of : ℕ → List Binding → List Binding
  entered_of s sc = pick (eqb (mark b i s) SA) (binding (pattern_of b i (field b i s 0)) (type_is (expr_of b i (field b i s 1))) ∷ sc) sc

  unfoldable pub live_after : ℕ → ℕ → ℕ
  live_after s n = pick (eqb (mark b i s) SA) (n + 1) n

  -- the parts of an expression of mark m
  unfoldable pub parts_of : ℕ → ℕ → List Binding → Checked
  parts_of r m sc =
      pick (eqb m EB) (block_of r sc)
      (pick (eqb m EM) (match_of r 2 2 sc)
      (pick (eqb m EH) (match_of r 3 (field b i r 2) sc)
      (pick (eqb m CK) (check (expr_of b i (field b i r 1)) sc) (row_of r m sc))))

-- the statement s
pub record Stated (b i : List ℕ) (s n : ℕ) (base : Option ℕ) (q : Judge) (c : Checked) (q' : Judge) : Type 0 where
  pub stays : Stays b i (statement_of b i s (scope_of b i q.bindings n base)) n q c q'
  pub newer : c ≡ Ok tt → Holds b i q'.bindings (live_after b i s n) base (entered_of b i s (scope_of b i q.bindings n base))

-- the arm whose pattern is field j: a pattern and an expression, both of lesser depth
pub record ArmAt (b i : List ℕ) (r j : ℕ) : Type 0 where
  pub lies : Lies b i r j
  pub then_lies : Lies b i r (j + 1)
  pub pattern : Stands b i (field b i r j) PATTERN
  pub body : Stands b i (field b i r (j + 1)) EXPRESSION
  pub below : field b i r (j + 1) < r
  pub shallower : depth b i (field b i r (j + 1)) < depth b i r

-- a match's scrutinee, and its n arms from field `from` on
pub record ArmsAt (b i : List ℕ) (r from n : ℕ) : Type 0 where
  pub some : 1 ≤ n
  pub few : n ≤ 256
  pub low : from ≤ 3
  pub lies : Lies b i r 1
  pub scrutinee : Stands b i (field b i r 1) EXPRESSION
  pub below : field b i r 1 < r
  pub shallower : depth b i (field b i r 1) < depth b i r
  pub each : (k : ℕ) → k < n → ArmAt b i r (from + 2 * k)

-- a type with a place for each of n variants
pub record Places (b i : List ℕ) (t n : ℕ) : Type 0 where
  pub type : Stands b i t TYPE
  pub all : has_places n (type_of b i t) ≡ true

-- what the contracts say of a book that was read
module _ (t : Text) where
  -- a scope's bindings are live in the rows of a judgement; and there is room for those of record r too, so that it can be judged
  abbrev pub ScopedIn : Judge → Scope → Type 0
  ScopedIn q s = Scoped t.bytes t.index q s.live s.base

  abbrev pub Judgeable : ℕ → Judge → Scope → Type 0
  Judgeable r q s = ScopedIn q s × (Enough t.bytes t.index r s.live)

  -- c is what `rule` gives of the bindings in scope; the names and those bindings stay as they were
  abbrev pub Judges : (List Binding → Checked) → Scope → Judge → Checked → Judge → Type 0
  Judges rule s q c q' = Stays t.bytes t.index (rule (scope_of t.bytes t.index q.bindings s.live s.base)) s.live q c q'

  -- pattern p was bound to type ty, at record r; statement r was judged
  abbrev pub BoundIn : ℕ → ℕ → ℕ → Scope → Judge → Checked → Judge → Type 0
  BoundIn r p ty s q c q' = Bound t.bytes t.index (binds r (pattern_of t.bytes t.index p) (type_of t.bytes t.index ty)) p ty s.live s.base q c q'

  abbrev pub StatedIn : ℕ → Scope → Judge → Checked → Judge → Type 0
  StatedIn r s q c q' = Stated t.bytes t.index r s.live s.base q c q'

  -- the rules of a whole expression, and of the n arms of a match on type ty
  abbrev pub checked : ℕ → List Binding → Checked
  checked r sc = check (expr_of t.bytes t.index r) sc

  abbrev pub all_arms : ℕ → ℕ → ℕ → ℕ → List Binding → Checked
  all_arms r from n ty sc = arms_from t.bytes t.index r from n (type_of t.bytes t.index ty) sc 0 n
