-- What each function of the lowering's cycle does, by the mark of its record. That together they are `lower` is proved, not assumed.
-- Assumes nothing.
use Rattle.std.specs.Prelude.{ℕ, ◌+◌, ◌-◌, ◌<◌, ◌≡◌, Bool, List, [], ◌∷◌, eqb}
use Rattle.laws.specs.Table.{pick}
use Rattle.book.specs.Format.{PATTERN, EXPRESSION, SA, EH}
use Rattle.book.specs.Index.{mark, field, Lies}
use Rattle.book.specs.Stands.{Stands}
use Rattle.book.specs.Tree.{Pat, Stmts, tree, expr_of, pattern_of, fun_of, group, stmts_at}
use Rattle.named.specs.Trace.{Run, pure, bind}
use Rattle.scope_bindings.specs.Scope.{scope_of, ScopeStands}
use Rattle.scope_bindings.specs.declared.ScopeBindings.{ScopeBindings}
use Rattle.recipes.specs.Calls as calls
use Rattle.parts.specs.Joins.{chosen, finished}
use Rattle.parts.specs.declared.view.Arm.{Arm}
use Rattle.parts.specs.declared.view.Span.{Span}
use Rattle.parts.specs.Parts.{Spanned, span_at, is_call, is_functional, symbol_at, gather_run, wrap_run, fold_run, plain_run}
use Rattle.compile.specs.Lower.{binding, lower, statements, body}
use Rattle.compile.specs.declared.cycle.Lowering.{Lowering}

-- of the book that a lowering reads: a scope stands, and has these patterns
module _ (l : Lowering) where
  abbrev pub ScopeIn : ScopeBindings → Type 0
  ScopeIn s = ScopeStands l.book.now.bytes l.book.now.index s

  abbrev pub patterns : ScopeBindings → List Pat
  patterns s = scope_of l.book.now.bytes l.book.now.index s

  -- what its expression r stores in a scope
  abbrev pub lowered : ℕ → ScopeBindings → Run ℕ
  lowered r s = lower l.symbols (expr_of l.book.now.bytes l.book.now.index r) (patterns s)

module _ (y : Bool) (b i : List ℕ) (r m : ℕ) where
  -- the element at field j: an arm of a match binds the pattern before it
  unfoldable pub element_run : List Pat → ℕ → Run ℕ
  element_run sc j = pick (eqb m EH)
      (binding r sc (lower y (expr_of b i (field b i r j)) (pattern_of b i (field b i r (j - 1)) ∷ sc)))
      (lower y (expr_of b i (field b i r j)) sc)

  -- n elements, stride s apart, from field j on
  unfoldable pub elements_run : List Pat → ℕ → ℕ → ℕ → Run (List ℕ)
  elements_run sc s j n = group s (pure []) (λ k more. bind (element_run sc k) (λ a. bind more (λ xs. pure (a ∷ xs)))) j n

  unfoldable pub row_run : List Pat → Run ℕ
  row_run sc = let p = span_at m (field b i r) in bind (elements_run sc p.stride p.from p.count) (gather_run b i r m)

  unfoldable pub body_run : Run ℕ
  body_run = pick (is_functional m) (bind (body y (fun_of b i (field b i r 1))) (fold_run b i r m)) (plain_run b i r m)

  -- a call, after its arguments
  unfoldable pub call_run : ℕ → Run ℕ
  call_run a = bind body_run (λ g. finished y r (symbol_at m (field b i r)) a g)

  -- what an expression makes of its row's node
  unfoldable pub complete_run : List Pat → ℕ → Run ℕ
  complete_run sc a =
      pick (eqb m EH) (bind (lower y (expr_of b i (field b i r 1)) sc) (λ s. chosen r s a))
      (pick (is_call m) (call_run a) (wrap_run b i r m a))

-- what callers know of field j of record r, which is an element's: it names an earlier expression, and an arm's pattern is named before it
pub record InSpan (b i : List ℕ) (r m j : ℕ) : Type 0 where
  pub lies : Lies b i r j
  pub stands : Stands b i (field b i r j) EXPRESSION
  pub below : field b i r j < r
  pub after : m ≡ EH → 0 < j
  pub before : m ≡ EH → Lies b i r (j - 1)
  pub pattern : m ≡ EH → Stands b i (field b i r (j - 1)) PATTERN

-- a statement s: what is stored before the rest of its block, the scope of that rest, and what is stored after it
module _ (b i : List ℕ) (s : ℕ) where
  unfoldable pub begin_run : Bool → List Pat → Run ℕ
  begin_run y sc = pick (eqb (mark b i s) SA)
      (bind (lower y (expr_of b i (field b i s 1)) sc) (λ a. binding s sc (calls.paired s a)))
      (lower y (expr_of b i (field b i s 0)) sc)

  unfoldable pub entered : List Pat → List Pat
  entered sc = pick (eqb (mark b i s) SA) (pattern_of b i (field b i s 0) ∷ sc) sc

module _ (b i : List ℕ) (r : ℕ) where
  -- the n statements of a block from field k on, and its end
  unfoldable pub stmts_of : ℕ → ℕ → Stmts
  stmts_of k n = stmts_at (field b i r) (λ j. tree b i (field b i r j)) k n

-- what callers learn of the scope q that a block's rest has after statement s, in the scope p
pub record Enters (b i : List ℕ) (s : ℕ) (p q : ScopeBindings) : Type 0 where
  pub stands : ScopeStands b i q
  pub is : (mark b i s ≡ SA → p.count < 256) → scope_of b i q ≡ entered b i s (scope_of b i p)

-- and of the book that a lowering reads: what callers know of a span of n elements, of an element's field, of the scope after a statement
module _ (l : Lowering) where
  abbrev pub SpanIn : ℕ → ℕ → Span → ℕ → Type 0
  SpanIn r m p n = Spanned l.book.now.bytes l.book.now.index r m p × (n ≡ p.count)

  abbrev pub ElementIn : ℕ → ℕ → ℕ → Type 0
  ElementIn r m j = InSpan l.book.now.bytes l.book.now.index r m j

  abbrev pub EntersIn : ℕ → ScopeBindings → ScopeBindings → Type 0
  EntersIn t p q = Enters l.book.now.bytes l.book.now.index t p q

  -- what its record r of mark m stores in the scope s: the element at field j, the elements of the span p, the whole row
  abbrev pub element_in : ℕ → ℕ → ScopeBindings → ℕ → Run ℕ
  element_in r m s j = element_run l.symbols l.book.now.bytes l.book.now.index r m (patterns l s) j

  abbrev pub elements_in : ℕ → ℕ → ScopeBindings → Span → Run (List ℕ)
  elements_in r m s p = elements_run l.symbols l.book.now.bytes l.book.now.index r m (patterns l s) p.stride p.from p.count

  abbrev pub row_in : ℕ → ℕ → ScopeBindings → Run ℕ
  row_in r m s = row_run l.symbols l.book.now.bytes l.book.now.index r m (patterns l s)

  -- and after that row, whose node is a
  abbrev pub made_in : ℕ → ℕ → ScopeBindings → ℕ → Run ℕ
  made_in r m s a = complete_run l.symbols l.book.now.bytes l.book.now.index r m (patterns l s) a

  -- what the arm a of record r stores, where its pattern is bound
  abbrev pub arm_in : ℕ → Arm → ScopeBindings → Run ℕ
  arm_in r a s = binding r (patterns l s)
      (lower l.symbols (expr_of l.book.now.bytes l.book.now.index a.body) (pattern_of l.book.now.bytes l.book.now.index a.pattern ∷ patterns l s))

  -- what a call stores: its body, and all of it after its arguments; what the function f stores
  abbrev pub body_in : ℕ → ℕ → Run ℕ
  body_in r m = body_run l.symbols l.book.now.bytes l.book.now.index r m

  abbrev pub call_in : ℕ → ℕ → ℕ → Run ℕ
  call_in r m a = call_run l.symbols l.book.now.bytes l.book.now.index r m a

  abbrev pub function_in : ℕ → Run ℕ
  function_in f = body l.symbols (fun_of l.book.now.bytes l.book.now.index f)

  -- what a block stores: statement t up to its rest, and the end of block r
  abbrev pub begin_in : ℕ → ScopeBindings → Run ℕ
  begin_in t s = begin_run l.book.now.bytes l.book.now.index t l.symbols (patterns l s)

  abbrev pub last_in : ℕ → ScopeBindings → Run ℕ
  last_in r s = statements l.symbols r (stmts_of l.book.now.bytes l.book.now.index r (2 + field l.book.now.bytes l.book.now.index r 1) 0) (patterns l s)
