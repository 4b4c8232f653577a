-- The lowering of trees: what each construct stores, and in which order.
-- Assumes nothing.
use Rattle.std.specs.Prelude.{ℕ, Bool, List, [], ◌∷◌, length, ltb}
use Rattle.laws.specs.Table.{pick}
use Rattle.array.specs.Split.{top_of}
use Rattle.array.specs.Path.{path}
use Rattle.book.specs.Tree.{Pat, Expr, constant, witness, variable, tuple, list, in_left, in_right, variant, block, match, match_enum, jet, unwrap_left, unwrap_right, debug, assert, panic, is_none, cast, call, list_fold, array_fold, for_while, hash, no_expr, Exprs, no_exprs, more_exprs, Arms, no_arms, more_arms, Parts, no_parts, more_parts, Stmts, assign, does, end, no_end, Fun, fun}
use Rattle.named.specs.Trace.{Run, pure, bind, stop, bindings}
use Rattle.named.specs.Combinators as node
use Rattle.pattern.specs.Find.{params_pattern}
use Rattle.scope_bindings.specs.Scope as scope
use Rattle.builtins.specs.ArrayFold as arrays
use Rattle.builtins.specs.RawHash as hashes
use Rattle.parts.specs.Joins.{listed, matched, chosen, finished}
use Rattle.recipes.specs.Calls as calls
use Rattle.recipes.specs.ListFold as lists
use Rattle.recipes.specs.ForWhile as loops

-- document 01, Refusal 12: where 256 bindings are live, the root counted, one more is refused at record r
abbrev pub binding_at : {A : Type 0} → ℕ → ℕ → Run A → Run A
binding_at r live m = pick (ltb live 256) m (stop bindings r)

abbrev pub binding : {A : Type 0} → ℕ → List Pat → Run A → Run A
binding r sc m = binding_at r (length sc) m

-- document 01, Stored order: a call's arguments, its body, and then what joins them
abbrev pub called : Bool → ℕ → ℕ → Run ℕ → Run ℕ → Run ℕ
called y r s args body = bind args (λ a. bind body (λ b. finished y r s a b))

-- the bit widths of a hash's words
unfoldable pub widths : Parts → List ℕ
widths no_parts = []
widths (more_parts w e ps) = w ∷ widths ps

-- what is lowered in a scope, whose newest binding comes first; y says whether symbols are asked for
unfoldable mutual
  -- document 01, Stored order. A constant is a scribe leaf; a witness has its name and type; a variable is a selector
  pub lower : Bool → Expr → List Pat → Run ℕ
  lower y (constant r t v u w) sc = node.scribe r v
  lower y (witness r t k x) sc = node.witness r x k
  lower y (variable r t x) sc = scope.variable r x sc
  -- Balanced trees: a row's or list's elements, then what joins them; a variant is its payload along its path
  lower y (tuple r t es) sc = bind (lowers y es sc) (λ xs. node.joins r node.PAIR xs)
  lower y (list r t n es) sc = bind (lowers y es sc) (λ xs. listed r n xs)
  lower y (in_left r t e) sc = bind (lower y e sc) (λ a. node.injl r a)
  lower y (in_right r t e) sc = bind (lower y e sc) (λ a. node.injr r a)
  lower y (variant r t k n es) sc = bind (bind (lowers y es sc) (λ xs. node.joins r node.PAIR xs)) (λ a. node.wraps r (node.kinds node.INJL node.INJR (path n k)) a)
  -- a block is its statements and its end
  lower y (block r t ss) sc = statements y r ss sc
  -- match: left arm, right arm, scrutinee, iden, pair, case, comp. Enum match: arms, tree of cases, scrutinee, iden, pair, comp
  lower y (match r t e p l q g) sc =
      bind (binding r sc (lower y l (p ∷ sc))) (λ a.
      bind (binding r sc (lower y g (q ∷ sc))) (λ b.
      bind (lower y e sc) (λ s. matched r s a b)))
  lower y (match_enum r t e cs) sc =
      bind (arms y r cs sc) (λ xs.
      bind (node.joins r node.CASE xs) (λ k.
      bind (lower y e sc) (λ s. chosen r s k)))
  -- calls: argument tuple, body, comp; Panic's body is fail, Debug's iden, Assert's jet 0; TypeCast is its argument
  lower y (jet r t s j es) sc = called y r s (bind (lowers y es sc) (λ xs. node.joins r node.PAIR xs)) (node.jet r j)
  lower y (unwrap_left r t s e) sc = called y r s (lower y e sc) (calls.unwrap_left r)
  lower y (unwrap_right r t s e) sc = called y r s (lower y e sc) (calls.unwrap_right r)
  lower y (debug r t s e) sc = called y r s (lower y e sc) (node.iden r)
  lower y (assert r t s e) sc = called y r s (lower y e sc) (node.jet r 0)
  lower y (panic r t s) sc = called y r s (node.unit r) (node.fail r)
  lower y (is_none r t e) sc = called y r 0 (lower y e sc) (calls.is_none r)
  lower y (cast r t e) sc = lower y e sc
  -- each call lowers its function's body anew; a recipe shares it
  lower y (call r t f es) sc = called y r 0 (bind (lowers y es sc) (λ xs. node.joins r node.PAIR xs)) (body y f)
  lower y (list_fold r t f n e a) sc = called y r 0 (node.joined (node.pair r) (lower y e sc) (lower y a sc)) (bind (body y f) (λ g. lists.list_fold r n g))
  lower y (array_fold r t f n e a) sc = called y r 0 (node.joined (node.pair r) (lower y e sc) (lower y a sc)) (bind (body y f) (λ g. arrays.array_fold r n g))
  lower y (for_while r t f w a x) sc = called y r 0 (node.joined (node.pair r) (lower y a sc) (lower y x sc)) (bind (body y f) (λ g. loops.for_while r (top_of w) g))
  lower y (hash r t s ps) sc = called y r s (bind (words y ps sc) (λ xs. node.joins r node.PAIR xs)) (hashes.raw_hash r (widths ps))
  -- what no book that READ accepts has
  lower y no_expr sc = pure 0

  -- document 01, Stored order: a row's elements all precede what joins them
  pub lowers : Bool → Exprs → List Pat → Run (List ℕ)
  lowers y no_exprs sc = pure []
  lowers y (more_exprs e es) sc = bind (lower y e sc) (λ a. bind (lowers y es sc) (λ xs. pure (a ∷ xs)))

  -- a hash's words are its arguments
  pub words : Bool → Parts → List Pat → Run (List ℕ)
  words y no_parts sc = pure []
  words y (more_parts w e ps) sc = bind (lower y e sc) (λ a. bind (words y ps sc) (λ xs. pure (a ∷ xs)))

  -- the arms of an enum's match
  pub arms : Bool → ℕ → Arms → List Pat → Run (List ℕ)
  arms y r no_arms sc = pure []
  arms y r (more_arms p e cs) sc = bind (binding r sc (lower y e (p ∷ sc))) (λ a. bind (arms y r cs sc) (λ xs. pure (a ∷ xs)))

  -- document 01, Stored order: assignment: e, binding, iden, pair, rest, comp. Statement e: e, rest, pair, iden, drop, comp. Empty end: unit
  pub statements : Bool → ℕ → Stmts → List Pat → Run ℕ
  statements y r (assign s p e rest) sc = bind (lower y e sc) (λ a. binding s sc (bind (calls.paired s a) (λ i. bind (statements y r rest (p ∷ sc)) (λ b. node.comp s i b))))
  statements y r (does s e rest) sc = bind (lower y e sc) (λ a. bind (statements y r rest sc) (λ b. calls.followed s a b))
  statements y r (end e) sc = lower y e sc
  statements y r no_end sc = node.unit r

  -- document 01, Scope: a function's scope starts with its parameter tuple only
  pub body : Bool → Fun → Run ℕ
  body y (fun r t ps e) = lower y e (params_pattern ps ∷ [])
