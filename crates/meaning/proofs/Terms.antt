-- The lowered program as a term: what LOWER's nodes unfold to, with no thought of their numbers.
-- Assumes nothing.
use Prim.Native.Nat.{ℕ, zero, suc, ◌-◌, ◌^◌}
use mathlib.Core.Bool.{Bool, true, false}
use mathlib.Core.List.{List, [], ◌∷◌, map}
use mathlib.Core.Option.{Option, some, none}
use lib.Dec.{eqb, ltb}
use lib.ListN.{get_or}
use Rattle.laws.specs.Table.{pick, both}
use Rattle.array.specs.Split.{top_of}
use Rattle.array.specs.Path.{Side, on_left, on_right, path}
use Rattle.array.specs.Row.{row}
use Rattle.array.specs.Partition.{partition}
use Rattle.jet.specs.Jets.{add_of}
use Rattle.simplicity.specs.Terms.{Term, iden, unit, injl, injr, take, drop, comp, case, pair, assertl, assertr, fail, scribe}
use Rattle.simplicity.specs.Terms as terms
use Rattle.book.specs.Tree.{Pat, Expr, constant, witness, variable, tuple, list, in_left, in_right, variant, block, match, match_enum, jet, unwrap_left, unwrap_right, debug, assert, panic, is_none, cast, call, list_fold, array_fold, for_while, hash, no_expr, Exprs, no_exprs, more_exprs, Arms, no_arms, more_arms, Parts, no_parts, more_parts, Stmts, assign, does, end, no_end, Fun, fun}
use Rattle.pattern.specs.Find.{params_pattern}
use Rattle.scope_bindings.specs.Scope.{lookup}
use Rattle.compile.specs.Lower.{widths}

-- a selector; a payload behind its path
unfoldable pub selector : List Side → Term
selector [] = iden
selector (on_left ∷ ks) = take (selector ks)
selector (on_right ∷ ks) = drop (selector ks)

unfoldable pub inject : List Side → Term → Term
inject [] t = t
inject (on_left ∷ ks) t = injl (inject ks t)
inject (on_right ∷ ks) t = injr (inject ks t)

unfoldable pub fetch : Option (List Side) → Term
fetch (some ks) = selector ks
fetch none = fail

abbrev pub bit : Bool → Term
bit true = injr unit
bit false = injl unit

-- rows, lists, trees of cases
abbrev pub row_term : List Term → Term
row_term ts = row unit pair ts

abbrev pub list_term : ℕ → List Term → Term
list_term k ts = partition (injl unit) (λ us. injr (row_term us)) pair k ts

abbrev pub case_tree : List Term → Term
case_tree ts = row unit case ts

-- the short bodies of calls
abbrev pub beside_unit : Term
beside_unit = pair iden unit

abbrev pub unwraps_left : Term
unwraps_left = comp beside_unit (assertl (take iden) 0)

abbrev pub unwraps_right : Term
unwraps_right = comp beside_unit (assertr 0 (take iden))

abbrev pub tells_none : Term
tells_none = comp beside_unit (case (bit true) (bit false))

-- a call: with symbols asked for and a symbol above 0, by way of an assert
abbrev pub called : Bool → ℕ → Term → Term → Term
called y s a b = pick (both y (ltb 0 s)) (comp (pair (bit false) a) (assertl (drop b) s)) (comp a b)

-- what f makes of two
abbrev pub applied : Term → Term → Term → Term
applied f a b = comp (pair a b) f

-- two folds one after the other, of a row's left part and of its right
unfoldable pub fold_both : Term → Term → Term
fold_both l r = applied r (take (drop iden)) (applied l (take (take iden)) (drop iden))

-- the list fold
unfoldable pub with_block : Term → Term → Term
with_block f g = applied g (drop (take iden)) (applied f (take iden) (drop (drop iden)))

unfoldable pub next_fold : Term → Term → Term
next_fold f g = comp (pair (take (take iden)) (pair (take (drop iden)) (drop iden))) (case (drop g) (with_block f g))

unfoldable pub doubled : ℕ → Term → Term → Term
doubled zero f g = g
doubled (suc k) f g = doubled k (fold_both f f) (next_fold (fold_both f f) g)

unfoldable pub fold_list : ℕ → Term → Term
fold_list k f = doubled k f (case (drop iden) f)

-- the array fold
unfoldable pub powers : ℕ → Term → List Term
powers zero f = f ∷ []
powers (suc k) f = f ∷ powers k (fold_both f f)

unfoldable pub tree_fold : ℕ → List Term → ℕ → Term
tree_fold zero fs n = get_or fs (top_of n) fail
tree_fold (suc d) fs n = elim (eqb n (2 ^ top_of n)) [
  | true ↦ get_or fs (top_of n) fail
  | false ↦ fold_both (tree_fold d fs (n - 2 ^ top_of n)) (get_or fs (top_of n) fail)
]

unfoldable pub fold_array : ℕ → Term → Term
fold_array n f = tree_fold n (powers (top_of n) f) n

-- the loop
unfoldable pub turn : Bool → Term → Term
turn b f = comp (pair (take iden) (pair (drop iden) (bit b))) f

unfoldable pub loop_bit : Term → Term
loop_bit f = comp (pair (turn false f) (drop iden)) (case (injl (take iden)) (turn true f))

unfoldable pub adapt : Term → Term
adapt f = comp (pair (take iden) (pair (drop (take (take iden))) (pair (drop (take (drop iden))) (drop (drop iden))))) f

unfoldable pub loop : ℕ → Term → Term
loop zero f = loop_bit f
loop (suc k) f = loop k (loop k (adapt f))

-- the hash
unfoldable pub add_both : Term → Term → Term
add_both l r = applied r (applied l (take iden) (drop (take iden))) (drop (drop iden))

unfoldable pub add_row : List ℕ → Term
add_row ws = row (take iden) add_both (map (λ w. terms.jet (add_of w)) ws)

unfoldable pub raw_hash : List ℕ → Term
raw_hash ws = comp (comp (pair (comp unit (terms.jet 3)) iden) (add_row ws)) (terms.jet 10)

-- what an expression is lowered to in a scope, whose newest binding comes first; y says whether symbols are asked for
unfoldable mutual
  pub compile : Bool → Expr → List Pat → Term
  compile y (constant r t v u w) sc = scribe w
  compile y (witness r t k x) sc = terms.witness x t
  compile y (variable r t x) sc = fetch (lookup x sc)
  compile y (tuple r t es) sc = row_term (compiles y es sc)
  compile y (list r t n es) sc = list_term (top_of n - 1) (compiles y es sc)
  compile y (in_left r t e) sc = injl (compile y e sc)
  compile y (in_right r t e) sc = injr (compile y e sc)
  compile y (variant r t k n es) sc = inject (path n k) (row_term (compiles y es sc))
  compile y (block r t ss) sc = compile_run y ss sc
  compile y (match r t e p l q g) sc = comp (pair (compile y e sc) iden) (case (compile y l (p ∷ sc)) (compile y g (q ∷ sc)))
  compile y (match_enum r t e cs) sc = comp (pair (compile y e sc) iden) (case_tree (compile_arms y cs sc))
  compile y (jet r t s j es) sc = called y s (row_term (compiles y es sc)) (terms.jet j)
  compile y (unwrap_left r t s e) sc = called y s (compile y e sc) unwraps_left
  compile y (unwrap_right r t s e) sc = called y s (compile y e sc) unwraps_right
  compile y (debug r t s e) sc = called y s (compile y e sc) iden
  compile y (assert r t s e) sc = called y s (compile y e sc) (terms.jet 0)
  compile y (panic r t s) sc = called y s unit fail
  compile y (is_none r t e) sc = called y 0 (compile y e sc) tells_none
  compile y (cast r t e) sc = compile y e sc
  compile y (call r t f es) sc = called y 0 (row_term (compiles y es sc)) (compile_fun y f)
  compile y (list_fold r t f n e a) sc = called y 0 (pair (compile y e sc) (compile y a sc)) (fold_list (top_of n - 1) (compile_fun y f))
  compile y (array_fold r t f n e a) sc = called y 0 (pair (compile y e sc) (compile y a sc)) (fold_array n (compile_fun y f))
  compile y (for_while r t f w a x) sc = called y 0 (pair (compile y a sc) (compile y x sc)) (loop (top_of w) (compile_fun y f))
  compile y (hash r t s ps) sc = called y s (row_term (compile_words y ps sc)) (raw_hash (widths ps))
  compile y no_expr sc = fail

  pub compiles : Bool → Exprs → List Pat → List Term
  compiles y no_exprs sc = []
  compiles y (more_exprs e es) sc = compile y e sc ∷ compiles y es sc

  pub compile_words : Bool → Parts → List Pat → List Term
  compile_words y no_parts sc = []
  compile_words y (more_parts w e ps) sc = compile y e sc ∷ compile_words y ps sc

  pub compile_arms : Bool → Arms → List Pat → List Term
  compile_arms y no_arms sc = []
  compile_arms y (more_arms p e cs) sc = compile y e (p ∷ sc) ∷ compile_arms y cs sc

  pub compile_run : Bool → Stmts → List Pat → Term
  compile_run y (assign s p e rest) sc = comp (pair (compile y e sc) iden) (compile_run y rest (p ∷ sc))
  compile_run y (does s e rest) sc = comp (pair (compile y e sc) (compile_run y rest sc)) (drop iden)
  compile_run y (end e) sc = compile y e sc
  compile_run y no_end sc = unit

  pub compile_fun : Bool → Fun → Term
  compile_fun y (fun r t ps e) = compile y e (params_pattern ps ∷ [])
