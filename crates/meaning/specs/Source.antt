-- What a program means: names that have values, arms that are chosen, lists that are folded, loops that are counted.
-- Assumes nothing.
use Rattle.std.specs.Prelude.{ℕ, zero, suc, ◌^◌, ◌-◌, true, false, List, [], ◌∷◌, ◌++◌, eqb, length}
use Rattle.std.proofs.Math.Option.{Option, some, none}
use Rattle.laws.specs.Table.{pick}
use Rattle.array.specs.Split.{top_of}
use Rattle.array.specs.Path.{Side, on_left, on_right, path}
use Rattle.array.specs.Row.{row}
use Rattle.array.specs.Partition.{partition}
use Rattle.simplicity.specs.Values.{Value, unit, left, right, pair, bit, word, shape}
use Rattle.simplicity.specs.Outcomes.{Outcome, value, failed, stuck, missing, and_then}
use Rattle.simplicity.specs.Jets.{jet_on}
use Rattle.simplicity.specs.Meaning.{Witnesses}
use Rattle.book.specs.Tree.{Pat, name, ignore, pat_row, Pats, no_pats, more_pats, Param, Expr, constant, witness, variable, tuple, list, in_left, in_right, variant, block, match, match_enum, jet, unwrap_left, unwrap_right, debug, assert, panic, is_none, cast, call, list_fold, array_fold, for_while, hash, no_expr, Exprs, no_exprs, more_exprs, Arms, no_arms, more_arms, Parts, no_parts, more_parts, Stmts, assign, does, end, no_end, Fun, fun}
use Rattle.pattern.specs.Find.{size}

-- a name and the value that it has. What is in scope is a row of these, the newest first
pub record Held : Type 0 where
  pub called : ℕ
  pub value : Value

abbrev pub held : ℕ → Value → Held
held x v = record { called = x; value = v }

-- document 01, Scope: a name belongs to its newest binding, and there to its first place from the left
unfoldable pub lookup : ℕ → List Held → Outcome
lookup x [] = stuck
lookup x (h ∷ hs) = pick (eqb h.called x) (value h.value) (lookup x hs)

-- document 01, Balanced trees: a row of values as one value
abbrev pub row_value : List Value → Value
row_value vs = row unit pair vs

-- a half of a pair; what stands at the end of a path of halves, where there is something
unfoldable pub half : Side → Value → Option Value
half on_left (pair v w) = some v
half on_right (pair v w) = some w
half k unit = none
half k (left v) = none
half k (right v) = none

unfoldable pub element_at : List Side → Value → Option Value
element_at [] v = some v
element_at (k ∷ ks) v = elim (half k v) [ some w ↦ element_at ks w | none ↦ none ]

-- document 01, Balanced trees: a variant's value is its payload behind its path; the payload, where the value is of that variant
unfoldable pub behind : List Side → Value → Value
behind [] v = v
behind (on_left ∷ ks) v = left (behind ks v)
behind (on_right ∷ ks) v = right (behind ks v)

unfoldable pub payload : List Side → Value → Option Value
payload [] v = some v
payload (on_left ∷ ks) (left v) = payload ks v
payload (on_left ∷ ks) (right v) = none
payload (on_left ∷ ks) unit = none
payload (on_left ∷ ks) (pair v w) = none
payload (on_right ∷ ks) (right v) = payload ks v
payload (on_right ∷ ks) (left v) = none
payload (on_right ∷ ks) unit = none
payload (on_right ∷ ks) (pair v w) = none

-- document 01, Balanced trees: a list of bound 2 ^ suc k as one value: blocks of powers of two, each left unit or right of its row
abbrev pub list_value : ℕ → List Value → Value
list_value k vs = partition (left unit) (λ ws. right (row_value ws)) pair k vs

-- two rows in one, where both are there
abbrev pub together : {A : Type 0} → Option (List A) → Option (List A) → Option (List A)
together (some xs) (some ys) = some (xs ++ ys)
together (some xs) none = none
together none ys = none

-- what a pattern binds in a value: its names from the left; nothing at all where the value has not the pattern's shape
unfoldable mutual
  pub bound : Pat → Value → Option (List Held)
  bound (name x) v = some (held x v ∷ [])
  bound ignore v = some []
  bound (pat_row ps) v = bound_from (size ps) zero ps v

  -- in a row of n patterns, those from element k on
  pub bound_from : ℕ → ℕ → Pats → Value → Option (List Held)
  bound_from n k no_pats v = some []
  bound_from n k (more_pats p ps) v = together (elim (element_at (path n k) v) [ some w ↦ bound p w | none ↦ none ]) (bound_from n (suc k) ps v)

-- what is made of bound names, which stand before those in scope
abbrev pub binding : Option (List Held) → List Held → (List Held → Outcome) → Outcome
binding (some hs) env f = f (hs ++ env)
binding none env f = stuck

-- the elements of an array of n, from element k on, of which so many are left
unfoldable pub elements : ℕ → ℕ → ℕ → Value → Option (List Value)
elements n k zero v = some []
elements n k (suc m) v = together (elim (element_at (path n k) v) [ some w ↦ some (w ∷ []) | none ↦ none ]) (elements n (suc k) m v)

-- the elements of a list of bound 2 ^ suc k: a block of 2 ^ k, if it is there, and then the rest
unfoldable pub listed : ℕ → Value → Option (List Value)
listed k unit = none
listed zero (left v) = some []
listed zero (right v) = some (v ∷ [])
listed zero (pair v w) = none
listed (suc k) (left v) = none
listed (suc k) (right v) = none
listed (suc k) (pair (left v) w) = listed k w
listed (suc k) (pair (right v) w) = together (elements (2 ^ suc k) zero (2 ^ suc k) v) (listed k w)
listed (suc k) (pair unit w) = none
listed (suc k) (pair (pair v x) w) = none

-- document 01, CHECK and the meanings: all of a row is worked out, from the left; then what is made of the values
unfoldable pub in_turn : List Outcome → (List Value → Outcome) → Outcome
in_turn [] f = f []
in_turn (o ∷ os) f = and_then o (λ v. in_turn os (λ vs. f (v ∷ vs)))

-- document 01, CHECK and the meanings: folds go from element 0 upward
unfoldable pub fold : (Value → Value → Outcome) → List Value → Value → Outcome
fold f [] a = value a
fold f (v ∷ vs) a = and_then (f v a) (fold f vs)

abbrev pub folding : (Value → Value → Outcome) → Option (List Value) → Value → Outcome
folding f (some vs) a = fold f vs a
folding f none a = stuck

-- what is made of a left's value and of a right's
abbrev pub by_side : Value → (Value → Outcome) → (Value → Outcome) → Outcome
by_side (left a) f g = f a
by_side (right a) f g = g a
by_side unit f g = stuck
by_side (pair a b) f g = stuck

-- document 01, CHECK and the meanings: a loop counts up from c, so many counts being left; left stops it, right carries on, and after the last count the accumulator is right
unfoldable pub counted : (Value → ℕ → Outcome) → ℕ → ℕ → Value → Outcome
counted f c zero a = value (right a)
counted f c (suc more) a = and_then (f a c) (λ s. by_side s (λ v. value (left v)) (λ b. counted f (suc c) more b))

-- document 01, CHECK and the meanings: only the chosen arm is worked out: the one whose variant the value is, of n from k on
unfoldable pub choose : ℕ → ℕ → List (Value → Outcome) → Value → Outcome
choose n k [] v = stuck
choose n k (f ∷ fs) v = elim (payload (path n k) v) [ some a ↦ f a | none ↦ choose n (suc k) fs v ]

-- parameters beside the values that they are given
unfoldable pub given : List Param → List Value → List Held
given [] vs = []
given (p ∷ ps) [] = []
given (p ∷ ps) (v ∷ vs) = held p.called v ∷ given ps vs

-- document 01, CHECK and the meanings: an expression where these names are in scope; ws has the witnesses
unfoldable mutual
  pub mean : Witnesses → Expr → List Held → Outcome
  mean ws (constant r t v u w) env = value w
  mean ws (witness r t k x) env = ws x t
  mean ws (variable r t x) env = lookup x env
  mean ws (tuple r t es) env = in_turn (means ws es env) (λ vs. value (row_value vs))
  mean ws (list r t n es) env = in_turn (means ws es env) (λ vs. value (list_value (top_of n - 1) vs))
  mean ws (in_left r t e) env = and_then (mean ws e env) (λ v. value (left v))
  mean ws (in_right r t e) env = and_then (mean ws e env) (λ v. value (right v))
  mean ws (variant r t k n es) env = in_turn (means ws es env) (λ vs. value (behind (path n k) (row_value vs)))
  mean ws (block r t ss) env = run ws ss env
  mean ws (match r t e p l q g) env = and_then (mean ws e env) (λ v. by_side v (λ a. binding (bound p a) env (λ hs. mean ws l hs)) (λ a. binding (bound q a) env (λ hs. mean ws g hs)))
  mean ws (match_enum r t e cs) env = and_then (mean ws e env) (λ v. choose (length (arms ws cs env)) zero (arms ws cs env) v)
  mean ws (jet r t s j es) env = in_turn (means ws es env) (λ vs. jet_on shape j (row_value vs))
  -- Unwrap fails on the other side, Assert on false, Panic always; IsNone is true on left; Debug and TypeCast give their argument
  mean ws (unwrap_left r t s e) env = and_then (mean ws e env) (λ v. by_side v (λ a. value a) (λ a. failed))
  mean ws (unwrap_right r t s e) env = and_then (mean ws e env) (λ v. by_side v (λ a. failed) (λ a. value a))
  mean ws (debug r t s e) env = mean ws e env
  mean ws (assert r t s e) env = and_then (mean ws e env) (λ v. by_side v (λ a. failed) (λ a. value unit))
  mean ws (panic r t s) env = failed
  mean ws (is_none r t e) env = and_then (mean ws e env) (λ v. by_side v (λ a. value (bit true)) (λ a. value (bit false)))
  mean ws (cast r t e) env = mean ws e env
  mean ws (call r t f es) env = in_turn (means ws es env) (λ vs. apply ws f vs)
  mean ws (list_fold r t f n e a) env = and_then (mean ws e env) (λ v. and_then (mean ws a env) (λ b. folding (λ x c. apply ws f (x ∷ c ∷ [])) (listed (top_of n - 1) v) b))
  mean ws (array_fold r t f n e a) env = and_then (mean ws e env) (λ v. and_then (mean ws a env) (λ b. folding (λ x c. apply ws f (x ∷ c ∷ [])) (elements n zero n v) b))
  mean ws (for_while r t f w a x) env = and_then (mean ws a env) (λ b. and_then (mean ws x env) (λ y. counted (λ c k. apply ws f (c ∷ y ∷ word (top_of w) k ∷ [])) zero (2 ^ w) b))
  -- a run knows no jet of a hash: the words are worked out, and there it ends
  mean ws (hash r t s ps) env = in_turn (words ws ps env) (λ vs. missing)
  mean ws no_expr env = stuck

  -- the expressions of a row, and the words of a hash
  pub means : Witnesses → Exprs → List Held → List Outcome
  means ws no_exprs env = []
  means ws (more_exprs e es) env = mean ws e env ∷ means ws es env

  pub words : Witnesses → Parts → List Held → List Outcome
  words ws no_parts env = []
  words ws (more_parts w e ps) env = mean ws e env ∷ words ws ps env

  -- what each arm makes of its variant's payload
  pub arms : Witnesses → Arms → List Held → List (Value → Outcome)
  arms ws no_arms env = []
  arms ws (more_arms p e cs) env = (λ a. binding (bound p a) env (λ hs. mean ws e hs)) ∷ arms ws cs env

  -- a block's statements in order, and its end
  pub run : Witnesses → Stmts → List Held → Outcome
  run ws (assign s p e rest) env = and_then (mean ws e env) (λ v. binding (bound p v) env (λ hs. run ws rest hs))
  run ws (does s e rest) env = and_then (mean ws e env) (λ v. run ws rest env)
  run ws (end e) env = mean ws e env
  run ws no_end env = value unit

  -- document 01, Scope: a function's body knows its parameters and nothing else
  pub apply : Witnesses → Fun → List Value → Outcome
  apply ws (fun r t ps e) vs = mean ws e (given ps vs)
