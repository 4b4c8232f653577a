-- A book's records unfolded to trees: CHECK, LOWER and the source meaning are functions of these.
-- Assumes nothing.
use Rattle.std.specs.Prelude.{ℕ, zero, suc, ◌+◌, ◌*◌, List, [], ◌∷◌, ◌++◌, get_or, eqb}
use Rattle.laws.specs.Table.{pick, Case, at, choose}
use Rattle.simplicity.specs.Types.{Ty, one, sum, product}
use Rattle.simplicity.specs.Values.{Value, unit, left, right, pair}
use Rattle.book.specs.Format.{TU, TS, TP, VU, VL, VR, VP, PI, PN, PT, EC, EW, EV, ET, EL, E0, E1, EN, EB, SA, SE, EM, EH, CJ, CL, CR, CD, CA, CP, CN, CK, CF, CQ, CY, CW, CH, FN}
use Rattle.book.specs.Index.{mark, field}

-- document 01, The book: patterns, which are a name, one that ignores, or a row of patterns
mutual
  pub data Pat : Type 0 where
    name : ℕ → Pat
    ignore : Pat
    pat_row : Pats → Pat

  pub data Pats : Type 0 where
    no_pats : Pats
    more_pats : Pat → Pats → Pats

-- a function's parameter: its name and type
pub record Param : Type 0 where
  pub called : ℕ
  pub type : Ty

abbrev pub param : ℕ → Ty → Param
param x t = record { called = x; type = t }

-- document 01, The book: each expression has its record's number, its declared type, then what the table lists for its mark
mutual
  pub data Expr : Type 0 where
    -- the value's record, its declared type, the value
    constant : ℕ → Ty → ℕ → Ty → Value → Expr
    -- the type's record, the name
    witness : ℕ → Ty → ℕ → ℕ → Expr
    variable : ℕ → Ty → ℕ → Expr
    tuple : ℕ → Ty → Exprs → Expr
    -- the bound
    list : ℕ → Ty → ℕ → Exprs → Expr
    in_left : ℕ → Ty → Expr → Expr
    in_right : ℕ → Ty → Expr → Expr
    -- the index, how many variants, the payload
    variant : ℕ → Ty → ℕ → ℕ → Exprs → Expr
    block : ℕ → Ty → Stmts → Expr
    -- the scrutinee, the left arm, the right arm
    match : ℕ → Ty → Expr → Pat → Expr → Pat → Expr → Expr
    match_enum : ℕ → Ty → Expr → Arms → Expr
    -- the symbol, the jet
    jet : ℕ → Ty → ℕ → ℕ → Exprs → Expr
    -- the symbol
    unwrap_left : ℕ → Ty → ℕ → Expr → Expr
    unwrap_right : ℕ → Ty → ℕ → Expr → Expr
    debug : ℕ → Ty → ℕ → Expr → Expr
    assert : ℕ → Ty → ℕ → Expr → Expr
    panic : ℕ → Ty → ℕ → Expr
    is_none : ℕ → Ty → Expr → Expr
    cast : ℕ → Ty → Expr → Expr
    call : ℕ → Ty → Fun → Exprs → Expr
    -- the bound or size, the list or array, the accumulator
    list_fold : ℕ → Ty → Fun → ℕ → Expr → Expr → Expr
    array_fold : ℕ → Ty → Fun → ℕ → Expr → Expr → Expr
    -- the width, the accumulator, the context
    for_while : ℕ → Ty → Fun → ℕ → Expr → Expr → Expr
    -- the symbol
    hash : ℕ → Ty → ℕ → Parts → Expr
    -- where there should be an expression and is none
    no_expr : Expr

  -- expressions in a row
  pub data Exprs : Type 0 where
    no_exprs : Exprs
    more_exprs : Expr → Exprs → Exprs

  -- the arms of an enum's match: a pattern and an expression
  pub data Arms : Type 0 where
    no_arms : Arms
    more_arms : Pat → Expr → Arms → Arms

  -- what a hash is of: a bit width and an expression
  pub data Parts : Type 0 where
    no_parts : Parts
    more_parts : ℕ → Expr → Parts → Parts

  -- a block's statements, each with its record's number: an assignment, an expression that is only worked out; then its end
  pub data Stmts : Type 0 where
    assign : ℕ → Pat → Expr → Stmts → Stmts
    does : ℕ → Expr → Stmts → Stmts
    end : Expr → Stmts
    no_end : Stmts

  -- a function with its record's number: the result's type, the parameters, the body
  pub data Fun : Type 0 where
    fun : ℕ → Ty → List Param → Expr → Fun

-- what a record is: a value has its declared type, a statement what follows it
pub data Tree : Type 0 where
  type : Ty → Tree
  value : Ty → Value → Tree
  pattern : Pat → Tree
  expression : Expr → Tree
  statement : (Stmts → Stmts) → Tree
  function : Fun → Tree
  nothing : Tree

-- where there should be a function and is none
abbrev no_fun : Fun
no_fun = fun 0 one [] no_expr

-- a tree as what it should be; a value's declared type
unfoldable pub as_type : Tree → Ty
as_type = elim [ type t ↦ t | value t v ↦ one | pattern p ↦ one | expression e ↦ one | statement s ↦ one | function f ↦ one | nothing ↦ one ]

unfoldable pub as_value : Tree → Value
as_value = elim [ type t ↦ unit | value t v ↦ v | pattern p ↦ unit | expression e ↦ unit | statement s ↦ unit | function f ↦ unit | nothing ↦ unit ]

unfoldable pub declared : Tree → Ty
declared = elim [ type t ↦ one | value t v ↦ t | pattern p ↦ one | expression e ↦ one | statement s ↦ one | function f ↦ one | nothing ↦ one ]

unfoldable pub as_pattern : Tree → Pat
as_pattern = elim [ type t ↦ ignore | value t v ↦ ignore | pattern p ↦ p | expression e ↦ ignore | statement s ↦ ignore | function f ↦ ignore | nothing ↦ ignore ]

unfoldable pub as_expr : Tree → Expr
as_expr = elim [ type t ↦ no_expr | value t v ↦ no_expr | pattern p ↦ no_expr | expression e ↦ e | statement s ↦ no_expr | function f ↦ no_expr | nothing ↦ no_expr ]

unfoldable pub as_stmt : Tree → Stmts → Stmts
as_stmt = elim [ type t ↦ λ ss. ss | value t v ↦ λ ss. ss | pattern p ↦ λ ss. ss | expression e ↦ λ ss. ss | statement s ↦ s | function f ↦ λ ss. ss | nothing ↦ λ ss. ss ]

unfoldable pub as_fun : Tree → Fun
as_fun = elim [ type t ↦ no_fun | value t v ↦ no_fun | pattern p ↦ no_fun | expression e ↦ no_fun | statement s ↦ no_fun | function f ↦ f | nothing ↦ no_fun ]

-- a group of s fields that stands m times from field k on, and then e: `add` takes the place of each time's first field
unfoldable pub group : {A : Type 0} → ℕ → A → (ℕ → A → A) → ℕ → ℕ → A
group s e add k zero = e
group s e add k (suc m) = add k (group s e add (k + s) m)

-- what stands m times from field k on, in a record whose fields name the trees a and hold the numbers x
abbrev pub pats_at : (ℕ → Tree) → ℕ → ℕ → Pats
pats_at a = group 1 no_pats (λ j. more_pats (as_pattern (a j)))

abbrev pub exprs_at : (ℕ → Tree) → ℕ → ℕ → Exprs
exprs_at a = group 1 no_exprs (λ j. more_exprs (as_expr (a j)))

abbrev pub arms_at : (ℕ → Tree) → ℕ → ℕ → Arms
arms_at a = group 2 no_arms (λ j. more_arms (as_pattern (a j)) (as_expr (a (j + 1))))

abbrev pub parts_at : (ℕ → ℕ) → (ℕ → Tree) → ℕ → ℕ → Parts
parts_at x a = group 2 no_parts (λ j. more_parts (x j) (as_expr (a (j + 1))))

abbrev pub params_at : (ℕ → ℕ) → (ℕ → Tree) → ℕ → ℕ → List Param
params_at x a = group 2 [] (λ j ps. param (x j) (as_type (a (j + 1))) ∷ ps)

-- document 01, The book, eb: an expression or 65535 for none
abbrev pub last_at : (ℕ → ℕ) → (ℕ → Tree) → ℕ → Stmts
last_at x a k = pick (eqb (x k) 65535) no_end (end (as_expr (a k)))

-- a block's statements and its end
abbrev pub stmts_at : (ℕ → ℕ) → (ℕ → Tree) → ℕ → ℕ → Stmts
stmts_at x a k m = group 1 (last_at x a (k + m)) (λ j. as_stmt (a j)) k m

-- what record r is, where its fields hold the numbers x and name the trees a
abbrev pub Maker : Type 0
Maker = ℕ → (ℕ → ℕ) → (ℕ → Tree) → Tree

-- document 01, The book: what each mark's record is, in the table's order
abbrev pub makers : List (Case Maker)
makers =
    at TU (λ r x a. type one)
    ∷ at TS (λ r x a. type (sum (as_type (a 0)) (as_type (a 1))))
    ∷ at TP (λ r x a. type (product (as_type (a 0)) (as_type (a 1))))
    ∷ at VU (λ r x a. value (as_type (a 0)) unit)
    ∷ at VL (λ r x a. value (as_type (a 0)) (left (as_value (a 1))))
    ∷ at VR (λ r x a. value (as_type (a 0)) (right (as_value (a 1))))
    ∷ at VP (λ r x a. value (as_type (a 0)) (pair (as_value (a 1)) (as_value (a 2))))
    ∷ at PI (λ r x a. pattern (name (x 0)))
    ∷ at PN (λ r x a. pattern ignore)
    ∷ at PT (λ r x a. pattern (pat_row (pats_at a 1 (x 0))))
    ∷ at EC (λ r x a. expression (constant r (as_type (a 0)) (x 1) (declared (a 1)) (as_value (a 1))))
    ∷ at EW (λ r x a. expression (witness r (as_type (a 0)) (x 0) (x 1)))
    ∷ at EV (λ r x a. expression (variable r (as_type (a 0)) (x 1)))
    ∷ at ET (λ r x a. expression (tuple r (as_type (a 0)) (exprs_at a 2 (x 1))))
    ∷ at EL (λ r x a. expression (list r (as_type (a 0)) (x 1) (exprs_at a 3 (x 2))))
    ∷ at E0 (λ r x a. expression (in_left r (as_type (a 0)) (as_expr (a 1))))
    ∷ at E1 (λ r x a. expression (in_right r (as_type (a 0)) (as_expr (a 1))))
    ∷ at EN (λ r x a. expression (variant r (as_type (a 0)) (x 1) (x 2) (exprs_at a 4 (x 3))))
    ∷ at EB (λ r x a. expression (block r (as_type (a 0)) (stmts_at x a 2 (x 1))))
    ∷ at SA (λ r x a. statement (assign r (as_pattern (a 0)) (as_expr (a 1))))
    ∷ at SE (λ r x a. statement (does r (as_expr (a 0))))
    ∷ at EM (λ r x a. expression (match r (as_type (a 0)) (as_expr (a 1)) (as_pattern (a 2)) (as_expr (a 3)) (as_pattern (a 4)) (as_expr (a 5))))
    ∷ at EH (λ r x a. expression (match_enum r (as_type (a 0)) (as_expr (a 1)) (arms_at a 3 (x 2))))
    ∷ at CJ (λ r x a. expression (jet r (as_type (a 0)) (x 1) (x 2) (exprs_at a 4 (x 3))))
    ∷ at CL (λ r x a. expression (unwrap_left r (as_type (a 0)) (x 1) (as_expr (a 2))))
    ∷ at CR (λ r x a. expression (unwrap_right r (as_type (a 0)) (x 1) (as_expr (a 2))))
    ∷ at CD (λ r x a. expression (debug r (as_type (a 0)) (x 1) (as_expr (a 2))))
    ∷ at CA (λ r x a. expression (assert r (as_type (a 0)) (x 1) (as_expr (a 2))))
    ∷ at CP (λ r x a. expression (panic r (as_type (a 0)) (x 1)))
    ∷ at CN (λ r x a. expression (is_none r (as_type (a 0)) (as_expr (a 1))))
    ∷ at CK (λ r x a. expression (cast r (as_type (a 0)) (as_expr (a 1))))
    ∷ at CF (λ r x a. expression (call r (as_type (a 0)) (as_fun (a 1)) (exprs_at a 3 (x 2))))
    ∷ at CQ (λ r x a. expression (list_fold r (as_type (a 0)) (as_fun (a 1)) (x 2) (as_expr (a 3)) (as_expr (a 4))))
    ∷ at CY (λ r x a. expression (array_fold r (as_type (a 0)) (as_fun (a 1)) (x 2) (as_expr (a 3)) (as_expr (a 4))))
    ∷ at CW (λ r x a. expression (for_while r (as_type (a 0)) (as_fun (a 1)) (x 2) (as_expr (a 3)) (as_expr (a 4))))
    ∷ at CH (λ r x a. expression (hash r (as_type (a 0)) (x 1) (parts_at x a 3 (x 2))))
    ∷ at FN (λ r x a. function (fun r (as_type (a 0)) (params_at x a 2 (x 1)) (as_expr (a (2 + 2 * x 1)))))
    ∷ []

-- the row of mark m
abbrev pub maker : ℕ → Maker
maker m = choose makers m (λ r x a. nothing)

-- record r's tree, where `look` has those of the earlier records
unfoldable pub build : List ℕ → List ℕ → (ℕ → Tree) → ℕ → Tree
build b i look r = maker (mark b i r) r (field b i r) (λ k. look (field b i r k))

-- the tree of record x in a row of trees
unfoldable pub seen : List Tree → ℕ → Tree
seen ts x = get_or ts x nothing

-- the trees of the first n records
unfoldable pub trees : List ℕ → List ℕ → ℕ → List Tree
trees b i zero = []
trees b i (suc n) = let ts = trees b i n in ts ++ (build b i (seen ts) n ∷ [])

-- record r's tree
unfoldable pub tree : List ℕ → List ℕ → ℕ → Tree
tree b i r = build b i (seen (trees b i r)) r

-- record r's tree as what its kind says; a value's declared type
abbrev pub type_of : List ℕ → List ℕ → ℕ → Ty
type_of b i r = as_type (tree b i r)

abbrev pub value_of : List ℕ → List ℕ → ℕ → Value
value_of b i r = as_value (tree b i r)

abbrev pub declared_of : List ℕ → List ℕ → ℕ → Ty
declared_of b i r = declared (tree b i r)

abbrev pub pattern_of : List ℕ → List ℕ → ℕ → Pat
pattern_of b i r = as_pattern (tree b i r)

abbrev pub expr_of : List ℕ → List ℕ → ℕ → Expr
expr_of b i r = as_expr (tree b i r)

abbrev pub stmt_of : List ℕ → List ℕ → ℕ → Stmts → Stmts
stmt_of b i r = as_stmt (tree b i r)

abbrev pub fun_of : List ℕ → List ℕ → ℕ → Fun
fun_of b i r = as_fun (tree b i r)
