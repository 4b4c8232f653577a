-- The fifteen kinds of nodes, and what is built of them everywhere: bits, selectors, rows.
-- Assumes nothing.
use Rattle.std.specs.Prelude.{ℕ, Bool, true, false, List, [], ◌∷◌, map}
use Rattle.array.specs.Path.{Side, on_left, on_right}
use Rattle.array.specs.Row.{row}
use Rattle.named.specs.Trace.{Run, pure, bind, emit}

-- document 01, Stored order: the kinds, 1 to 15
abbrev pub IDEN : ℕ
IDEN = 1

abbrev pub UNIT : ℕ
UNIT = 2

abbrev pub INJL : ℕ
INJL = 3

abbrev pub INJR : ℕ
INJR = 4

abbrev pub TAKE : ℕ
TAKE = 5

abbrev pub DROP : ℕ
DROP = 6

abbrev pub COMP : ℕ
COMP = 7

abbrev pub CASE : ℕ
CASE = 8

abbrev pub PAIR : ℕ
PAIR = 9

abbrev pub ASSERTL : ℕ
ASSERTL = 10

abbrev pub ASSERTR : ℕ
ASSERTR = 11

abbrev pub FAIL : ℕ
FAIL = 12

abbrev pub WITNESS : ℕ
WITNESS = 13

abbrev pub SCRIBE : ℕ
SCRIBE = 14

abbrev pub JET : ℕ
JET = 15

-- document 01, Stored order: a node of each kind for record r, unused operands 0
abbrev pub iden : ℕ → Run ℕ
iden r = emit r IDEN 0 0

abbrev pub unit : ℕ → Run ℕ
unit r = emit r UNIT 0 0

abbrev pub injl : ℕ → ℕ → Run ℕ
injl r a = emit r INJL a 0

abbrev pub injr : ℕ → ℕ → Run ℕ
injr r a = emit r INJR a 0

abbrev pub take : ℕ → ℕ → Run ℕ
take r a = emit r TAKE a 0

abbrev pub drop : ℕ → ℕ → Run ℕ
drop r a = emit r DROP a 0

abbrev pub comp : ℕ → ℕ → ℕ → Run ℕ
comp r a b = emit r COMP a b

abbrev pub case : ℕ → ℕ → ℕ → Run ℕ
case r a b = emit r CASE a b

abbrev pub pair : ℕ → ℕ → ℕ → Run ℕ
pair r a b = emit r PAIR a b

-- the child, the symbol
abbrev pub assertl : ℕ → ℕ → ℕ → Run ℕ
assertl r a s = emit r ASSERTL a s

-- the symbol, the child
abbrev pub assertr : ℕ → ℕ → ℕ → Run ℕ
assertr r s a = emit r ASSERTR s a

abbrev pub fail : ℕ → Run ℕ
fail r = emit r FAIL 0 0

-- the name, the type
abbrev pub witness : ℕ → ℕ → ℕ → Run ℕ
witness r x t = emit r WITNESS x t

abbrev pub scribe : ℕ → ℕ → Run ℕ
scribe r v = emit r SCRIBE v 0

abbrev pub jet : ℕ → ℕ → Run ℕ
jet r j = emit r JET j 0

-- document 01, Stored order: bit false is injl unit, bit true injr unit
unfoldable pub bit : ℕ → Bool → Run ℕ
bit r b = bind (unit r) (λ u. elim b [ true ↦ injr r u | false ↦ injl r u ])

-- node a wrapped by a node of each kind, the first outermost
unfoldable pub wraps : ℕ → List ℕ → ℕ → Run ℕ
wraps r [] a = pure a
wraps r (k ∷ ks) a = bind (wraps r ks a) (λ b. emit r k b 0)

-- the kinds that go along a path: l for left, g for right
abbrev pub kinds : ℕ → ℕ → List Side → List ℕ
kinds l g = map (λ s. elim s [ on_left ↦ l | on_right ↦ g ])

-- document 01, Scope: a selector is iden wrapped by take for left and drop for right, first step outermost
unfoldable pub select : ℕ → List ℕ → Run ℕ
select r ks = bind (iden r) (λ a. wraps r ks a)

-- a left and a right part, and then what joins their nodes
abbrev pub joined : (ℕ → ℕ → Run ℕ) → Run ℕ → Run ℕ → Run ℕ
joined f l g = bind l (λ a. bind g (λ b. f a b))

-- document 01, Balanced trees: a row of nodes folds by its split, here by nodes of one kind; an empty row is unit
unfoldable pub joins : ℕ → ℕ → List ℕ → Run ℕ
joins r kind xs = row (unit r) (joined (emit r kind)) (map pure xs)

-- what node f makes of nodes a and b: the pair of them, and then f
unfoldable pub applied : ℕ → ℕ → ℕ → ℕ → Run ℕ
applied r f a b = bind (pair r a b) (λ p. comp r p f)
