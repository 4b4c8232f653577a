-- The cells of a run: how they are read and stored, and how a run goes on or halts.
-- Assumes nothing.
use Rattle.std.specs.Prelude.{ℕ, ◌+◌, List, [], ◌∷◌, length, nat_lt}
use Rattle.laws.specs.Table.{pick, at, choose}
use Rattle.simplicity.specs.Values.{Value, unit, left, right, pair, Shape, is_nothing, is_unit, is_left, is_right, is_pair}
use Rattle.simplicity.specs.Outcomes.{Outcome, value, failed, stuck, missing}
use Rattle.book.specs.declared.fault.Fault.{Fault}
use Rattle.book.specs.declared.fault.Fault.TheVariants.{Cells, Stuck, Jet}
use Rattle.named.specs.Cut.{room}
use Rattle.cells.specs.Entries.{kind_at, left_at, right_at, put}

-- document 01, CHECK and the meanings: cells are 1 unit, 2 left, 3 right, 4 pair
abbrev pub unit_cell : ℕ
unit_cell = 1

abbrev pub left_cell : ℕ
left_cell = 2

abbrev pub right_cell : ℕ
right_cell = 3

abbrev pub pair_cell : ℕ
pair_cell = 4

-- the shape of cell x, its parts by their cells
unfoldable pub shape_at : List ℕ → ℕ → Shape ℕ
shape_at t x =
    choose
    (at unit_cell is_unit
    ∷ at left_cell (is_left (left_at t x))
    ∷ at right_cell (is_right (left_at t x))
    ∷ at pair_cell (is_pair (left_at t x) (right_at t x))
    ∷ [])
    (kind_at t x)
    is_nothing

-- what a run has at a moment: how many cells are used, the table of them, and the cells that wait while another node works, newest first
pub record World : Type 0 where
  pub used : ℕ
  pub table : List ℕ
  pub held : List ℕ

abbrev pub world : ℕ → List ℕ → List ℕ → World
world u t hs = record { used = u; table = t; held = hs }

-- cell h waits; the newest that waits; it waits no more
abbrev pub hold : ℕ → World → World
hold h w = world w.used w.table (h ∷ w.held)

abbrev first_of : List ℕ → ℕ
first_of [] = 0
first_of (h ∷ hs) = h

abbrev others_of : List ℕ → List ℕ
others_of [] = []
others_of (h ∷ hs) = hs

abbrev pub newest : World → ℕ
newest w = first_of w.held

abbrev pub let_go : World → World
let_go w = world w.used w.table (others_of w.held)

-- why a run ends without a value: it failed, or is refused
pub data End : Type 0 where
  fails : End
  refuses : Fault → End

-- after t nodes were entered: a value's cell and what there is then, or an end at a node
pub data Out : Type 0 where
  got : ℕ → ℕ → World → Out
  halt : ℕ → End → ℕ → Out

-- t nodes more, entered before
unfoldable pub add : ℕ → Out → Out
add t (got s v w) = got (t + s) v w
add t (halt s e n) = halt (t + s) e n

-- what is made of a value's cell; an end stays
unfoldable pub bind : Out → (ℕ → World → Out) → Out
bind (got t v w) f = add t (f v w)
bind (halt t e n) f = halt t e n

-- cell h waits while m works; then k has m's value and the cell that waited
abbrev pub keeping : ℕ → (World → Out) → (ℕ → ℕ → World → Out) → World → Out
keeping h m k w = bind (m (hold h w)) (λ v u. k v (newest u) (let_go u))

-- document 01, Refusal 18: for node n the cell of kind k with parts a and b is stored next, unless it doesn't fit
unfoldable pub store : ℕ → ℕ → ℕ → ℕ → World → Out
store n k a b w =
    pick (nat_lt w.used (room (length w.table)))
    (got 0 w.used (world (w.used + 1) (put w.table w.used k a b) w.held))
    (halt 0 (refuses Cells) n)

-- document 01, CHECK and the meanings: a jet's cells are stored parts first, left first, whole, units too, none shared
unfoldable pub store_value : ℕ → Value → World → Out
store_value n unit w = store n unit_cell 0 0 w
store_value n (left v) w = bind (store_value n v w) (λ a. store n left_cell a 0)
store_value n (right v) w = bind (store_value n v w) (λ a. store n right_cell a 0)
store_value n (pair v u) w = bind (store_value n v w) (λ a. λ w'. bind (store_value n u w') (λ b. store n pair_cell a b))

-- what a jet comes to, stored for node n
unfoldable pub deliver : ℕ → Outcome → World → Out
deliver n (value v) w = store_value n v w
deliver n failed w = halt 0 fails n
deliver n stuck w = halt 0 (refuses Stuck) n
deliver n missing w = halt 0 (refuses Jet) n
