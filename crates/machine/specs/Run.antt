-- RUN over nodes and cells: what a node makes of a cell, with every cell stored, every refusal and its place.
-- Assumes nothing.
use Rattle.std.specs.Prelude.{ℕ, zero, suc, List, [], ◌∷◌}
use Rattle.laws.specs.Table.{pick, Case, at, choose}
use Rattle.simplicity.specs.Values.{if_sum, if_pair}
use Rattle.simplicity.specs.Jets.{jet_on}
use Rattle.book.specs.declared.fault.Fault.TheVariants.{Steep, Witness, Stuck}
use Rattle.named.specs.Combinators.{IDEN, UNIT, INJL, INJR, TAKE, DROP, COMP, CASE, PAIR, ASSERTL, ASSERTR, FAIL, WITNESS, SCRIBE, JET}
use Rattle.cells.specs.Entries.{kind_at, left_at, right_at}
use Rattle.nodes.specs.Given.{Given, cell_of, entry_of, supplies}
use Rattle.cells.specs.Cells.{left_cell, right_cell, pair_cell, shape_at, World, keeping, fails, refuses, Out, got, halt, add, bind, store, deliver}

-- document 01, Refusal 16: how deep a node may be entered
abbrev pub DEEP : ℕ
DEEP = 4096

-- what a node makes of a cell
abbrev pub Runs : Type 0
Runs = ℕ → ℕ → World → Out

-- the operands of node n: children, or what its kind says
abbrev pub left_of : Given → ℕ → ℕ
left_of g n = left_at g.nodes n

abbrev pub right_of : Given → ℕ → ℕ
right_of g n = right_at g.nodes n

-- document 01, Refusal 19: the value has not the shape the node needs
abbrev pub stuck_at : ℕ → Out
stuck_at n = halt 0 (refuses Stuck) n

-- document 01, CHECK and the meanings: a case or assert hands on the pair of the sum's part and the rest, which it stores
abbrev pub hand_on : ℕ → ℕ → ℕ → (ℕ → World → Out) → World → Out
hand_on n a e kid w = bind (store n pair_cell a e w) kid

-- a case at node n: what is made of a left's part and the rest, and of a right's
abbrev pub branch : ℕ → (ℕ → ℕ → World → Out) → (ℕ → ℕ → World → Out) → ℕ → World → Out
branch n l r x w = if_pair (shape_at w.table x) (λ s e. if_sum (shape_at w.table s) (λ a. l a e w) (λ a. r a e w) (stuck_at n)) (stuck_at n)

-- document 01, Refusal 17: node n, a witness of a name and a type: its value's cell
abbrev pub witnessed : Given → ℕ → World → Out
witnessed g n w = pick (supplies g (left_of g n) (right_of g n)) (got 0 (cell_of g.book (entry_of g.witnesses (left_of g n))) w) (halt 0 (refuses Witness) n)

-- document 01, CHECK and the meanings: what each kind of node makes of cell x, its children running as `kids`
abbrev pub node_kinds : Given → Runs → List (Case Runs)
node_kinds g kids =
    at IDEN (λ n x w. got 0 x w)
    ∷ at UNIT (λ n x w. got 0 0 w)
    ∷ at INJL (λ n x w. bind (kids (left_of g n) x w) (λ a. store n left_cell a 0))
    ∷ at INJR (λ n x w. bind (kids (left_of g n) x w) (λ a. store n right_cell a 0))
    ∷ at TAKE (λ n x w. if_pair (shape_at w.table x) (λ a b. kids (left_of g n) a w) (stuck_at n))
    ∷ at DROP (λ n x w. if_pair (shape_at w.table x) (λ a b. kids (left_of g n) b w) (stuck_at n))
    ∷ at COMP (λ n x w. bind (kids (left_of g n) x w) (kids (right_of g n)))
    ∷ at CASE (λ n x. branch n (λ a e. hand_on n a e (kids (left_of g n))) (λ a e. hand_on n a e (kids (right_of g n))) x)
    ∷ at PAIR (λ n x. keeping x (kids (left_of g n) x) (λ a y. keeping a (kids (right_of g n) y) (λ b c. store n pair_cell c b)))
    ∷ at ASSERTL (λ n x. branch n (λ a e. hand_on n a e (kids (left_of g n))) (λ a e w. halt 0 fails n) x)
    ∷ at ASSERTR (λ n x. branch n (λ a e w. halt 0 fails n) (λ a e. hand_on n a e (kids (right_of g n))) x)
    ∷ at FAIL (λ n x w. halt 0 fails n)
    ∷ at WITNESS (λ n x. witnessed g n)
    ∷ at SCRIBE (λ n x w. got 0 (cell_of g.book (left_of g n)) w)
    ∷ at JET (λ n x w. deliver n (jet_on (shape_at w.table) (left_of g n) x) w)
    ∷ []

-- node n by its kind
unfoldable pub by_kind : Given → Runs → Runs
by_kind g kids n = choose (node_kinds g kids) (kind_at g.nodes n) (λ m x w. stuck_at m) n

-- document 01, Refusal 16: node n on cell x, where k more nodes may be entered one below the other
unfoldable pub run : ℕ → Given → Runs
run zero g n x w = halt 0 (refuses Steep) n
run (suc k) g n x w = add 1 (by_kind g (run k g) n x w)
