-- A table of nodes as a term, and a cell as a value.
-- Assumes nothing.
use Rattle.std.specs.Prelude.{ℕ, zero, suc, List, [], ◌∷◌}
use Rattle.laws.specs.Table.{Case, at, choose}
use Rattle.simplicity.specs.Values.{Value, Shape, is_nothing, is_unit, is_left, is_right, is_pair}
use Rattle.simplicity.specs.Values as values
use Rattle.simplicity.specs.Terms.{Term, iden, unit, injl, injr, take, drop, comp, case, pair, assertl, assertr, fail, witness, scribe, jet}
use Rattle.book.specs.Tree.{type_of, value_of}
use Rattle.named.specs.Combinators.{IDEN, UNIT, INJL, INJR, TAKE, DROP, COMP, CASE, PAIR, ASSERTL, ASSERTR, FAIL, WITNESS, SCRIBE, JET}
use Rattle.cells.specs.Entries.{kind_at}
use Rattle.nodes.specs.Given.{Given}
use Rattle.cells.specs.Cells.{shape_at}
use Rattle.machine.specs.Run.{left_of, right_of}

-- document 01, Stored order: what each kind of node is as a term, its children being the terms `kids`; the operands' meanings
abbrev pub makers : Given → (ℕ → Term) → List (Case (ℕ → Term))
makers g kids =
    at IDEN (λ n. iden)
    ∷ at UNIT (λ n. unit)
    ∷ at INJL (λ n. injl (kids (left_of g n)))
    ∷ at INJR (λ n. injr (kids (left_of g n)))
    ∷ at TAKE (λ n. take (kids (left_of g n)))
    ∷ at DROP (λ n. drop (kids (left_of g n)))
    ∷ at COMP (λ n. comp (kids (left_of g n)) (kids (right_of g n)))
    ∷ at CASE (λ n. case (kids (left_of g n)) (kids (right_of g n)))
    ∷ at PAIR (λ n. pair (kids (left_of g n)) (kids (right_of g n)))
    ∷ at ASSERTL (λ n. assertl (kids (left_of g n)) (right_of g n))
    ∷ at ASSERTR (λ n. assertr (left_of g n) (kids (right_of g n)))
    ∷ at FAIL (λ n. fail)
    ∷ at WITNESS (λ n. witness (left_of g n) (type_of g.book.bytes g.book.index (right_of g n)))
    ∷ at SCRIBE (λ n. scribe (value_of g.book.bytes g.book.index (left_of g n)))
    ∷ at JET (λ n. jet (left_of g n))
    ∷ []

-- node n as a term, k nodes down
unfoldable pub term_to : ℕ → Given → ℕ → Term
term_to zero g n = fail
term_to (suc k) g n = choose (makers g (term_to k g)) (kind_at g.nodes n) (λ m. fail) n

-- node n as a term: a child is below its parent, so n + 1 nodes down is all of it
unfoldable pub term_at : Given → ℕ → Term
term_at g n = term_to (suc n) g n

-- a shape whose parts are read
abbrev read : (ℕ → Value) → Shape ℕ → Value
read part is_nothing = values.unit
read part is_unit = values.unit
read part (is_left a) = values.left (part a)
read part (is_right a) = values.right (part a)
read part (is_pair a b) = values.pair (part a) (part b)

-- cell x as a value, k cells down
unfoldable pub value_to : ℕ → List ℕ → ℕ → Value
value_to zero t x = values.unit
value_to (suc k) t x = read (value_to k t) (shape_at t x)

-- cell x as a value: a part is below the whole, so x + 1 cells down is all of it
unfoldable pub value_at : List ℕ → ℕ → Value
value_at t x = value_to (suc x) t x
