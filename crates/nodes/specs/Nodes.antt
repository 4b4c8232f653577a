-- The check of a node table: document 01's refusal 15, and its place.
-- Assumes nothing.
use Rattle.std.specs.Prelude.{ℕ, zero, suc, ◌+◌, ◌/◌, Bool, true, false, List, [], ◌∷◌, length, eqb, ltb, Result, Ok, Err}
use Rattle.laws.specs.Table.{pick, both, at, choose}
use Rattle.book.specs.Format.{TYPE, VALUE}
use Rattle.named.specs.Combinators.{IDEN, UNIT, INJL, INJR, TAKE, DROP, COMP, CASE, PAIR, ASSERTL, ASSERTR, FAIL, WITNESS, SCRIBE, JET}
use Rattle.cells.specs.Entries.{kind_at, left_at, right_at}
use Rattle.book.specs.Text.{Text}
use Rattle.nodes.specs.Given.{holds}
use Rattle.nodes.specs.declared.check.Role.{Role}
use Rattle.nodes.specs.declared.check.Role.TheVariants.{Free, Child, OfType, OfValue, OfJet, Never}
use Rattle.nodes.specs.declared.check.Roles.{Roles}

-- the roles of a node's two operands
abbrev pub roles : Role → Role → Roles
roles a b = record { first = a; second = b }

-- document 01, Stored order: the operands of each kind
unfoldable pub roles_of : ℕ → Roles
roles_of k =
    choose
    (at IDEN (roles Free Free)
    ∷ at UNIT (roles Free Free)
    ∷ at INJL (roles Child Free)
    ∷ at INJR (roles Child Free)
    ∷ at TAKE (roles Child Free)
    ∷ at DROP (roles Child Free)
    ∷ at COMP (roles Child Child)
    ∷ at CASE (roles Child Child)
    ∷ at PAIR (roles Child Child)
    ∷ at ASSERTL (roles Child Free)
    ∷ at ASSERTR (roles Free Child)
    ∷ at FAIL (roles Free Free)
    ∷ at WITNESS (roles Free OfType)
    ∷ at SCRIBE (roles OfValue Free)
    ∷ at JET (roles OfJet Free)
    ∷ [])
    k
    (roles Never Never)

-- document 01, CHECK and the meanings: a child is below its parent, a type or value number such a record's, a jet number below 11; an unused
-- operand, a symbol and a name are free; none is right where the kind is bad. Operand x of node n in its role
unfoldable pub fits : Text → Role → ℕ → ℕ → Bool
fits b Free n x = true
fits b Child n x = ltb x n
fits b OfType n x = holds b TYPE x
fits b OfValue n x = holds b VALUE x
fits b OfJet n x = ltb x 11
fits b Never n x = false

-- operand 0 or 1 of node n, and its role
abbrev pub operand_at : List ℕ → ℕ → ℕ → ℕ
operand_at ns n k = pick (eqb k 0) (left_at ns n) (right_at ns n)

abbrev pub role_at : ℕ → ℕ → Role
role_at kind k = pick (eqb k 0) (roles_of kind).first (roles_of kind).second

abbrev pub operand_fits : Text → List ℕ → ℕ → ℕ → Bool
operand_fits b ns n k = fits b (role_at (kind_at ns n) k) n (operand_at ns n k)

-- node n is well formed
unfoldable pub formed : Text → List ℕ → ℕ → Bool
formed b ns n = both (operand_fits b ns n 0) (operand_fits b ns n 1)

-- the first node of the `left` nodes from n on that is not, or the one after them
unfoldable pub first_bad : Text → List ℕ → ℕ → ℕ → ℕ
first_bad b ns n zero = n
first_bad b ns n (suc left) = pick (formed b ns n) (first_bad b ns (n + 1) left) n

-- that a table is well formed, or where it is not
abbrev pub Judged : Type 0
Judged = Result (Unit {0}) ℕ

-- document 01, CHECK and the meanings: node count 0 or over 65,535, a table too short, a bad node: at 0, 65535, the first absent node, or the node
unfoldable pub judge : Text → List ℕ → ℕ → Judged
judge b ns c =
    pick (eqb c 0) (Err 0)
    (pick (ltb 65535 c) (Err 65535)
    (pick (ltb (length ns / 5) c) (Err (length ns / 5))
    (pick (eqb (first_bad b ns 0 c) c) (Ok tt) (Err (first_bad b ns 0 c)))))
