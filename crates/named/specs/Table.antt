-- What a contract sees of a table that nodes are stored in: the record that `Nodes` of crates/named/src/node.rt is.
-- Assumes nothing.
use Rattle.std.specs.Prelude.{ℕ, List, ◌≡◌}
use Rattle.std.specs.Borrow.{MutBor}
use Rattle.named.specs.declared.node.Nodes.{Nodes}

-- the bytes, which are lent, and the number of the next node
abbrev pub Table : Type 0
Table = Nodes

-- the bytes b are lent to the table d, which has no nodes yet
pub record Fresh (b : MutBor (List ℕ)) (d : Table) : Type 0 where
  pub lent : d.bytes.ghost_name ≡ b.ghost_name
  pub bytes : d.bytes.now ≡ b.now
  pub next : d.next ≡ 0
