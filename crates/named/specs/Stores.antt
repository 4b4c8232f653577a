-- What a function that stores nodes has done: its answer and its table are those of a run, cut to the table's room.
-- Assumes nothing.
use Rattle.std.specs.Prelude.{ℕ, ◌+◌, ◌*◌, ◌-◌, ◌≡◌, List, length, Result, Ok, Err}
use Rattle.std.proofs.lemmas.List.Edits.{sets}
use Rattle.book.specs.declared.fault.Refusal.{Refusal}
use Rattle.named.specs.Trace.{Node, Run}
use Rattle.named.specs.Cut.{Out, made, refused, cut, room, encode}
use Rattle.named.specs.Table.{Table}

-- the table t with the nodes xs stored from node c on
unfoldable pub stored : List ℕ → ℕ → List Node → List ℕ
stored t c xs = sets t (5 * c) (encode xs)

-- what a run m comes to in the table t that has c nodes
abbrev pub comes : {A : Type 0} → List ℕ → ℕ → Run A → Out A
comes t c m = cut (room (length t) - c) (m c)

-- from the table t with c nodes, the run m comes to the result a, the next node u and the table t'
pub record Gives {A : Type 0} (t : List ℕ) (c : ℕ) (m : Run A) (a : A) (u : ℕ) (t' : List ℕ) : Type 0 where
  pub nodes : List Node
  pub is : comes t c m ≡ made a nodes
  pub next : u ≡ c + length nodes
  pub table : t' ≡ stored t c nodes

-- and it comes to the refusal w
pub record Stops {A : Type 0} (t : List ℕ) (c : ℕ) (m : Run A) (w : Refusal) : Type 0 where
  pub is : comes t c m ≡ refused w

-- an answer that is a node, or a refusal
unfoldable pub Fate : Table → Run ℕ → Result ℕ Refusal → Table → Type 0
Fate d m (Ok a) d' = Gives d.bytes.now d.next m a d'.next d'.bytes.now
Fate d m (Err w) d' = Stops d.bytes.now d.next m w

-- from the table d, the run m gave the answer s and left the table d', in the same lent bytes
pub record Done (d : Table) (m : Run ℕ) (s : Result ℕ Refusal) (d' : Table) : Type 0 where
  pub lent : d'.bytes.ghost_name ≡ d.bytes.ghost_name
  pub kept : length d'.bytes.now ≡ length d.bytes.now
  pub fate : Fate d m s d'

-- an answer whose results are the nodes xs, or a refusal
unfoldable pub FateAll : Table → Run (List ℕ) → Result (Unit {0}) Refusal → List ℕ → Table → Type 0
FateAll d m (Ok _) xs d' = Gives d.bytes.now d.next m xs d'.next d'.bytes.now
FateAll d m (Err w) xs d' = Stops d.bytes.now d.next m w

pub record Fills (d : Table) (m : Run (List ℕ)) (s : Result (Unit {0}) Refusal) (xs : List ℕ) (d' : Table) : Type 0 where
  pub lent : d'.bytes.ghost_name ≡ d.bytes.ghost_name
  pub kept : length d'.bytes.now ≡ length d.bytes.now
  pub fate : FateAll d m s xs d'
