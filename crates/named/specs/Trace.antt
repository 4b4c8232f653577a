-- What lowering stores, with no thought of room: the nodes in their order, each with the record whose lowering stores it.
-- Assumes nothing.
use Rattle.std.specs.Prelude.{ℕ, suc}

-- document 01, Stored order: a node's kind and two operands; `source` is the record being lowered
pub record Node : Type 0 where
  pub kind : ℕ
  pub left : ℕ
  pub right : ℕ
  pub source : ℕ

-- why lowering stops by itself, whatever the room: document 01's refusals 10 and 12
pub data Stop : Type 0 where
  undefined bindings : Stop

-- nodes one after another, up to a result or to a stop at a record
pub data Trace (A : Type 0) : Type 0 where
  done : A → Trace A
  stopped : Stop → ℕ → Trace A
  store : Node → Trace A → Trace A

-- what is stored from the next node's number on
abbrev pub Run : Type 0 → Type 0
Run A = ℕ → Trace A

-- nothing stored
unfoldable pub pure : {A : Type 0} → A → Run A
pure a c = done a

-- stopped at record r
unfoldable pub stop : {A : Type 0} → Stop → ℕ → Run A
stop s r c = stopped s r

-- a trace, and then what its result says
unfoldable pub graft : {A B : Type 0} → Trace A → (A → Run B) → Run B
graft (done a) k c = k a c
graft (stopped s r) k c = stopped s r
graft (store x t) k c = store x (graft t k (suc c))

-- one run after another
unfoldable pub bind : {A B : Type 0} → Run A → (A → Run B) → Run B
bind m k c = graft (m c) k c

-- document 01, Stored order: one node, for record r; the result is its number
unfoldable pub emit : ℕ → ℕ → ℕ → ℕ → Run ℕ
emit r kind a b c = store (record { kind = kind; left = a; right = b; source = r }) (done c)
