-- A trace cut to the room of a table, and the table's bytes.
-- Assumes nothing.
use Rattle.std.specs.Prelude.{ℕ, zero, suc, ◌-◌, ◌/◌, ◌%◌, min, List, [], ◌∷◌, ◌++◌, length, replicate}
use Rattle.book.specs.Faults.{refusal}
use Rattle.book.specs.declared.fault.Fault.{Fault}
use Rattle.book.specs.declared.fault.Fault.TheVariants.{Undefined, Room, Bindings}
use Rattle.book.specs.declared.fault.Refusal.{Refusal}
use Rattle.named.specs.Trace.{Node, Stop, undefined, bindings, Trace, done, stopped, store}

-- document 01, Refusals 10 and 12
abbrev pub fault_of : Stop → Fault
fault_of undefined = Undefined
fault_of bindings = Bindings

-- what a trace comes to: a result with the nodes that were stored, or a refusal
pub data Out (A : Type 0) : Type 0 where
  made : A → List Node → Out A
  refused : Refusal → Out A

-- nodes that were stored before
unfoldable pub after : {A : Type 0} → List Node → Out A → Out A
after xs (made a ys) = made a (xs ++ ys)
after xs (refused w) = refused w

-- document 01, Refusal 11: with room for so many nodes more, the next node that doesn't fit is refused at its record
unfoldable pub cut : {A : Type 0} → ℕ → Trace A → Out A
cut l (done a) = made a []
cut l (stopped s r) = refused (refusal (fault_of s) r)
cut zero (store x t) = refused (refusal Room x.source)
cut (suc l) (store x t) = after (x ∷ []) (cut l t)

-- how many nodes a trace stores
unfoldable pub size : {A : Type 0} → Trace A → ℕ
size (done a) = 0
size (stopped s r) = 0
size (store x t) = suc (size t)

-- document 01, Stored order: room is the table's length over five, at most 65,535
unfoldable pub room : ℕ → ℕ
room n = min (n / 5) 65535

-- document 01, Stored order: a node is five bytes: kind, then two operands low byte first
abbrev pub bytes : Node → List ℕ
bytes x = x.kind ∷ x.left % 256 ∷ x.left / 256 ∷ x.right % 256 ∷ x.right / 256 ∷ []

unfoldable pub encode : List Node → List ℕ
encode [] = []
encode (x ∷ xs) = bytes x ++ encode xs

-- document 01, Refusals by number: a table of n bytes holds the nodes and then zeros; after a refusal zeros throughout
unfoldable pub image : {A : Type 0} → ℕ → Out A → List ℕ
image n (made a xs) = encode xs ++ replicate (n - length (encode xs)) 0
image n (refused w) = replicate n 0
