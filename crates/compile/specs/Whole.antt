-- LOWER: its answer and every byte of its table, for every list of bytes.
-- Assumes nothing.
use Rattle.book.specs.declared.fault.Refusal.{Refusal}
use Rattle.std.specs.Prelude.{ℕ, ◌-◌, Bool, ◌≡◌, List, [], ◌∷◌, length, Result, Ok, Err}
use Rattle.book.specs.Read.{read_of, index_of}
use Rattle.book.specs.Tree.{ignore, expr_of}
use Rattle.named.specs.Trace.{Trace}
use Rattle.named.specs.Cut.{Out, made, refused, cut, room, image}
use Rattle.compile.specs.Lower.{lower}

-- document 01, Scope: the root expression's nodes, in a scope whose root is the input, which has no name
unfoldable pub trace_of : Bool → List ℕ → List ℕ → ℕ → Trace ℕ
trace_of y b i r = lower y (expr_of b i r) (ignore ∷ []) 0

-- document 01, Refusals by number: READ's refusal, or the root's trace in the room of a table of n bytes; y says whether symbols are asked for
unfoldable pub lowering : List ℕ → Bool → ℕ → Out ℕ
lowering b y n = elim (read_of b) [ Ok k ↦ cut (room n) (trace_of y b (index_of b) (k - 1)) | Err w ↦ refused w ]

-- a success has the number of nodes
abbrev pub answer_of : Out ℕ → Result ℕ Refusal
answer_of (made a xs) = Ok (length xs)
answer_of (refused w) = Err w

-- LOWER's answer, and its table
unfoldable pub lower_of : List ℕ → Bool → ℕ → Result ℕ Refusal
lower_of b y n = answer_of (lowering b y n)

unfoldable pub table_of : List ℕ → Bool → ℕ → List ℕ
table_of b y n = image n (lowering b y n)

-- the answer and the table of a run that comes to o, in a table of n bytes
pub record Lowered (o : Out ℕ) (n : ℕ) (a : Result ℕ Refusal) (t : List ℕ) : Type 0 where
  pub answer : a ≡ answer_of o
  pub table : t ≡ image n o
