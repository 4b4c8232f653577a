-- `close_all` meets its contract: what is left of the block suffices, from the last statement on.
-- Assumes nothing.
use Prim.Native.Nat.{ℕ}
use lib.ListN.{length}
use Rattle.std.specs.Prelude.{Result}
use Rattle.book.specs.declared.fault.Refusal.{Refusal}
use Rattle.named.specs.Stores.{Done}
use Rattle.named.specs.Table.{Table}
use Rattle.parts.specs.Parts.{close_all}
use Rattle.parts.proofs.part.close_all.Given as goal

abbrev pub invariant-loop-k : goal.invariant-loop-k
invariant-loop-k l =
    (s : Result ℕ Refusal) (u : Table) → Done l.nodes (close_all l.book.bytes l.book.index l.r l.begun l.k l.rest) s u → Done l.initial.nodes (close_all l.book.bytes l.book.index l.r l.begun (length l.begun) l.end) s u
