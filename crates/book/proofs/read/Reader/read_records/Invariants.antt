-- `read::Reader::read_records` meets its contract: what is left of the book answers for it all.
-- Assumes nothing.
use Prim.Native.Nat.{◌-◌}
use Rattle.book.proofs.Going.{Going, comes}
use Rattle.book.specs.Read.{records}
use lib.ListN.{length}
use Rattle.book.proofs.read.Reader.read_records.Given as goal

abbrev pub invariant-loop-at : goal.invariant-loop-at
invariant-loop-at l =
    Going l.book (records 4096 l.book (comes l.initial.self l.initial.at l.initial.r)) l.self l.at l.r

abbrev pub decreases-loop-at : goal.decreases-loop-at
decreases-loop-at l = length l.book - l.at
