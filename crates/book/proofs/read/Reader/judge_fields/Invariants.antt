-- `read::Reader::judge_fields` meets its contract: what is left of the fields answers for them all.
-- Assumes nothing.
use Prim.Native.Nat.{◌-◌}
use Rattle.book.specs.Read.{fields}
use Rattle.book.specs.Ready.{OthersKept}
use mathlib.Core.Path.{◌≡◌}
use Rattle.book.proofs.read.Reader.judge_fields.Given as goal

abbrev pub invariant-loop-k : goal.invariant-loop-k
invariant-loop-k l =
    (fields l.book l.initial.self.index l.initial.self.depths l.r l.frame.at l.k (l.total - l.k) l.self.named l.deep ≡ fields l.book l.initial.self.index l.initial.self.depths l.r l.frame.at 0 (l.total - 0) l.initial.self.named l.initial.deep)
    × OthersKept l.initial.self l.self
