-- `read::Reader::judge_loose` meets its contract: what is left of the records answers for them all.
-- Assumes nothing.
use Prim.Native.Nat.{ℕ, ◌-◌}
use Rattle.book.specs.Read.{loose, state}
use mathlib.Core.Path.{◌≡◌}
use Rattle.book.proofs.read.Reader.judge_loose.Given as goal

abbrev pub invariant-loop-j : goal.invariant-loop-j
invariant-loop-j l =
    (p : ℕ) → loose l.book (state p l.count l.self.index l.self.named l.self.depths) l.j (l.last - l.j) ≡ loose l.book (state p l.count l.self.index l.self.named l.self.depths) 0 (l.last - 0)
