-- What the parts of the call say: the initial cells, and the answer beside the cells.
-- Assumes nothing.
use Rattle.std.specs.Prelude.{ℕ, ◌≡◌, List}
use Rattle.book.specs.Text.{Text}
use Rattle.nodes.specs.Given.{Given, given}
use Rattle.cells.specs.Cells.{World, world, Out, bind}
use Rattle.cells.specs.Keeping.{leads}
use Rattle.cells.specs.declared.table.Kept.{Kept}
use Rattle.run.specs.Whole.{seeds, Result, answer_of, cells_of}
use Rattle.run.specs.Whole.{RunAnswer}
use Rattle.run.specs.declared.Call.{Call}

-- from p and the table t on, m was done before the run: it led to q and the table t'
pub record Seeded (t : List ℕ) (p : Kept) (m : ℕ → World → Out) (q : Kept) (t' : List ℕ) : Type 0 where
  pub same : (hs : List ℕ) → leads 0 t' hs q ≡ bind (leads 0 t hs p) m

-- the initial cells of the first n records, from the table t on, led to q and the table t'
pub record Started (b : Text) (n : ℕ) (t : List ℕ) (q : Kept) (t' : List ℕ) : Type 0 where
  pub same : (hs : List ℕ) → leads 0 t' hs q ≡ seeds b n (world 0 t hs)

-- the answer and the cells of a call that came to r, in a table of m bytes
pub record Answered (r : Result) (m : ℕ) (a : RunAnswer) (t' : List ℕ) : Type 0 where
  pub answer : a ≡ answer_of r
  pub table : t' ≡ cells_of m r

-- what a run is given by a call whose book is read
abbrev pub given_by : Call → Given
given_by c = given c.book.now c.witnesses.now c.nodes.now
