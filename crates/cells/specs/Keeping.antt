-- What the code's parts say of the cells that they store, and of what they read: in the run's own terms.
-- Assumes nothing.
use Rattle.std.specs.Prelude.{◌≡◌, ℕ, ◌^◌, ◌<◌, false, List, ◌==◌, Option, Some, None, Result, Ok, Err}
use Rattle.laws.specs.Table.{pick}
use Rattle.simplicity.specs.Values.{if_unit}
use Rattle.simplicity.specs.Outcomes.{Outcome, stuck}
use Rattle.simplicity.specs.Jets.{on_word, on_words}
use Rattle.book.specs.declared.fault.Fault.TheVariants as faults
use Rattle.cells.specs.Cells.{shape_at, World, world, fails, refuses, Out, got, halt, bind, deliver}
use Rattle.cells.specs.declared.table.Kept.{Kept}
use Rattle.cells.specs.declared.jets.JetEnd.{JetEnd}
use Rattle.cells.specs.declared.jets.JetEnd.TheVariants as ends

-- what was kept for node n in the table t, with the cells hs waiting: the last cell, or that one did not fit
unfoldable pub leads : ℕ → List ℕ → List ℕ → Kept → Out
leads n t hs p = pick p.full (halt 0 (refuses faults.Cells) n) (got 0 p.cell (world p.used t hs))

-- with so many cells used, nothing is kept yet
pub record Fresh (u : ℕ) (p : Kept) : Type 0 where
  pub used : p.used ≡ u
  pub room : p.full ≡ false

-- from p and the table t on, m was done for any node: it led to q and the table t'
pub record Keeps (t : List ℕ) (p : Kept) (m : ℕ → World → Out) (q : Kept) (t' : List ℕ) : Type 0 where
  pub same : (n : ℕ) (hs : List ℕ) → leads n t' hs q ≡ bind (leads n t hs p) (λ v. m n)

-- a word's number in what is made of it; where it is no word, stuck
abbrev pub of_word : Option ℕ → (ℕ → Outcome) → Outcome
of_word (Some n) f = f n
of_word None f = stuck

abbrev pub of_words : Option (ℕ × ℕ) → (ℕ → ℕ → Outcome) → Outcome
of_words (Some p) f = f p.0 p.1
of_words None f = stuck

-- a number below s, if it is one
abbrev pub Under : ℕ → Option ℕ → Type 0
Under s (Some n) = n < s
Under s None = Unit {0}

-- the number of a bit whose side holds cell u, which must be the unit
abbrev pub unit_word : List ℕ → ℕ → ℕ → Option ℕ
unit_word t u n = if_unit (shape_at t u) (Some n) None

-- the arguments of jets 0 to 2 are words of 2 ^ k bits
abbrev pub size_of : ℕ → ℕ
size_of j = pick (j == 0) 0 3

-- the word of 2 ^ k bits at cell x; the two words in the pair at cell x
pub record Worded (t : List ℕ) (k x : ℕ) (r : Option ℕ) : Type 0 where
  pub same : (f : ℕ → Outcome) → on_word (shape_at t) k x f ≡ of_word r f
  pub under : Under (2 ^ (2 ^ k)) r

pub record Paired (t : List ℕ) (k x : ℕ) (r : Option (ℕ × ℕ)) : Type 0 where
  pub same : (f : ℕ → ℕ → Outcome) → on_words (shape_at t) k x f ≡ of_words r f

-- what a jet came to for node n, in the table t with the cells hs waiting
unfoldable pub jetted : ℕ → List ℕ → List ℕ → Result Kept JetEnd → Out
jetted n t hs (Ok p) = leads n t hs p
jetted n t hs (Err ends.Failed) = halt 0 fails n
jetted n t hs (Err ends.Stuck) = halt 0 (refuses faults.Stuck) n
jetted n t hs (Err ends.Unknown) = halt 0 (refuses faults.Jet) n

-- with u cells used in the table t, an outcome was delivered for any node
pub record Delivers (t : List ℕ) (u : ℕ) (o : Outcome) (r : Result Kept JetEnd) (t' : List ℕ) : Type 0 where
  pub same : (n : ℕ) (hs : List ℕ) → jetted n t' hs r ≡ deliver n o (world u t hs)
