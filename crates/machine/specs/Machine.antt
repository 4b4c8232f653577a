-- The machine by which the code runs a table: its frames say what is left to do, and each turn keeps what they lead to.
-- Assumes nothing.
use Rattle.std.specs.Prelude.{ℕ, zero, suc, ◌+◌, ◌*◌, ◌-◌, ◌≤◌, ◌<◌, ◌≡◌, ◌⊎◌, List, [], ◌∷◌, length, get_or, Result, Ok, Err, IfOk}
use Rattle.book.specs.Valid.{Valid}
use Rattle.book.specs.Text.{Text}
use Rattle.named.specs.Combinators.{CASE, ASSERTL, ASSERTR}
use Rattle.nodes.specs.Given.{Given, given, cell_of}
use Rattle.cells.specs.Cells.{left_cell, right_cell, pair_cell, World, world, newest, let_go, keeping, End, fails, refuses, Out, got, halt, add, bind, store}
use Rattle.machine.specs.Run.{DEEP, Runs, right_of, run}
use Rattle.cells.specs.Keeping.{leads}
use Rattle.cells.specs.declared.table.Kept.{Kept}
use Rattle.cells.specs.declared.jets.JetEnd.{JetEnd}
use Rattle.cells.specs.declared.jets.JetEnd.TheVariants as jets
use Rattle.book.specs.declared.fault.Fault.TheVariants as faults
use Rattle.machine.specs.declared.Lent.{Lent}
use Rattle.machine.specs.declared.State.{State}
use Rattle.machine.specs.declared.Step.{Step}
use Rattle.machine.specs.declared.Step.TheVariants.{Enter, Back}
use Rattle.machine.specs.declared.Halt.{Halt}
use Rattle.machine.specs.declared.Ended.{Ended}
use Rattle.machine.specs.declared.Ended.TheVariants.{Failed, Refused}
use Rattle.machine.specs.declared.Frame.{Frame}
use Rattle.machine.specs.declared.Frame.TheVariants.{Skip, Second, Lefted, Righted, Pair}
use Rattle.machine.specs.declared.Half.TheVariants.{Left, Right}

-- a row has the cell of each value record
pub record Placed (b : Text) (row : List ℕ) : Type 0 where
  pub each : (r : ℕ) → get_or row r 0 ≡ cell_of b r

-- what the machine may rely on: the book is valid, and a row has its values' cells
pub record Sound (b : Text) (row : List ℕ) : Type 0 where
  pub valid : Valid b.bytes b.index b.records
  pub placed : Placed b row

-- what a run is given by what it is lent
abbrev pub given_in : Lent → Given
given_in l = given l.book.now l.witnesses.now l.nodes.now

-- what the machine may rely on in what it is lent
abbrev pub SoundIn : Lent → Type 0
SoundIn l = Sound l.book.now l.row.now

-- what a frame makes of an outcome, children running as `kids`: it hands the value on; it runs the other child on the value; it stores the left,
-- the right of the value; of a pair it runs the right child on the newest cell that waits, with the value waiting in its place, or stores the
-- pair of the newest cell and the value
unfoldable pub apply : Given → Runs → Frame → Out → Out
apply g kids Skip o = o
apply g kids (Second n) o = bind o (kids (right_of g n))
apply g kids (Lefted n) o = bind o (λ v. store n left_cell v 0)
apply g kids (Righted n) o = bind o (λ v. store n right_cell v 0)
apply g kids (Pair Left n h) o = bind o (λ a w. keeping a (kids (right_of g n) (newest w)) (λ b c. store n pair_cell c b) (let_go w))
apply g kids (Pair Right n h) o = bind o (λ b w. store n pair_cell (newest w) b (let_go w))

-- what all frames make of it, where k more nodes may be entered below the newest
unfoldable pub resume : Given → ℕ → List Frame → Out → Out
resume g k [] o = o
resume g k (f ∷ fs) o = resume g (suc k) fs (apply g (run k g) f o)

-- the cells that wait, with the one that a frame holds, if it holds one
abbrev pub holding : Frame → List ℕ → List ℕ
holding Skip hs = hs
holding (Second n) hs = hs
holding (Lefted n) hs = hs
holding (Righted n) hs = hs
holding (Pair half n h) hs = h ∷ hs

-- the first d frames of a row, newest first, and the cells that wait in them
unfoldable pub frames : List Frame → ℕ → List Frame
frames f zero = []
frames f (suc d) = get_or f d Skip ∷ frames f d

unfoldable pub waiting : List Frame → ℕ → List ℕ
waiting f zero = []
waiting f (suc d) = holding (get_or f d Skip) (waiting f d)

-- how the code says that a run ended without a value
abbrev pub end_of : Ended → End
end_of Failed = fails
end_of (Refused f) = refuses f

-- how a jet that gave no cells ends the run
abbrev pub ended_by : JetEnd → Ended
ended_by jets.Failed = Failed
ended_by jets.Stuck = Refused faults.Stuck
ended_by jets.Unknown = Refused faults.Jet

-- what a step leads to: a node is entered on a cell, or a cell handed back
unfoldable pub going_on : Step → Given → ℕ → List Frame → ℕ → ℕ → World → Out
going_on Enter g k fs n x w = resume g k fs (run k g n x w)
going_on Back g k fs n x w = resume g k fs (got 0 x w)

-- what the machine leads to: the table t, the frames f, the state s
unfoldable pub future : Given → List ℕ → List Frame → State → Out
future g t f s = going_on s.step g (DEEP - s.depth) (frames f s.depth) s.node s.value (world s.used t (waiting f s.depth))

-- the same after a turn, which may have ended the run
unfoldable pub coming : Given → List ℕ → List Frame → Result State Halt → Out
coming g t f (Ok s) = future g t f s
coming g t f (Err h) = halt 0 (end_of h.end) h.node

-- the same from below the frames fs, with the cells hs waiting in them
unfoldable pub outcome : Given → ℕ → List Frame → List ℕ → List ℕ → Result State Halt → Out
outcome g k fs t hs (Ok s) = going_on s.step g k fs s.node s.value (world s.used t hs)
outcome g k fs t hs (Err h) = halt 0 (end_of h.end) h.node

-- what a run ended with: a value's cell, or without one
abbrev pub over_at : List ℕ → Result State Halt → Out
over_at t (Ok s) = got 0 s.value (world s.used t [])
over_at t (Err h) = halt 0 (end_of h.end) h.node

-- how many turns a frame takes at most, besides four for each node entered
unfoldable pub weight : Frame → ℕ
weight Skip = 1
weight (Second n) = 3
weight (Lefted n) = 1
weight (Righted n) = 1
weight (Pair Left n h) = 3
weight (Pair Right n h) = 1

unfoldable pub weights : List Frame → ℕ
weights [] = 0
weights (f ∷ fs) = weight f + weights fs

unfoldable pub turns : Step → List Frame → ℕ
turns Enter fs = 2 + weights fs
turns Back fs = 1 + weights fs

-- a turn: t nodes were entered, and what the machine leads to is otherwise the same. That the frames stay as many stands here, since a proof
-- knows the length of an array behind a `&mut` only up to a call that takes it
pub record Turned (g : Given) (c : List ℕ) (f : List Frame) (s : State) (c' : List ℕ) (f' : List Frame) (r : Result State Halt) : Type 0 where
  pub t : ℕ
  pub same : future g c f s ≡ add t (coming g c' f' r)
  pub depth : IfOk r (λ s'. s'.depth ≤ DEEP)
  pub deep : length f' ≡ length f
  pub less : IfOk r (λ s'. turns s'.step (frames f' s'.depth) < 4 * t + turns s.step (frames f s.depth))

-- the frame a is put at depth d, and node m is to be entered on cell y
pub record Downed (f : List Frame) (d : ℕ) (a : Frame) (m y u : ℕ) (f' : List Frame) (s' : State) : Type 0 where
  pub same : (g : Given) (t : List ℕ)
      → resume g (DEEP - d) (frames f d) (apply g (run (DEEP - (d + 1)) g) a (run (DEEP - (d + 1)) g m y (world u t (holding a (waiting f d)))))
      ≡ future g t f' s'
  pub depth : s'.depth ≤ DEEP
  pub deep : length f' ≡ length f
  pub turned : turns s'.step (frames f' s'.depth) ≡ 2 + (weight a + weights (frames f d))

-- at depth d, with u cells used in the table t, m gave a value that is handed back, or ended the run
pub record Handed (t : List ℕ) (u d : ℕ) (m : World → Out) (t' : List ℕ) (r : Result State Halt) : Type 0 where
  pub same : (g : Given) (k : ℕ) (fs : List Frame) (hs : List ℕ) → resume g k fs (m (world u t hs)) ≡ outcome g k fs t' hs r
  pub depth : IfOk r (λ s'. s'.depth ≡ d)
  pub less : (fs : List Frame) → IfOk r (λ s'. turns s'.step fs ≤ 1 + weights fs)

-- the same without a cell stored, whatever the table
pub record Answers (s : State) (m : World → Out) (r : Result State Halt) : Type 0 where
  pub handed : (t : List ℕ) → Handed t s.used s.depth m t r

-- what was kept for the state's node is handed back, or ended the run
pub record Backs (s : State) (p : Kept) (r : Result State Halt) : Type 0 where
  pub same : (g : Given) (k : ℕ) (fs : List Frame) (t hs : List ℕ) → resume g k fs (leads s.node t hs p) ≡ outcome g k fs t hs r
  pub depth : IfOk r (λ s'. s'.depth ≡ s.depth)
  pub less : (fs : List Frame) → IfOk r (λ s'. turns s'.step fs ≤ 1 + weights fs)

-- at the state's node m was done, whose children run as they do one below
pub record Entered (c : List ℕ) (f : List Frame) (s : State) (m : Runs → World → Out) (c' : List ℕ) (f' : List Frame) (r : Result State Halt) : Type 0 where
  pub same : (g : Given)
      → resume g (DEEP - s.depth) (frames f s.depth) (m (run (DEEP - (s.depth + 1)) g) (world s.used c (waiting f s.depth))) ≡ coming g c' f' r
  pub depth : IfOk r (λ s'. s'.depth ≤ DEEP)
  pub deep : length f' ≡ length f
  pub less : IfOk r (λ s'. turns s'.step (frames f' s'.depth) < 4 + (2 + weights (frames f s.depth)))

-- a kind that takes a sum apart: a case or an assert
abbrev pub Branches : ℕ → Type 0
Branches k = (k ≡ CASE) ⊎ ((ASSERTL ≤ k) × (k ≤ ASSERTR))

-- the machine came to an end, t nodes on from where it began
pub record Stopped (o : Out) (c' : List ℕ) (r : Result State Halt) : Type 0 where
  pub t : ℕ
  pub same : o ≡ add t (over_at c' r)

-- from a start the machine came to an end; a run that had ended stays as it ended, and its cells as they were
abbrev pub Driven : Given → List ℕ → List Frame → Result State Halt → List ℕ → Result State Halt → Type 0
Driven g c f (Ok s) c' r = Stopped (future g c f s) c' r
Driven g c f (Err h) c' r = (r ≡ Err h) × (c' ≡ c)
