-- Laws on frames: what they make of outcomes, and the rows that hold them.
-- Assumes nothing.
use mathlib.Core.Path.{◌≡◌, refl}
use mathlib.Core.List.{List, [], ◌∷◌}
use Prim.Native.Nat.{ℕ, zero, suc, ◌+◌, ◌<◌, ◌≤◌}
use native.Mathlib.Numerals.{add-one}
use native.Mathlib.Omega.{arith}
use lib.ListN.{length, set}
use lib.Seq.{get_or-set_same, get_or-set_other}
use Rattle.nodes.specs.Given.{Given}
use Rattle.cells.specs.Cells.{End, Out, halt, add, bind}
use Rattle.machine.specs.Run.{DEEP, Runs, run}
use Rattle.machine.specs.declared.Frame.{Frame}
use Rattle.machine.specs.declared.Frame.TheVariants.{Skip, Second, Lefted, Righted, Pair}
use Rattle.machine.specs.declared.Half.TheVariants.{Left, Right}
use Rattle.machine.specs.Machine.{holding, apply, resume, frames, waiting}
use Rattle.cells.proofs.Outs.{bind_add}

apply_add : (g : Given) (kids : Runs) (f : Frame) (t : ℕ) (o : Out) → apply g kids f (add t o) ≡ add t (apply g kids f o)
unfolding apply
apply_add g kids Skip t o = refl
apply_add g kids (Second n) t o = bind_add t o _
apply_add g kids (Pair Left n h) t o = bind_add t o _
apply_add g kids (Lefted n) t o = bind_add t o _
apply_add g kids (Righted n) t o = bind_add t o _
apply_add g kids (Pair Right n h) t o = bind_add t o _

-- nodes entered before count before all that the frames do
pub resume_add : (g : Given) (k : ℕ) (fs : List Frame) (t : ℕ) (o : Out) → resume g k fs (add t o) ≡ add t (resume g k fs o)
unfolding resume
resume_add g k [] t o = refl
resume_add g k (f ∷ fs) t o = rw (apply_add g (run k g) f t o) (resume_add g (suc k) fs t _)

apply_halt : (g : Given) (kids : Runs) (f : Frame) (t : ℕ) (e : End) (n : ℕ) → apply g kids f (halt t e n) ≡ halt t e n
unfolding apply bind
apply_halt g kids Skip t e n = refl
apply_halt g kids (Second m) t e n = refl
apply_halt g kids (Pair Left m h) t e n = refl
apply_halt g kids (Lefted m) t e n = refl
apply_halt g kids (Righted m) t e n = refl
apply_halt g kids (Pair Right m h) t e n = refl

-- an end passes through the frames
pub resume_halt : (g : Given) (k : ℕ) (fs : List Frame) (t : ℕ) (e : End) (n : ℕ) → resume g k fs (halt t e n) ≡ halt t e n
unfolding resume
resume_halt g k [] t e n = refl
resume_halt g k (f ∷ fs) t e n = rw (apply_halt g (run k g) f t e n) (resume_halt g (suc k) fs t e n)

-- frames below one that is put are as they were, and so is what waits in them
frames_below : (f : List Frame) (i : ℕ) (a : Frame) (d : ℕ) → d ≤ i → frames (set f i a) d ≡ frames f d
unfolding frames
frames_below f i a zero l = refl
frames_below f i a (suc d) l = rw (get_or-set_other f i d a Skip (omega arith), frames_below f i a d (omega arith))

waiting_below : (f : List Frame) (i : ℕ) (a : Frame) (d : ℕ) → d ≤ i → waiting (set f i a) d ≡ waiting f d
unfolding waiting
waiting_below f i a zero l = refl
waiting_below f i a (suc d) l = rw (get_or-set_other f i d a Skip (omega arith), waiting_below f i a d (omega arith))

module _ (f : List Frame) (d : ℕ) (a : Frame) (deep : length f ≡ DEEP) (l : d < DEEP) where
  pub frames_put : frames (set f d a) (d + 1) ≡ a ∷ frames f d
  unfolding frames
  frames_put = rw (add-one d, get_or-set_same f d a Skip (omega arith), frames_below f d a d (omega arith))

  pub waiting_put : waiting (set f d a) (d + 1) ≡ holding a (waiting f d)
  unfolding waiting
  waiting_put = rw (add-one d, get_or-set_same f d a Skip (omega arith), waiting_below f d a d (omega arith))
