-- A value comes back to a frame: a law for each code, and the machine's leaves: witnesses and jets.
-- Assumes nothing.
use mathlib.Core.Path.{◌≡◌, refl, sym, ap, ◌∙◌}
use mathlib.Core.List.{List}
use mathlib.Core.Bool.{Bool, true, false}
use Prim.Native.Nat.{ℕ, ◌+◌, ◌*◌, ◌-◌, ◌≤◌, ◌<◌}
use native.Mathlib.Omega.{arith}
use lib.ListN.{length, get_or}
use borrow.Author.Tests.{lt-ltb, le-ltb}
use Rattle.simplicity.specs.Outcomes.{Outcome}
use Rattle.book.specs.Format.{word_at}
use Rattle.book.specs.declared.fault.Fault.TheVariants.{Witness}
use Rattle.machine.specs.declared.State.{State}
use Rattle.cells.specs.declared.table.Kept.{Kept}
use Rattle.cells.specs.declared.jets.JetEnd.{JetEnd}
use Rattle.cells.specs.declared.jets.JetEnd.TheVariants as jets
use Rattle.std.specs.Prelude.{Result, Ok, Err}
use Rattle.machine.specs.declared.Step.TheVariants.{Back}
use Rattle.machine.specs.declared.Halt.{Halt}
use Rattle.machine.specs.declared.Frame.{Frame}
use Rattle.machine.specs.declared.Frame.TheVariants.{Skip, Second, Lefted, Righted, Pair}
use Rattle.machine.specs.declared.Half.TheVariants.{Left, Right}
use Rattle.cells.specs.Entries.{left_at, right_at}
use Rattle.nodes.specs.Given.{Given, typed, supplies}
use Rattle.cells.specs.Cells.{World, refuses, Out, got, halt, deliver}
use Rattle.cells.specs.Keeping.{jetted, Delivers}
use Rattle.machine.specs.Run.{DEEP, witnessed}
use Rattle.machine.specs.Machine.{resume, end_of, ended_by, going_on, outcome, turns, Turned, Downed, Handed, Answers, Backs, Sound}
use Rattle.machine.proofs.Turns.{back_down, back_hand, handed_as}
use Rattle.machine.proofs.Ways.{frame_skip, frame_second, frame_beside, frame_lefted, frame_righted, frame_paired, weight_second, weight_beside}
use Rattle.cells.specs.Cells.{store}

-- a jet that gave no cells ends the run
jet_halts : (n : ℕ) (t hs : List ℕ) (x : JetEnd) → jetted n t hs (Err x) ≡ halt 0 (end_of (ended_by x)) n
unfolding jetted
jet_halts n t hs jets.Failed = refl
jet_halts n t hs jets.Stuck = refl
jet_halts n t hs jets.Unknown = refl

below : (d : ℕ) → (d ≡ 0 → ⊥) → d ≡ d - 1 + 1
below d h = omega arith

under : (d : ℕ) → (d ≡ 0 → ⊥) → d ≤ DEEP → d - 1 < DEEP
under d h l = omega arith

module _ {g : Given} {c : List ℕ} {f : List Frame} {s : State} (z : s.step ≡ Back) (nz : s.depth ≡ 0 → ⊥) (le : s.depth ≤ DEEP) where
  pub back_skip : get_or f (s.depth - 1) Skip ≡ Skip
      → Turned g c f s c f (Ok (record { depth = s.depth - 1; node = 0; value = s.value; used = s.used; step = s.step }))
  unfolding outcome going_on turns
  back_skip w =
      back_hand g c f s (s.depth - 1) Skip z (below s.depth nz) (under s.depth nz le) w {m = got 0 s.value}
      (record { same = λ g k fs hs. rw z; depth = refl; less = λ fs. rw z (omega arith) })
      (λ kids. frame_skip g kids s.node s.value s.used c _)

  pub back_second : {n m : ℕ} {f' : List Frame} {r : State} → get_or f (s.depth - 1) Skip ≡ Second n
      → Downed f (s.depth - 1) Skip m s.value s.used f' r → m ≡ right_at g.nodes n → Turned g c f s c f' (Ok r)
  back_second {n} {m} w dn q =
      back_down g c f s (s.depth - 1) (Second n) z (below s.depth nz) (under s.depth nz le) w dn (weight_second n)
      (λ kids. frame_second g kids n s.value s.used c _ m q)

  pub back_beside : {n h m : ℕ} {f' : List Frame} {r : State} → get_or f (s.depth - 1) Skip ≡ Pair Left n h
      → Downed f (s.depth - 1) (Pair Right n s.value) m h s.used f' r → m ≡ right_at g.nodes n → Turned g c f s c f' (Ok r)
  back_beside {n} {h} {m} w dn q =
      back_down g c f s (s.depth - 1) (Pair Left n h) z (below s.depth nz) (under s.depth nz le) w dn (weight_beside n h s.value)
      (λ kids. frame_beside g kids n s.value s.used c _ h m q)

  pub back_lefted : {n : ℕ} {c' : List ℕ} {r : Result State Halt} → get_or f (s.depth - 1) Skip ≡ Lefted n
      → Handed c s.used (s.depth - 1) (store n 2 s.value 0) c' r → Turned g c f s c' f r
  back_lefted {n} w h =
      back_hand g c f s (s.depth - 1) (Lefted n) z (below s.depth nz) (under s.depth nz le) w h (λ kids. frame_lefted g kids n s.value s.used c _)

  pub back_righted : {n : ℕ} {c' : List ℕ} {r : Result State Halt} → get_or f (s.depth - 1) Skip ≡ Righted n
      → Handed c s.used (s.depth - 1) (store n 3 s.value 0) c' r → Turned g c f s c' f r
  back_righted {n} w h =
      back_hand g c f s (s.depth - 1) (Righted n) z (below s.depth nz) (under s.depth nz le) w h (λ kids. frame_righted g kids n s.value s.used c _)

  pub back_paired : {n h : ℕ} {c' : List ℕ} {r : Result State Halt} → get_or f (s.depth - 1) Skip ≡ Pair Right n h
      → Handed c s.used (s.depth - 1) (store n 4 h s.value) c' r → Turned g c f s c' f r
  back_paired {n} {h} w hd =
      back_hand g c f s (s.depth - 1) (Pair Right n h) z (below s.depth nz) (under s.depth nz le) w hd (λ kids. frame_paired g kids n s.value s.used c _ h)

-- WITNESSES
module _ (g : Given) (n x : ℕ) (w : World) (q : x ≡ left_at g.nodes n) where
  pub witness_absent : length g.witnesses ≤ 2 * x + 1 → witnessed g n w ≡ halt 0 (refuses Witness) n
  unfolding supplies
  witness_absent l = rw (← q, le-ltb (2 * x + 1) (length g.witnesses) l)

  module _ (t r : ℕ) (a : 2 * x + 1 < length g.witnesses) (i : t ≡ right_at g.nodes n) (j : r ≡ word_at g.witnesses (2 * x)) where
    pub witness_given : {y : Bool} (v : ℕ) (row : List ℕ) → y ≡ typed g.book r t → y ≡ true → v ≡ get_or row r 0 → Sound g.book row → witnessed g n w ≡ got 0 v w
    unfolding supplies
    witness_given v row b e k h = let z : typed g.book r t ≡ true = sym b ∙ e in rw (← q, ← i, ← j, lt-ltb (2 * x + 1) (length g.witnesses) a, z, k, h.placed.each r)

    pub witness_refused : {y : Bool} → y ≡ typed g.book r t → y ≡ false → witnessed g n w ≡ halt 0 (refuses Witness) n
    unfolding supplies
    witness_refused b e = let z : typed g.book r t ≡ false = sym b ∙ e in rw (← q, ← i, ← j, lt-ltb (2 * x + 1) (length g.witnesses) a, z)

-- JETS
module _ {c c' : List ℕ} {u : ℕ} {o : Outcome} {j : Result Kept JetEnd} {s : State} {r : Result State Halt} (d : Delivers c u o j c') where
  pub jet_made : {p : Kept} → j ≡ Ok p → Backs s p r → Handed c u s.depth (deliver s.node o) c' r
  unfolding jetted
  jet_made {p} e b =
      record { same = λ g k fs hs. ap (λ (x : Out). resume g k fs x) (sym (rw e at (d.same s.node hs))) ∙ b.same g k fs c' hs; depth = b.depth; less = b.less }

  pub jet_ended : {x : JetEnd} → j ≡ Err x → Answers s (λ w. halt 0 (end_of (ended_by x)) s.node) r → u ≡ s.used → Handed c u s.depth (deliver s.node o) c' r
  jet_ended {x} e a z =
      handed_as {t₁ = c'} {m' = λ w. halt 0 (end_of (ended_by x)) s.node} (λ hs. sym (rw e at (d.same s.node hs)) ∙ jet_halts s.node c' hs x) (rw z (a.handed c'))
