-- `drive` meets its contract: turns until the run has ended.
-- Assumes nothing.
use Rattle.machine.proofs.Turns.{left_less, going_none, going_more, going_stopped, going_ended}
use Rattle.std.proofs.lemmas.Result.{err_from_is_err_and}
use Rattle.machine.proofs.drive.Goals as goal
use Rattle.machine.proofs.drive.Goals.{in-Enter, in-Back+else-s-eq0}

pub turns-init : goal.turns-init
turns-init c = going_none (rw c.in_ok-s.was at c.requires.start_depth_in_range) c.told-frames

pub turns-smaller : goal.turns-smaller
turns-smaller c =
    left_less {c' = c.match-s.cells} {f' = c.match-s.frames} c.in_ok-s-2.was
    (elim c.match-s.branch [ in-Enter w ↦ rw (w.cells-is, w.frames-is, w.next-is) w.enter-next.ensures | in-Back+else-s-eq0 w ↦ rw (w.cells-is, w.frames-is, w.next-is) (w.back_to-next.ensures _ _) ])

pub turns-preserved : goal.turns-preserved
turns-preserved c =
    going_more c.turns.invariant {c' = c.match-s.cells} {f' = c.match-s.frames} c.in_ok-s-2.was c.match-s.auto.cells
    (elim c.match-s.branch [ in-Enter w ↦ rw (w.cells-is, w.frames-is, w.next-is) w.enter-next.ensures | in-Back+else-s-eq0 w ↦ rw (w.cells-is, w.frames-is, w.next-is) (w.back_to-next.ensures _ _) ])

pub returns-in_err-s-2 : goal.returns-in_err-s-2
returns-in_err-s-2 c =
    let p = err_from_is_err_and c.from_residual-in_err-s-2.result c.from_residual-in_err-s-2.ensures.1 in
    rw (p.1, p.2, c.in_ok-s.was)
    (going_ended c.turns.invariant {c' = c.match-s.cells} {f' = c.match-s.frames} c.in_err-s-2.was
    (elim c.match-s.branch [ in-Enter w ↦ rw (w.cells-is, w.frames-is, w.next-is) w.enter-next.ensures | in-Back+else-s-eq0 w ↦ rw (w.cells-is, w.frames-is, w.next-is) (w.back_to-next.ensures _ _) ]))

pub returns-then-s-eq0 : goal.returns-then-s-eq0
returns-then-s-eq0 c = rw c.in_ok-s.was (going_stopped c.turns.invariant c.in-Back.is c.if-s-eq0.true)
