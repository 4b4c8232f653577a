-- `replay`: a step adds a verdict, and the line of a vector that was wrong.
use Rattle.std.proofs.Common.{◌≡◌, ◌+◌, [], ◌∷◌, ◌++◌, length, take, refl, sym, ap, ◌∙◌, subst, inl, inr, rules, of_calls, arith}
use Rattle.std.proofs.lemmas.Fn.{FoldsTo-push}
use Rattle.std.proofs.lemmas.List.{length-take-le}
use Rattle.std.proofs.Math.Seq.{take-length}
use Rattle.std.specs.Io.KnownBytes.{Consumes}
use Rattle.vectors.specs.Replayed.{Stops}
use Rattle.vectors.proofs.Told.{Told, told_none, told_right, told_wrong, told_ok}
use Rattle.vectors.proofs.replay.Goals as goal
use Rattle.vectors.proofs.replay.Goals.{then-not-branch+in_ok-print_wrong, else-not-branch, else-loop-i-test, then-loop-i-test+in_ok-read_full+then-branch}

pub loop-i-init : goal.loop-i-init
loop-i-init g c = (omega arith, refl, c.requires.callable, ([], told_none _, refl))

pub loop-i-preserved : goal.loop-i-preserved
loop-i-preserved g c =
    let h = c.loop-i.invariant in
    let v = c.in_ok-is_next_right.field-0 in
    let vs = h.3.0 in
    let before = g.W.Write.contents c.args.out.now in
    let n = c.in_ok-read_full.field-0 in
    let part = c.read_full.new.part in
    let left = g.R.Read.remaining in
    let size : length part ≡ g.row.N = omega (arith, c.in_ok-read_full.ensures.fits) in
    let full : n ≡ length part = omega (arith, c.in_ok-read_full.ensures.fits) in
    let came = subst (Consumes (left c.loop-i.input) (left c.read_full.new.input)) (ap (λ m. take m part) full ∙ take-length part) c.in_ok-read_full.ensures.bytes in
    let called = FoldsTo-push _ (c.args.is_next_right, left c.args.input.now) vs (c.loop-i.is_next_right, left c.loop-i.input) v (c.is_next_right.new.self, left c.is_next_right.new.arg2) h.3.2
    (part, _, _, _, size, came, c.from.ensures, c.in_ok-is_next_right.ensures, refl) in
    let callable : goal.F-IsAlwaysCallable g c.is_next_right.new.self = search of_calls in
    elim c.if-not-branch.branch [
      | then-not-branch+in_ok-print_wrong w ↦ (
        omega arith,
        refl,
        callable,
        (
          vs ++ (v ∷ []),
          subst (λ n. Told before (g.W.Write.contents c.if-not-branch.out) (c.loop-i.i + 1) n (vs ++ (v ∷ []))) (sym w.wrong-is)
              (told_wrong before (g.W.Write.contents c.loop-i.out) (g.W.Write.contents c.if-not-branch.out) c.loop-i.i c.loop-i.wrong vs v w.if-not-branch.true h.3.1 (search rules)),
          called,
        ),
      )
      | else-not-branch w ↦ (
        omega arith,
        refl,
        callable,
        (
          vs ++ (v ∷ []),
          subst (λ n. Told before (g.W.Write.contents c.if-not-branch.out) (c.loop-i.i + 1) n (vs ++ (v ∷ []))) (sym w.wrong-is)
              (subst (λ o. Told before (g.W.Write.contents o) (c.loop-i.i + 1) c.loop-i.wrong (vs ++ (v ∷ []))) (sym w.out-is)
              (told_right before (g.W.Write.contents c.loop-i.out) c.loop-i.i c.loop-i.wrong vs v w.if-not-branch.false h.3.1)),
          called,
        ),
      )
    ]

pub returns : goal.returns
returns g c =
    let h = c.loop-i.invariant in
    let left = g.R.Read.remaining in
    let stops : Stops g.row.N h.3.0 (left c.loop-i.input) (left c.loop-i-test.input) = elim c.loop-i-test.branch [
      | else-loop-i-test w ↦ inl (omega (arith, h.3.1.count, w.loop-i-test.false))
      | then-loop-i-test+in_ok-read_full+then-branch w ↦
          let n = w.in_ok-read_full.field-0 in
          let part = w.read_full.new.part in
          inr (take n part, omega (arith, length-take-le n part w.in_ok-read_full.ensures.fits, w.if-branch.true), search rules, search rules)
    ] in
    told_ok _ c.print_totals.result (g.W.Write.contents c.args.out.now) (g.W.Write.contents c.loop-i.out) _ c.loop-i.i c.loop-i.all c.loop-i.wrong h.3.0 c.loop-i.auto.i-end h.1 h.3.1
    (c.loop-i.is_next_right, _, h.3.2, stops) c.print_totals.ensures
