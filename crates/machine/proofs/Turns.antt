-- What a turn of the machine keeps, way by way: each way through the code cites one law.
-- Assumes nothing.
use mathlib.Core.Path.{◌≡◌, refl, sym, ap, ◌∙◌}
use mathlib.Core.List.{List, []}
use mathlib.Core.Bool.{true, false}
use Prim.Native.Nat.{ℕ, suc, ◌+◌, ◌*◌, ◌-◌, ◌≤◌, ◌<◌}
use native.Mathlib.Omega.{arith}
use native.Mathlib.Numerals.{add-one}
use lib.ListN.{length, get_or, set, length-set}
use Rattle.std.specs.Prelude.{Result, Ok, Err, IfOk}
use Rattle.book.specs.declared.fault.Fault.TheVariants as faults
use Rattle.machine.specs.declared.State.{State}
use Rattle.machine.specs.declared.Step.TheVariants.{Enter, Back}
use Rattle.machine.specs.declared.Halt.{Halt}
use Rattle.machine.specs.declared.Ended.{Ended}
use Rattle.machine.specs.declared.Ended.TheVariants.{Refused}
use Rattle.machine.specs.declared.Frame.{Frame}
use Rattle.machine.specs.declared.Frame.TheVariants.{Skip, Second, Lefted, Righted, Pair}
use Rattle.machine.specs.declared.Half.TheVariants.{Left, Right}
use Rattle.cells.specs.declared.table.Kept.{Kept}
use Rattle.nodes.specs.Given.{Given}
use Rattle.cells.specs.Cells.{World, world, Out, got, halt, add, bind, store}
use Rattle.cells.specs.Keeping.{leads, Fresh, Keeps}
use Rattle.machine.specs.Run.{DEEP, Runs, hand_on, by_kind, run}
use Rattle.machine.specs.Machine.{holding, apply, resume, frames, waiting, end_of, going_on, future, coming, outcome, weight, weights, turns, Turned, Downed, Handed, Answers, Backs, Entered, Stopped}
use Rattle.cells.proofs.Outs.{add_none, add_add, bind_got}
use Rattle.machine.proofs.Frames.{resume_add, resume_halt, frames_put, waiting_put}

fuel : (d : ℕ) → d < DEEP → DEEP - d ≡ suc (DEEP - (d + 1))
fuel d l = omega arith

weight_le : (f : Frame) → weight f ≤ 3
unfolding weight
weight_le Skip = omega arith
weight_le (Second n) = omega arith
weight_le (Pair Left n h) = omega arith
weight_le (Lefted n) = omega arith
weight_le (Righted n) = omega arith
weight_le (Pair Right n h) = omega arith

weight_pos : (f : Frame) → 0 < weight f
unfolding weight
weight_pos Skip = omega arith
weight_pos (Second n) = omega arith
weight_pos (Pair Left n h) = omega arith
weight_pos (Lefted n) = omega arith
weight_pos (Righted n) = omega arith
weight_pos (Pair Right n h) = omega arith

-- what is handed back at depth d leads to what the frames there make of it
outcome_at : (g : Given) (t : List ℕ) (f : List Frame) (d : ℕ) (r : Result State Halt) → IfOk r (λ s. s.depth ≡ d)
    → outcome g (DEEP - d) (frames f d) t (waiting f d) r ≡ coming g t f r
unfolding outcome coming future
outcome_at g t f d (Ok s) e = rw e
outcome_at g t f d (Err h) e = refl

depth_at : (d : ℕ) (r : Result State Halt) → d ≤ DEEP → IfOk r (λ s. s.depth ≡ d) → IfOk r (λ s. s.depth ≤ DEEP)
depth_at d (Ok s) l e = omega arith
depth_at d (Err h) l e = tt

less_at : (f : List Frame) (d n : ℕ) (r : Result State Halt) → IfOk r (λ s. s.depth ≡ d) → ((fs : List Frame) → IfOk r (λ s. turns s.step fs ≤ 1 + weights fs))
    → 1 + weights (frames f d) < n → IfOk r (λ s. turns s.step (frames f s.depth) < n)
less_at f d n (Ok s) e h l = rw e (omega (arith, h (frames f d)))
less_at f d n (Err i) e h l = tt

-- A FRAME IS PUT, and a child is to be entered
pub downed : (f : List Frame) (d : ℕ) (a : Frame) (m y u : ℕ) → length f ≡ DEEP → d < DEEP
    → Downed f d a m y u (set f d a) (record { depth = d + 1; node = m; value = y; used = u; step = Enter })
unfolding future going_on resume turns weights
downed f d a m y u deep l =
    record {
      same = λ g t. rw (fuel d l, frames_put f d a deep l, waiting_put f d a deep l);
      depth = omega arith;
      deep = length-set f d a;
      turned = rw (frames_put f d a deep l);
    }

-- A VALUE IS HANDED BACK, or the run ends
pub answers_back : (s : State) (v : ℕ) → Answers s (got 0 v) (Ok (record { depth = s.depth; node = 0; value = v; used = s.used; step = Back }))
unfolding outcome going_on turns
answers_back s v = record { handed = λ t. record { same = λ g k fs hs. refl; depth = refl; less = λ fs. omega arith } }

pub answers_end : (s : State) (e : Ended) → Answers s (λ w. halt 0 (end_of e) s.node) (Err (record { end = e; node = s.node }))
unfolding outcome
answers_end s e =
    record { handed = λ t. record { same = λ g k fs hs. resume_halt g k fs 0 (end_of e) s.node; depth = tt; less = λ fs. tt } }

pub answers_as : {s : State} {m m' : World → Out} {r : Result State Halt} → ((w : World) → m w ≡ m' w) → Answers s m' r → Answers s m r
answers_as {s} {m} {m'} {r} e a =
    record {
      handed = λ t.
          record {
            same = λ g k fs hs. ap (λ (o : Out). resume g k fs o) (e _) ∙ (a.handed t).same g k fs hs;
            depth = (a.handed t).depth;
            less = (a.handed t).less;
          };
    }

pub handed_as : {t t₁ : List ℕ} {u d : ℕ} {m m' : World → Out} {t' : List ℕ} {r : Result State Halt}
    → ((hs : List ℕ) → m (world u t hs) ≡ m' (world u t₁ hs)) → Handed t₁ u d m' t' r → Handed t u d m t' r
handed_as e h =
    record { same = λ g k fs hs. ap (λ (o : Out). resume g k fs o) (e hs) ∙ h.same g k fs hs; depth = h.depth; less = h.less }

-- what was kept
pub backs_kept : (s : State) (p : Kept) → p.full ≡ false → Backs s p (Ok (record { depth = s.depth; node = 0; value = p.cell; used = p.used; step = Back }))
unfolding leads outcome going_on turns
backs_kept s p e = record { same = λ g k fs t hs. rw e; depth = refl; less = λ fs. omega arith }

pub backs_full : (s : State) (p : Kept) (r : Result State Halt) → p.full ≡ true → Answers s (λ w. halt 0 (end_of (Refused faults.Cells)) s.node) r → Backs s p r
unfolding leads
backs_full s p r e a =
    record { same = λ g k fs t hs. rw e ((a.handed t).same g k fs hs); depth = (a.handed []).depth; less = (a.handed []).less }

leads_fresh : (u : ℕ) (p : Kept) → Fresh u p → (n : ℕ) (t hs : List ℕ) (f : ℕ → World → Out) → bind (leads n t hs p) (λ v. f n) ≡ f n (world u t hs)
unfolding leads
leads_fresh u p h n t hs f = rw (h.room, h.used) (bind_got p.cell (world u t hs) (λ v. f n))

pub handed_kept : {t t' : List ℕ} {u : ℕ} {p q : Kept} {m : ℕ → World → Out} {s : State} {r : Result State Halt}
    → Fresh u p → Keeps t p m q t' → Backs s q r → Handed t u s.depth (m s.node) t' r
handed_kept {t} {t'} {u} {p} {q} {m} {s} {r} f k b =
    record {
      same = λ g j fs hs.
          ap (λ (o : Out). resume g j fs o) (sym (leads_fresh u p f s.node t hs m) ∙ sym (k.same s.node hs)) ∙ b.same g j fs t' hs;
      depth = b.depth;
      less = b.less;
    }

-- A NODE IS ENTERED: its kind says what is to be done, one node on
enter_future : (g : Given) (c : List ℕ) (f : List Frame) (s : State) → s.step ≡ Enter → s.depth < DEEP
    → future g c f s
    ≡ add 1
    (resume g (DEEP - s.depth) (frames f s.depth)
    (by_kind g (run (DEEP - (s.depth + 1)) g) s.node s.value (world s.used c (waiting f s.depth))))
unfolding future going_on run
enter_future g c f s m l = rw (m, fuel s.depth l) (resume_add g _ (frames f s.depth) 1 _)

module _ {g : Given} {c : List ℕ} {f : List Frame} {s : State} (z : s.step ≡ Enter) (l : s.depth < DEEP) where
  pub turned_entered : {m : Runs → World → Out} {c' : List ℕ} {f' : List Frame} {r : Result State Halt}
      → Entered c f s m c' f' r
      → ((kids : Runs) → by_kind g kids s.node s.value (world s.used c (waiting f s.depth)) ≡ m kids (world s.used c (waiting f s.depth)))
      → Turned g c f s c' f' r
  unfolding turns
  turned_entered h e =
      record {
        t = 1;
        same = enter_future g c f s z l ∙ ap (λ (o : Out). add 1 o) (rw (e (run (DEEP - (s.depth + 1)) g)) (h.same g));
        depth = h.depth;
        deep = h.deep;
        less = rw z h.less;
      }

pub entered_down : {c : List ℕ} {f : List Frame} {s : State} {m : Runs → World → Out} (a : Frame) (k y : ℕ) {c' : List ℕ} {u' : ℕ} {f' : List Frame} {r : State}
    → ((g : Given) (kids : Runs) → m kids (world s.used c (waiting f s.depth)) ≡ apply g kids a (kids k y (world u' c' (holding a (waiting f s.depth)))))
    → Downed f s.depth a k y u' f' r → Entered c f s m c' f' (Ok r)
unfolding coming
entered_down {f = f} {s = s} a k y {c'} e dn =
    record {
      same = λ g. ap (λ (o : Out). resume g (DEEP - s.depth) (frames f s.depth) o) (e g (run (DEEP - (s.depth + 1)) g)) ∙ dn.same g c';
      depth = dn.depth;
      deep = dn.deep;
      less = omega (arith, dn.turned, weight_le a);
    }

pub entered_hand : {c : List ℕ} {f : List Frame} {s : State} {m : Runs → World → Out} {m' : World → Out} {c' : List ℕ} {r : Result State Halt}
    → s.depth ≤ DEEP
    → ((kids : Runs) → m kids (world s.used c (waiting f s.depth)) ≡ m' (world s.used c (waiting f s.depth)))
    → Handed c s.used s.depth m' c' r → Entered c f s m c' f r
entered_hand {c} {f} {s} {m} {m'} {c'} {r} l e h =
    record {
      same = λ g.
          ap (λ (o : Out). resume g (DEEP - s.depth) (frames f s.depth) o) (e (run (DEEP - (s.depth + 1)) g)) ∙ h.same g (DEEP - s.depth) (frames f s.depth) (waiting f s.depth) ∙ outcome_at g c' f s.depth r h.depth;
      depth = depth_at s.depth r l h.depth;
      deep = refl;
      less = less_at f s.depth _ r h.depth h.less (omega arith);
    }

module _ {g : Given} {c : List ℕ} {f : List Frame} {s : State} (z : s.step ≡ Enter) (l : s.depth < DEEP) where
  pub turned_handed : {m : World → Out} {c' : List ℕ} {r : Result State Halt}
      → Handed c s.used s.depth m c' r
      → ((kids : Runs) → by_kind g kids s.node s.value (world s.used c (waiting f s.depth)) ≡ m (world s.used c (waiting f s.depth)))
      → Turned g c f s c' f r
  turned_handed {m} h e = turned_entered z l {m = λ kids. m} (entered_hand (omega arith) (λ kids. refl) h) e

  pub turned_answers : {m : World → Out} {r : Result State Halt}
      → Answers s m r
      → ((kids : Runs) → by_kind g kids s.node s.value (world s.used c (waiting f s.depth)) ≡ m (world s.used c (waiting f s.depth)))
      → Turned g c f s c f r
  turned_answers a e = turned_handed (a.handed c) e

  pub turned_down : {a : Frame} {k y : ℕ} {f' : List Frame} {r : State}
      → Downed f s.depth a k y s.used f' r
      → ((kids : Runs) → by_kind g kids s.node s.value (world s.used c (waiting f s.depth))
      ≡ apply g kids a (kids k y (world s.used c (holding a (waiting f s.depth)))))
      → Turned g c f s c f' (Ok r)
  unfolding turns coming
  turned_down {a} dn e =
      record {
        t = 1;
        same = enter_future g c f s z l ∙ ap (λ (o : Out). add 1 o) (rw (e (run (DEEP - (s.depth + 1)) g)) (dn.same g c));
        depth = dn.depth;
        deep = dn.deep;
        less = rw z (omega (arith, dn.turned, weight_le a));
      }

-- A PAIR IS HANDED ON to a child, or doesn't fit
module _ {c c' : List ℕ} (s : State) {p q : Kept} (a e : ℕ) (fr : Fresh s.used p) (kp : Keeps c p (λ n. store n 4 a e) q c') where
  stored : (hs : List ℕ) → store s.node 4 a e (world s.used c hs) ≡ leads s.node c' hs q
  stored hs = sym (leads_fresh s.used p fr s.node c hs (λ n. store n 4 a e)) ∙ sym (kp.same s.node hs)

  full_halts : q.full ≡ true → (hs : List ℕ) (kid : ℕ → World → Out) → hand_on s.node a e kid (world s.used c hs) ≡ halt 0 (end_of (Refused faults.Cells)) s.node
  unfolding bind leads
  full_halts z hs kid = let q : store s.node 4 a e (world s.used c hs) ≡ halt 0 (end_of (Refused faults.Cells)) s.node = stored hs ∙ rw z in rw q

  kept_goes : q.full ≡ false → (hs : List ℕ) (kid : ℕ → World → Out) → hand_on s.node a e kid (world s.used c hs) ≡ kid q.cell (world q.used c' hs)
  unfolding leads
  kept_goes z hs kid = let o : store s.node 4 a e (world s.used c hs) ≡ got 0 q.cell (world q.used c' hs) = stored hs ∙ rw z in rw o (bind_got q.cell _ kid)

  pub entered_full : {f : List Frame} (m : ℕ) {r : Result State Halt} → s.depth < DEEP → q.full ≡ true → Answers s (λ w. halt 0 (end_of (Refused faults.Cells)) s.node) r
      → Entered c f s (λ kids. hand_on s.node a e (kids m)) c' f r
  entered_full m l z an =
      entered_hand {m' = λ w. halt 0 (end_of (Refused faults.Cells)) s.node} (omega arith) (λ kids. full_halts z _ (kids m)) (handed_as (λ hs. refl) (an.handed c'))

  pub entered_kept : {f : List Frame} (m : ℕ) {f' : List Frame} {r : State} → q.full ≡ false → Downed f s.depth Skip m q.cell q.used f' r
      → Entered c f s (λ kids. hand_on s.node a e (kids m)) c' f' (Ok r)
  unfolding apply
  entered_kept m z dn = entered_down Skip m q.cell (λ g kids. kept_goes z _ (kids m)) dn

-- a node that would be entered too deep
pub turned_steep : {g : Given} {c : List ℕ} {f : List Frame} {s : State} {r : Result State Halt} → s.step ≡ Enter → s.depth ≡ DEEP
    → Answers s (λ w. halt 0 (end_of (Refused faults.Steep)) s.node) r → Turned g c f s c f r
unfolding future going_on run turns
turned_steep {g} {c} {f} {s} {r} z e a =
    let k : DEEP - s.depth ≡ 0 = omega arith in
    let h = a.handed c in
    let p : future g c f s ≡ outcome g (DEEP - s.depth) (frames f s.depth) c (waiting f s.depth) r = rw (z, k) (h.same g 0 (frames f s.depth) (waiting f s.depth)) in
    record {
      t = 0;
      same = p ∙ outcome_at g c f s.depth r h.depth ∙ sym (add_none _);
      depth = depth_at s.depth r (omega arith) h.depth;
      deep = refl;
      less = rw z (less_at f s.depth _ r h.depth h.less (omega arith));
    }

-- A VALUE COMES BACK: the newest frame says what is to be done
frames_top : (f : List Frame) (e : ℕ) → weights (frames f (e + 1)) ≡ weight (get_or f e Skip) + weights (frames f e)
unfolding frames weights
frames_top f e = rw (add-one e)

module _ (g : Given) (c : List ℕ) (f : List Frame) (s : State) (e : ℕ) (a : Frame) (z : s.step ≡ Back) (d : s.depth ≡ e + 1) (l : e < DEEP) (ea : get_or f e Skip ≡ a) where
  back_future : future g c f s
      ≡ resume g (DEEP - e) (frames f e) (apply g (run (DEEP - (e + 1)) g) a (got 0 s.value (world s.used c (holding a (waiting f e)))))
  unfolding future going_on frames waiting resume
  back_future = rw (z, d, fuel e l, add-one e, ← ea)

  back_turns : turns s.step (frames f s.depth) ≡ 1 + (weight a + weights (frames f e))
  unfolding turns
  back_turns = rw (z, d, ← ea) (ap (λ (k : ℕ). 1 + k) (frames_top f e))

  -- a frame whose other child is entered next
  pub back_down : {a' : Frame} {m y : ℕ} {f' : List Frame} {r : State}
      → Downed f e a' m y s.used f' r
      → weight a' + 1 < weight a
      → ((kids : Runs) → apply g kids a (got 0 s.value (world s.used c (holding a (waiting f e))))
      ≡ apply g kids a' (kids m y (world s.used c (holding a' (waiting f e)))))
      → Turned g c f s c f' (Ok r)
  unfolding coming
  back_down dn lt q =
      record {
        t = 0;
        same = back_future ∙ rw (q (run (DEEP - (e + 1)) g)) (dn.same g c) ∙ sym (add_none _);
        depth = dn.depth;
        deep = dn.deep;
        less = rw back_turns (omega (arith, dn.turned));
      }

  -- a frame that hands a value back, or ends the run
  pub back_hand : {m : World → Out} {c' : List ℕ} {r : Result State Halt}
      → Handed c s.used e m c' r
      → ((kids : Runs) → apply g kids a (got 0 s.value (world s.used c (holding a (waiting f e)))) ≡ m (world s.used c (waiting f e)))
      → Turned g c f s c' f r
  back_hand {c' = c'} {r = r} hd q =
      record {
        t = 0;
        same = back_future ∙ rw (q (run (DEEP - (e + 1)) g)) (hd.same g (DEEP - e) (frames f e) (waiting f e)) ∙ outcome_at g c' f e r hd.depth ∙ sym (add_none _);
        depth = depth_at e r (omega arith) hd.depth;
        deep = refl;
        less = less_at f e _ r hd.depth hd.less (omega (arith, back_turns, weight_pos a));
      }

-- TURN AFTER TURN
-- how many nodes an outcome entered
pub steps : Out → ℕ
steps (got t v w) = t
steps (halt t e n) = t

steps_add : (t : ℕ) (o : Out) → steps (add t o) ≡ t + steps o
unfolding steps add
steps_add t (got s v w) = refl
steps_add t (halt s e n) = refl

-- the loop's measure
pub left : Given → List ℕ → List Frame → State → ℕ
left g c f s = 4 * steps (future g c f s) + turns s.step (frames f s.depth)

pub left_less : {g : Given} {c : List ℕ} {f : List Frame} {s : State} {c' : List ℕ} {f' : List Frame} {n : Result State Halt} {r : State}
    → n ≡ Ok r → Turned g c f s c' f' n → left g c' f' r < left g c f s
unfolding left coming
left_less {g} {c} {f} {s} {c'} {f'} {n} {r} e h =
    let t : Turned g c f s c' f' (Ok r) = rw e at h in omega (arith, t.less, ap steps t.same, steps_add t.t (future g c' f' r))

-- the loop's invariant
pub record Going (g : Given) (c₀ : List ℕ) (f₀ : List Frame) (s₀ : State) (c : List ℕ) (f : List Frame) (s : State) : Type 0 where
  pub t : ℕ
  pub same : future g c₀ f₀ s₀ ≡ add t (future g c f s)
  pub depth : s.depth ≤ DEEP
  pub deep : length f ≡ DEEP
  pub table : length c ≡ length c₀

pub going_none : {g : Given} {c : List ℕ} {f : List Frame} {s : State} → s.depth ≤ DEEP → length f ≡ DEEP → Going g c f s c f s
going_none l d = record { t = 0; same = sym (add_none _); depth = l; deep = d; table = refl }

-- where the machine leads once a cell is handed back and no frame is left
last_future : (g : Given) (c : List ℕ) (f : List Frame) (s : State) → s.step ≡ Back → s.depth ≡ 0 → future g c f s ≡ got 0 s.value (world s.used c [])
unfolding future going_on resume frames waiting
last_future g c f s e z = rw (e, z)

module _ {g : Given} {c₀ : List ℕ} {f₀ : List Frame} {s₀ : State} {c : List ℕ} {f : List Frame} {s : State} (o : Going g c₀ f₀ s₀ c f s) where
  pub going_more : {c' : List ℕ} {f' : List Frame} {n : Result State Halt} {r : State} → n ≡ Ok r → length c' ≡ length c
      → Turned g c f s c' f' n → Going g c₀ f₀ s₀ c' f' r
  unfolding coming
  going_more {c'} {f'} {n} {r} e lc h =
      let t : Turned g c f s c' f' (Ok r) = rw e at h in
      record {
        t = o.t + t.t;
        same = o.same ∙ ap (λ (x : Out). add o.t x) t.same ∙ add_add o.t t.t _;
        depth = t.depth;
        deep = t.deep ∙ o.deep;
        table = lc ∙ o.table;
      }

  pub going_stopped : s.step ≡ Back → s.depth ≡ 0 → Stopped (future g c₀ f₀ s₀) c (Ok s)
  going_stopped e z = record { t = o.t; same = o.same ∙ ap (λ (x : Out). add o.t x) (last_future g c f s e z) }

  pub going_ended : {c' : List ℕ} {f' : List Frame} {n : Result State Halt} {h : Halt} → n ≡ Err h → Turned g c f s c' f' n → Stopped (future g c₀ f₀ s₀) c' (Err h)
  unfolding coming
  going_ended {c'} {f'} {n} {h} e d =
      let t : Turned g c f s c' f' (Err h) = rw e at d in
      record { t = o.t + t.t; same = o.same ∙ ap (λ (x : Out). add o.t x) t.same ∙ add_add o.t t.t _ }
