-- What each kind of node comes to, and each frame: as the machine goes about it.
-- Assumes nothing.
use mathlib.Core.Path.{◌≡◌, refl, sym, ap}
use mathlib.Core.Logic.{◌⊎◌, inl, inr, ⊎_elim}
use mathlib.Core.List.{List, [], ◌∷◌}
use Prim.Native.Nat.{ℕ, ◌+◌, ◌≤◌, ◌<◌}
use native.Mathlib.Nat.{eq-or-lt_of_le}
use native.Mathlib.Omega.{arith}
use Rattle.laws.specs.Table.{Rest, rest}
use Rattle.simplicity.specs.Jets.{jet_on}
use Rattle.book.specs.declared.fault.Fault.TheVariants.{Stuck}
use Rattle.cells.specs.Entries.{kind_at, left_at, right_at}
use Rattle.nodes.specs.Given.{Given, cell_of}
use Rattle.cells.specs.Cells.{shape_at, World, world, hold, fails, refuses, got, halt, bind, store, deliver}
use Rattle.machine.specs.Run.{Runs, hand_on, witnessed, node_kinds, by_kind}
use Rattle.machine.specs.declared.Frame.TheVariants.{Skip, Second, Lefted, Righted, Pair}
use Rattle.machine.specs.declared.Half.TheVariants.{Left, Right}
use Rattle.machine.specs.Machine.{apply, weight, Branches}
use Rattle.cells.proofs.Outs.{add_none}
use Rattle.cells.proofs.Shapes.{left_shape, right_shape, pair_shape, no_sum, no_pair}

five_or_six : (k : ℕ) → 5 ≤ k → k ≤ 6 → (k ≡ 5) ⊎ (k ≡ 6)
five_or_six k a b = ⊎_elim (λ (h : 5 ≡ k). inl (sym h)) (λ (h : 5 < k). inr (omega arith)) (eq-or-lt_of_le a)

pub six : (k : ℕ) → 5 ≤ k → k ≤ 6 → (k ≡ 5 → ⊥) → k ≡ 6
six k a b h = omega arith

three : {P : Type 0} (k : ℕ) → Branches k → (k ≡ 8 → P) → (k ≡ 10 → P) → (k ≡ 11 → P) → P
three {P} k b f g h =
    ⊎_elim f (λ (r : (10 ≤ k) × (k ≤ 11)). ⊎_elim (λ (z : 10 ≡ k). g (sym z)) (λ (z : 10 < k). h (let q : k ≡ 11 = omega (arith, r.1) in q)) (eq-or-lt_of_le r.0)) b

-- nodes that hand a value back at once, or end the run
module _ (g : Given) (n x : ℕ) (w : World) (kids : Runs) where
  pub kind_iden : kind_at g.nodes n ≡ 1 → by_kind g kids n x w ≡ got 0 x w
  unfolding by_kind
  kind_iden e = rw e

  pub kind_unit : kind_at g.nodes n ≡ 2 → by_kind g kids n x w ≡ got 0 0 w
  unfolding by_kind
  kind_unit e = rw e

  pub kind_fail : kind_at g.nodes n ≡ 12 → by_kind g kids n x w ≡ halt 0 fails n
  unfolding by_kind
  kind_fail e = rw e

  pub kind_witness : kind_at g.nodes n ≡ 13 → by_kind g kids n x w ≡ witnessed g n w
  unfolding by_kind
  kind_witness e = rw e

  pub kind_scribe : (v : ℕ) → kind_at g.nodes n ≡ 14 → v ≡ cell_of g.book (left_at g.nodes n) → by_kind g kids n x w ≡ got 0 v w
  unfolding by_kind
  kind_scribe v e q = rw (e, q)

  pub kind_jet : (j : ℕ) → kind_at g.nodes n ≡ 15 → j ≡ left_at g.nodes n → by_kind g kids n x w ≡ deliver n (jet_on (shape_at w.table) j x) w
  unfolding by_kind
  kind_jet j e q = rw (e, q)

  pub kind_none : (k : ℕ) → kind_at g.nodes n ≡ k → {K : Type 0} → Rest (1 ∷ 2 ∷ 3 ∷ 4 ∷ 5 ∷ 6 ∷ 7 ∷ 8 ∷ 9 ∷ 10 ∷ 11 ∷ 12 ∷ 13 ∷ 14 ∷ 15 ∷ []) k K → by_kind g kids n x w ≡ halt 0 (refuses Stuck) n
  unfolding by_kind
  kind_none k e {K} r = rw e (ap (λ (f : Runs). f n x w) (rest (node_kinds g kids) k (λ m y v. halt 0 (refuses Stuck) m) K r).1)

  -- nodes whose child is entered
  pub kind_injl : (m : ℕ) → kind_at g.nodes n ≡ 3 → m ≡ left_at g.nodes n → by_kind g kids n x w ≡ apply g kids (Lefted n) (kids m x w)
  unfolding by_kind apply
  kind_injl m e q = rw (e, q)

  pub kind_injr : (m : ℕ) → kind_at g.nodes n ≡ 4 → m ≡ left_at g.nodes n → by_kind g kids n x w ≡ apply g kids (Righted n) (kids m x w)
  unfolding by_kind apply
  kind_injr m e q = rw (e, q)

  pub kind_comp : (m : ℕ) → kind_at g.nodes n ≡ 7 → m ≡ left_at g.nodes n → by_kind g kids n x w ≡ apply g kids (Second n) (kids m x w)
  unfolding by_kind apply
  kind_comp m e q = rw (e, q)

  pub kind_pair : (m : ℕ) → kind_at g.nodes n ≡ 9 → m ≡ left_at g.nodes n → by_kind g kids n x w ≡ apply g kids (Pair Left n x) (kids m x (hold x w))
  unfolding by_kind apply
  kind_pair m e q = rw (e, q)

  pub kind_take : (m y : ℕ) → kind_at g.nodes n ≡ 5 → kind_at w.table x ≡ 4 → m ≡ left_at g.nodes n → y ≡ left_at w.table x
      → by_kind g kids n x w ≡ apply g kids Skip (kids m y w)
  unfolding by_kind apply
  kind_take m y e p q r = rw (e, pair_shape w.table x p, q, r)

  pub kind_drop : (m y : ℕ) → kind_at g.nodes n ≡ 6 → kind_at w.table x ≡ 4 → m ≡ left_at g.nodes n → y ≡ right_at w.table x
      → by_kind g kids n x w ≡ apply g kids Skip (kids m y w)
  unfolding by_kind apply
  kind_drop m y e p q r = rw (e, pair_shape w.table x p, q, r)

  -- a part of what is no pair
  pub kind_part : (k : ℕ) → kind_at g.nodes n ≡ k → 5 ≤ k → k ≤ 6 → (kind_at w.table x ≡ 4 → ⊥) → by_kind g kids n x w ≡ halt 0 (refuses Stuck) n
  unfolding by_kind
  kind_part k e a b h =
      ⊎_elim (λ (z : k ≡ 5). rw (e, z) (no_pair w.table x _ _ h)) (λ (z : k ≡ 6). rw (e, z) (no_pair w.table x _ _ h)) (five_or_six k a b)

  -- cases and asserts, by the side of the sum
  module _ (k : ℕ) (e : kind_at g.nodes n ≡ k) (s : Branches k) where
    pub branch_other : (kind_at w.table x ≡ 4 → ⊥) → by_kind g kids n x w ≡ halt 0 (refuses Stuck) n
    unfolding by_kind
    branch_other h = three k s (λ z. rw (e, z) (no_pair w.table x _ _ h)) (λ z. rw (e, z) (no_pair w.table x _ _ h)) (λ z. rw (e, z) (no_pair w.table x _ _ h))

    module _ (y : ℕ) (p : kind_at w.table x ≡ 4) (q : y ≡ left_at w.table x) where
      pub branch_none : (kind_at w.table y ≡ 2 → ⊥) → (kind_at w.table y ≡ 3 → ⊥) → by_kind g kids n x w ≡ halt 0 (refuses Stuck) n
      unfolding by_kind
      branch_none h i =
          three k s (λ z. rw (e, z, pair_shape w.table x p, ← q) (no_sum w.table y _ _ _ h i))
          (λ z. rw (e, z, pair_shape w.table x p, ← q) (no_sum w.table y _ _ _ h i))
          (λ z. rw (e, z, pair_shape w.table x p, ← q) (no_sum w.table y _ _ _ h i))

      pub branch_left : (m a r : ℕ) → kind_at w.table y ≡ 2 → (k ≡ 11 → ⊥) → m ≡ left_at g.nodes n → a ≡ left_at w.table y → r ≡ right_at w.table x → by_kind g kids n x w ≡ hand_on n a r (kids m) w
      unfolding by_kind
      branch_left m a r l h i j o =
          three k s (λ z. rw (e, z, pair_shape w.table x p, ← q, left_shape w.table y l, i, j, o)) (λ z. rw (e, z, pair_shape w.table x p, ← q, left_shape w.table y l, i, j, o)) (λ z. absurd (h z))

      pub branch_right : (m a r : ℕ) → kind_at w.table y ≡ 3 → (k ≡ 10 → ⊥) → m ≡ right_at g.nodes n → a ≡ left_at w.table y → r ≡ right_at w.table x → by_kind g kids n x w ≡ hand_on n a r (kids m) w
      unfolding by_kind
      branch_right m a r l h i j o =
          three k s (λ z. rw (e, z, pair_shape w.table x p, ← q, right_shape w.table y l, i, j, o)) (λ z. absurd (h z)) (λ z. rw (e, z, pair_shape w.table x p, ← q, right_shape w.table y l, i, j, o))

      -- the hidden side of an assert
      pub branch_hidden_left : kind_at w.table y ≡ 2 → k ≡ 11 → by_kind g kids n x w ≡ halt 0 fails n
      unfolding by_kind
      branch_hidden_left l z = rw (e, z, pair_shape w.table x p, ← q, left_shape w.table y l)

      pub branch_hidden_right : kind_at w.table y ≡ 3 → k ≡ 10 → by_kind g kids n x w ≡ halt 0 fails n
      unfolding by_kind
      branch_hidden_right l z = rw (e, z, pair_shape w.table x p, ← q, right_shape w.table y l)

-- the keys of the machine's match over kinds, and what is none of its ranges
abbrev pub SINGLE : List ℕ
SINGLE = 1 ∷ 2 ∷ 3 ∷ 4 ∷ 7 ∷ 9 ∷ 8 ∷ 12 ∷ 13 ∷ 14 ∷ 15 ∷ []

pub range_none : (k : ℕ) {K : Type 0} → Rest SINGLE k K → (k < 1) ⊎ (12 ≤ k) → Rest (1 ∷ 2 ∷ 3 ∷ 4 ∷ 5 ∷ 6 ∷ 7 ∷ 8 ∷ 9 ∷ 10 ∷ 11 ∷ 12 ∷ 13 ∷ 14 ∷ 15 ∷ []) k (Unit {0})
range_none k r o =
    let out : (j : ℕ) → 1 ≤ j → j < 12 → k ≡ j → ⊥ = λ j a b e. ⊎_elim (λ (l : k < 1). absurd (omega arith)) (λ (l : 12 ≤ k). absurd (omega arith)) o in
    (((((((((((((((tt, out 1 (omega arith) (omega arith)), out 2 (omega arith) (omega arith)), out 3 (omega arith) (omega arith)), out 4 (omega arith) (omega arith)), out 5 (omega arith) (omega arith)), out 6 (omega arith) (omega arith)), out 7 (omega arith) (omega arith)), out 8 (omega arith) (omega arith)), out 9 (omega arith) (omega arith)), out 10 (omega arith) (omega arith)), out 11 (omega arith) (omega arith)), r.0.0.0.1), r.0.0.1), r.0.1), r.1)

-- THE FRAMES, on a value that comes back
module _ (g : Given) (kids : Runs) (n v u : ℕ) (c hs : List ℕ) where
  pub frame_skip : apply g kids Skip (got 0 v (world u c hs)) ≡ got 0 v (world u c hs)
  unfolding apply
  frame_skip = refl

  pub frame_second : (m : ℕ) → m ≡ right_at g.nodes n → apply g kids (Second n) (got 0 v (world u c hs)) ≡ apply g kids Skip (kids m v (world u c hs))
  unfolding apply bind
  frame_second m q = rw q (add_none _)

  pub frame_beside : (h m : ℕ) → m ≡ right_at g.nodes n → apply g kids (Pair Left n h) (got 0 v (world u c (h ∷ hs))) ≡ apply g kids (Pair Right n v) (kids m h (world u c (v ∷ hs)))
  unfolding apply bind
  frame_beside h m q = rw q (add_none _)

  pub frame_lefted : apply g kids (Lefted n) (got 0 v (world u c hs)) ≡ store n 2 v 0 (world u c hs)
  unfolding apply bind
  frame_lefted = add_none _

  pub frame_righted : apply g kids (Righted n) (got 0 v (world u c hs)) ≡ store n 3 v 0 (world u c hs)
  unfolding apply bind
  frame_righted = add_none _

  pub frame_paired : (h : ℕ) → apply g kids (Pair Right n h) (got 0 v (world u c (h ∷ hs))) ≡ store n 4 h v (world u c hs)
  unfolding apply bind
  frame_paired h = add_none _

-- the frames whose other child is entered take turns still
pub weight_second : (n : ℕ) → weight Skip + 1 < weight (Second n)
unfolding weight
weight_second n = omega arith

pub weight_beside : (n h v : ℕ) → weight (Pair Right n v) + 1 < weight (Pair Left n h)
unfolding weight
weight_beside n h v = omega arith
