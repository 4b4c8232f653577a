-- What the cells of a run hold: the unit, the values of the book's records, the cells that wait; and what storing keeps.
-- Assumes nothing.
use Prim.Native.Nat.{ℕ, ◌+◌, ◌<◌}
use mathlib.Core.Bool.{Bool, true, false}
use mathlib.Core.List.{List, [], ◌∷◌}
use mathlib.Core.Path.{◌≡◌, refl, ◌∙◌}
use native.Mathlib.Omega.{arith}
use borrow.Author.Tests.{ltb-true}
use lib.ListN.{length}
use lib.Dec.{ltb}
use Rattle.laws.specs.Table.{pick}
use Rattle.simplicity.specs.Values.{Value, unit, left, right, pair}
use Rattle.book.specs.Format.{VALUE}
use Rattle.book.specs.Index.{kind}
use Rattle.book.specs.Tree.{value_of}
use Rattle.book.specs.declared.fault.Fault.TheVariants.{Cells}
use Rattle.named.specs.Cut.{room}
use Rattle.cells.specs.Entries.{put}
use Rattle.book.specs.Text.{Text}
use Rattle.nodes.specs.Given.{values_below}
use Rattle.cells.specs.Cells.{unit_cell, left_cell, right_cell, pair_cell, World, world, hold, newest, let_go, refuses, Out, got, halt, add, bind, store, store_value}
use Rattle.agreement.proofs.Reading.{Back, back_put, back_unit, back_left, back_right, back_pair}

-- among u cells of the table the cell x reads back as v
pub record Holds (t : List ℕ) (u x : ℕ) (v : Value) : Type 0 where
  pub below : x < u
  pub reads : Back t x v

-- these cells read back as these values
abbrev pub Holding : List ℕ → ℕ → List ℕ → List Value → Type 0
Holding t u [] [] = Unit {0}
Holding t u [] (v ∷ vs) = ⊥
Holding t u (x ∷ hs) [] = ⊥
Holding t u (x ∷ hs) (v ∷ vs) = Holds t u x v × Holding t u hs vs

-- the unit is cell 0, the value records among the first n have their cells, and the cells that wait read back as these values
pub record Heap (b : Text) (n : ℕ) (w : World) (vs : List Value) : Type 0 where
  pub first : Holds w.table w.used 0 unit
  pub constants : (r : ℕ) → r < n → kind b.bytes b.index r ≡ VALUE → Holds w.table w.used (1 + values_below b r) (value_of b.bytes b.index r)
  pub waiting : Holding w.table w.used w.held vs

-- one cell more waits
pub heap_hold : {b : Text} {n : ℕ} {w : World} {vs : List Value} {x : ℕ} {v : Value} → Holds w.table w.used x v → Heap b n w vs → Heap b n (hold x w) (v ∷ vs)
heap_hold h p = record { first = p.first; constants = p.constants; waiting = (h, p.waiting) }

-- the newest that waits, and the others
let_go_lem : (t : List ℕ) (u : ℕ) (hs : List ℕ) (v : Value) (vs : List Value) → Holding t u hs (v ∷ vs)
    → Holds t u (newest (world u t hs)) v × Holding t u (let_go (world u t hs)).held vs
let_go_lem t u [] v vs h = absurd h
let_go_lem t u (x ∷ hs) v vs h = h

pub heap_newest : {b : Text} {n : ℕ} {w : World} {v : Value} {vs : List Value} → Heap b n w (v ∷ vs) → Holds w.table w.used (newest w) v
heap_newest {w = w} {v} {vs} p = (let_go_lem w.table w.used w.held v vs p.waiting).0

pub heap_let_go : {b : Text} {n : ℕ} {w : World} {v : Value} {vs : List Value} → Heap b n w (v ∷ vs) → Heap b n (let_go w) vs
heap_let_go {w = w} {v} {vs} p = record { first = p.first; constants = p.constants; waiting = (let_go_lem w.table w.used w.held v vs p.waiting).1 }

-- what is read back in one world is in the other, and the same cells wait
pub record Keeps (w w' : World) : Type 0 where
  pub still : {x : ℕ} {v : Value} → Holds w.table w.used x v → Holds w'.table w'.used x v
  pub waits : w'.held ≡ w.held

keeps_then : {w w' w'' : World} → Keeps w w' → Keeps w' w'' → Keeps w w''
keeps_then k l = record { still = λ h. l.still (k.still h); waits = l.waits ∙ k.waits }

holding_keeps : (w w' : World) → Keeps w w' → (hs : List ℕ) (vs : List Value) → Holding w.table w.used hs vs → Holding w'.table w'.used hs vs
holding_keeps w w' k [] [] h = tt
holding_keeps w w' k [] (v ∷ vs) h = absurd h
holding_keeps w w' k (x ∷ hs) [] h = absurd h
holding_keeps w w' k (x ∷ hs) (v ∷ vs) h = (k.still h.0, holding_keeps w w' k hs vs h.1)

-- so what is known of the first is of the second
pub heap_keeps : {b : Text} {n : ℕ} {w w' : World} {vs : List Value} → Keeps w w' → Heap b n w vs → Heap b n w' vs
heap_keeps {w = w} {w'} {vs} k p = record {
  first = k.still p.first;
  constants = λ r l e. k.still (p.constants r l e);
  waiting = rw k.waits (holding_keeps w w' k w.held vs p.waiting);
}

-- a cell of kind k with parts a and b is stored, if it fits
module _ (k a b : ℕ) (w : World) where
  -- what there is then
  abbrev pub after : World
  after = world (w.used + 1) (put w.table w.used k a b) w.held

  pub after_keeps : Keeps w after
  after_keeps = record { still = λ h. record { below = omega (arith, h.below); reads = back_put w.table w.used k a b h.below h.reads }; waits = refl }

  pub by_store : (n : ℕ) (P : Out → Type 0) → (w.used < room (length w.table) → P (got 0 w.used after)) → P (halt 0 (refuses Cells) n) → P (store n k a b w)
  unfolding store
  by_store n P f g = go (ltb w.used (room (length w.table))) refl
    where
      go : (t : Bool) → ltb w.used (room (length w.table)) ≡ t → P (pick t (got 0 w.used after) (halt 0 (refuses Cells) n))
      go true e = f (ltb-true w.used (room (length w.table)) e)
      go false e = g

-- a cell that reads back as v was added to world w, or did not fit
abbrev pub Stored : World → Value → Out → Type 0
Stored w v (got s x w') = Holds w'.table w'.used x v × Keeps w w'
Stored w v (halt s e n) = e ≡ refuses Cells

by_back : (n k a b : ℕ) (w : World) (v : Value) → (w.used < room (length w.table) → Back (put w.table w.used k a b) w.used v) → Stored w v (store n k a b w)
by_back n k a b w v f = by_store k a b w n (Stored w v) (λ fit. (record { below = omega arith; reads = f fit }, after_keeps k a b w)) refl

module _ (n : ℕ) (w : World) where
  stored_unit : Stored w unit (store n unit_cell 0 0 w)
  stored_unit = by_back n unit_cell 0 0 w unit (back_unit w.table w.used)

  module _ {a : ℕ} {v : Value} (h : Holds w.table w.used a v) where
    pub stored_left : Stored w (left v) (store n left_cell a 0 w)
    stored_left = by_back n left_cell a 0 w (left v) (λ fit. back_left w.table w.used fit h.below h.reads)

    pub stored_right : Stored w (right v) (store n right_cell a 0 w)
    stored_right = by_back n right_cell a 0 w (right v) (λ fit. back_right w.table w.used fit h.below h.reads)

    pub stored_pair : {b : ℕ} {u : Value} → Holds w.table w.used b u → Stored w (pair v u) (store n pair_cell a b w)
    stored_pair {b} {u} i = by_back n pair_cell a b w (pair v u) (λ fit. back_pair w.table w.used fit h.below h.reads i.below i.reads)

stored_add : (w : World) (v : Value) (s : ℕ) (o : Out) → Stored w v o → Stored w v (add s o)
unfolding add
stored_add w v s (got t x w') h = h
stored_add w v s (halt t e n) h = h

stored_after : (w w' : World) (v : Value) → Keeps w w' → (o : Out) → Stored w' v o → Stored w v o
stored_after w w' v k (got t x w'') h = (h.0, keeps_then k h.1)
stored_after w w' v k (halt t e n) h = h

stored_bind : (w : World) (a v : Value) (o : Out) (f : ℕ → World → Out) → Stored w a o
    → ((x : ℕ) (w' : World) → Keeps w w' → Holds w'.table w'.used x a → Stored w' v (f x w')) → Stored w v (bind o f)
unfolding bind
stored_bind w a v (got t x w') f h k = stored_add w v t (f x w') (stored_after w w' v h.1 (f x w') (k x w' h.1 h.0))
stored_bind w a v (halt t e n) f h k = h

-- a value, stored part by part
pub stored_value : (n : ℕ) (v : Value) (w : World) → Stored w v (store_value n v w)
unfolding store_value
stored_value n unit w = stored_unit n w
stored_value n (left v) w = stored_bind w v (left v) (store_value n v w) _ (stored_value n v w) (λ x w' k h. stored_left n w' h)
stored_value n (right v) w = stored_bind w v (right v) (store_value n v w) _ (stored_value n v w) (λ x w' k h. stored_right n w' h)
stored_value n (pair v u) w =
    stored_bind w v (pair v u) (store_value n v w) _ (stored_value n v w)
    (λ x w' k h. stored_bind w' u (pair v u) (store_value n u w') _ (stored_value n u w')
    (λ y w'' l i. stored_pair n w'' (l.still h) i))
