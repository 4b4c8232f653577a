-- What a node makes of a cell is what its term makes of the cell's value.
-- Assumes nothing.
use Prim.Native.Nat.{ℕ, zero, suc, ◌+◌, ◌*◌, ◌<◌}
use mathlib.Core.Bool.{Bool, true, false}
use mathlib.Core.List.{List, [], ◌∷◌}
use mathlib.Core.Path.{◌≡◌, refl, sym, ap, subst}
use native.Mathlib.Omega.{arith}
use borrow.Author.Tests.{eqb-true, eq-eqb}
use lib.ListN.{length}
use lib.Dec.{T, ltb, eqb, ltb→lt, eqb→eq}
use Rattle.laws.specs.Table.{pick, both, both_left, both_right, among, every, ◌also◌, choose, true_false}
use Rattle.simplicity.specs.Types.{same}
use Rattle.simplicity.specs.Values.{Value, unit, left, right, pair, shape, if_sum, if_pair}
use Rattle.simplicity.specs.Outcomes.{Outcome, value, failed, stuck, missing, and_then}
use Rattle.simplicity.specs.Terms.{Term}
use Rattle.simplicity.specs.Jets.{jet_on}
use Rattle.simplicity.specs.Meaning.{Witnesses, eval}
use Rattle.simplicity.proofs.Safe.{same_is, is_same}
use Rattle.book.specs.Format.{TYPE, VALUE, VU, VL, VR, VP}
use Rattle.book.specs.Index.{mark, kind, field}
use Rattle.book.specs.Stands.{Stands}
use Rattle.book.specs.Tree.{declared, type_of, value_of, declared_of}
use Rattle.book.specs.Valid.{Valid}
use Rattle.book.specs.declared.fault.Fault.{Fault}
use Rattle.book.specs.declared.fault.Fault.TheVariants.{Witness}
use Rattle.book.proofs.Standing.{stands_mark, stands_tree, head_stands, head_below}
use Rattle.book.proofs.Types.{types_equal}
use Rattle.named.specs.Combinators.{IDEN, UNIT, INJL, INJR, TAKE, DROP, COMP, CASE, PAIR, ASSERTL, ASSERTR, FAIL, WITNESS, SCRIBE, JET}
use Rattle.cells.specs.Entries.{kind_at}
use Rattle.book.specs.Text.{Text}
use Rattle.nodes.specs.Given.{Given, holds, typed, cell_of, entry_of, supplies}
use Rattle.cells.specs.Cells.{left_cell, right_cell, pair_cell, shape_at, World, hold, newest, let_go, End, fails, refuses, Out, got, halt, add, bind, store, store_value, deliver}
use Rattle.machine.specs.Run.{left_of, right_of, stuck_at, hand_on, witnessed, node_kinds, by_kind, run}
use Rattle.agreement.specs.Agreement.{witnesses_of, Says, says_steep, says_witness, says_cells, says_stuck, says_jet}
use Rattle.agreement.proofs.Reading.{Back, b_unit, b_left, b_right, b_pair, on_jet}
use Rattle.agreement.proofs.Unfolding.{Unfolds, u_iden, u_unit, u_injl, u_injr, u_take, u_drop, u_comp, u_case, u_pair, u_assertl, u_assertr, u_fail, u_witness, u_scribe, u_jet}
use Rattle.agreement.proofs.Heaps.{Holds, Heap, heap_hold, heap_newest, heap_let_go, heap_keeps, Stored, stored_left, stored_right, stored_pair, stored_value}
use Rattle.agreement.proofs.Seeding.{cell_of_lem}

-- an end and the meaning that it may stand for
abbrev pub Ends : End → Outcome → Type 0
Ends fails o = o ≡ failed
Ends (refuses f) o = Says f o

-- what a run says of a meaning, with these values in hand
abbrev pub Agrees : Text → List Value → Out → Outcome → Type 0
Agrees b vs (got s x w) o = (a : Value) × (o ≡ value a) × Holds w.table w.used x a × Heap b b.records w vs
Agrees b vs (halt s e n) o = Ends e o

-- two tests that pass together are equal
alike : (s t : Bool) → (s ≡ true → t ≡ true) → (t ≡ true → s ≡ true) → s ≡ t
alike true t f g = sym (f refl)
alike false true f g = absurd (true_false (sym (g refl)))
alike false false f g = refl

-- what stands for a meaning stands for what is made of it
says_then : {f : Fault} {o : Outcome} → Says f o → (k : Value → Outcome) → Says f (and_then o k)
says_then says_steep k = says_steep
says_then says_witness k = says_witness
says_then says_cells k = says_cells
says_then says_stuck k = says_stuck
says_then says_jet k = says_jet

ends_then : (e : End) (o : Outcome) (k : Value → Outcome) → Ends e o → Ends e (and_then o k)
ends_then fails o k h = ap (λ (q : Outcome). and_then q k) h
ends_then (refuses f) o k h = says_then h k

module _ (b : Text) where
  pub agrees_add : (vs : List Value) (s : ℕ) (o : Out) (q : Outcome) → Agrees b vs o q → Agrees b vs (add s o) q
  unfolding add
  agrees_add vs s (got t x w) q h = h
  agrees_add vs s (halt t e n) q h = h

  agrees_bind : (vs us : List Value) (o : Out) (q : Outcome) (f : ℕ → World → Out) (k : Value → Outcome) → Agrees b us o q
      → ((x : ℕ) (w : World) (a : Value) → Holds w.table w.used x a → Heap b b.records w us → Agrees b vs (f x w) (k a))
      → Agrees b vs (bind o f) (and_then q k)
  unfolding bind
  agrees_bind vs us (got t x w) q f k h i = rw h.1 (agrees_add vs t (f x w) (k h.0) (i x w h.0 h.2 h.3))
  agrees_bind vs us (halt t e n) q f k h i = ends_then e q k h

  -- what was stored is the value
  agrees_stored : (vs : List Value) (w : World) (v : Value) (o : Out) → Heap b b.records w vs → Stored w v o → Agrees b vs o (value v)
  agrees_stored vs w v (got t x w') p h = (v, refl, h.0, heap_keeps h.1 p)
  agrees_stored vs w v (halt t e n) p h = rw h says_cells

  -- a case hands on the pair of a part and the rest
  handed : (vs : List Value) (n : ℕ) (w : World) {x y : ℕ} {a c : Value} → Holds w.table w.used x a → Holds w.table w.used y c → Heap b b.records w vs
      → (kid : ℕ → World → Out) (k : Value → Outcome)
      → ((z : ℕ) (w' : World) (m : Value) → Holds w'.table w'.used z m → Heap b b.records w' vs → Agrees b vs (kid z w') (k m))
      → Agrees b vs (hand_on n x y kid w) (k (pair a c))
  handed vs n w {x} {y} {a} {c} h i p kid k f =
      agrees_bind vs vs (store n pair_cell x y w) (value (pair a c)) kid k (agrees_stored vs w (pair a c) (store n pair_cell x y w) p (stored_pair n w h i)) f

  -- what a jet comes to is delivered
  agrees_deliver : (vs : List Value) (n : ℕ) (o : Outcome) (w : World) → Heap b b.records w vs → Agrees b vs (deliver n o w) o
  unfolding deliver
  agrees_deliver vs n (value v) w p = agrees_stored vs w v (store_value n v w) p (stored_value n v w)
  agrees_deliver vs n failed w p = refl
  agrees_deliver vs n stuck w p = says_stuck
  agrees_deliver vs n missing w p = says_jet

  -- a pair is taken apart
  pair_reads : (vs : List Value) (w : World) (n : ℕ) (f : ℕ → ℕ → Out) (k : Value → Value → Outcome) {x : ℕ} {v : Value} → x < w.used → Back w.table x v
      → ((y z : ℕ) (a c : Value) → Holds w.table w.used y a → Holds w.table w.used z c → Agrees b vs (f y z) (k a c))
      → Agrees b vs (if_pair (shape_at w.table x) f (stuck_at n)) (if_pair (shape v) k stuck)
  pair_reads vs w n f k l (b_unit e) h = rw e says_stuck
  pair_reads vs w n f k l (b_left e i r) h = rw e says_stuck
  pair_reads vs w n f k l (b_right e i r) h = rw e says_stuck
  pair_reads vs w n f k l (b_pair e i j r s) h = rw e (h _ _ _ _ (record { below = omega arith; reads = r }) (record { below = omega arith; reads = s }))

  -- a left or a right is taken apart
  sum_reads : (vs : List Value) (w : World) (n : ℕ) (f g : ℕ → Out) (k l : Value → Outcome) {x : ℕ} {v : Value} → x < w.used → Back w.table x v
      → ((y : ℕ) (a : Value) → Holds w.table w.used y a → Agrees b vs (f y) (k a))
      → ((y : ℕ) (a : Value) → Holds w.table w.used y a → Agrees b vs (g y) (l a))
      → Agrees b vs (if_sum (shape_at w.table x) f g (stuck_at n)) (if_sum (shape v) k l stuck)
  sum_reads vs w n f g k l o (b_unit e) h i = rw e says_stuck
  sum_reads vs w n f g k l o (b_left e j r) h i = rw e (h _ _ (record { below = omega arith; reads = r }))
  sum_reads vs w n f g k l o (b_right e j r) h i = rw e (i _ _ (record { below = omega arith; reads = r }))
  sum_reads vs w n f g k l o (b_pair e j m r s) h i = rw e says_stuck

-- the records of a valid book
module _ (b : Text) (valid : Valid b.bytes b.index b.records) where
  -- a record that is one of the book's, and of the kind
  module _ (kd r : ℕ) (t : T (holds b kd r)) where
    inside_it : r < b.records
    inside_it = ltb→lt r b.records (both_left (ltb r b.records) (eqb (kind b.bytes b.index r) kd) t)

    is_it : kind b.bytes b.index r ≡ kd
    is_it = eqb→eq (kind b.bytes b.index r) kd (both_right (ltb r b.records) (eqb (kind b.bytes b.index r) kd) t)

  -- a value's cell reads back as the value
  constant_holds : (r : ℕ) → T (holds b VALUE r) → (w : World) (vs : List Value) → Heap b b.records w vs → Holds w.table w.used (cell_of b r) (value_of b.bytes b.index r)
  constant_holds r t w vs p =
      let l = inside_it VALUE r t in
      let e = is_it VALUE r t in
      rw (cell_of_lem b r l e) (p.constants r l e)

  module _ (r : ℕ) (v : T (holds b VALUE r)) where
    stands : Stands b.bytes b.index r VALUE
    stands = record { records = b.records; valid = valid; inside = inside_it VALUE r v; is = is_it VALUE r v }

    -- a value names its declared type, which is an earlier record
    record Declares : Type 0 where
      type : declared_of b.bytes b.index r ≡ type_of b.bytes b.index (field b.bytes b.index r 0)
      below : field b.bytes b.index r 0 < r
      is : kind b.bytes b.index (field b.bytes b.index r 0) ≡ TYPE

    declares : Declares
    unfolding declared
    declares =
        every (VU ∷ VL ∷ VR ∷ VP ∷ []) (λ m. mark b.bytes b.index r ≡ m → Declares)
        ((λ e. record { type = ap declared (stands_tree stands VU e); below = head_below stands VU e 0 tt tt; is = (head_stands stands VU e 0 tt tt).is })
        also (λ e. record { type = ap declared (stands_tree stands VL e); below = head_below stands VL e 0 tt tt; is = (head_stands stands VL e 0 tt tt).is })
        also (λ e. record { type = ap declared (stands_tree stands VR e); below = head_below stands VR e 0 tt tt; is = (head_stands stands VR e 0 tt tt).is })
        also (λ e. record { type = ap declared (stands_tree stands VP e); below = head_below stands VP e 0 tt tt; is = (head_stands stands VP e 0 tt tt).is })
        also tt)
        (mark b.bytes b.index r) (stands_mark stands (among (VU ∷ VL ∷ VR ∷ VP ∷ [])) tt tt) refl

    -- so to compare a type with it is to compare their numbers
    same_declared : (t : ℕ) → T (holds b TYPE t) → same (declared_of b.bytes b.index r) (type_of b.bytes b.index t) ≡ eqb (field b.bytes b.index r 0) t
    same_declared t h =
        let d = declares in
        let f = field b.bytes b.index r 0 in
        let equal = types_equal valid f t (omega (arith, d.below, inside_it VALUE r v)) (inside_it TYPE t h) d.is (is_it TYPE t h) in
        rw d.type (alike (same (type_of b.bytes b.index f) (type_of b.bytes b.index t)) (eqb f t)
        (λ e. eq-eqb f t (equal.0 (same_is _ _ e))) (λ e. is_same _ _ (equal.1 (eqb-true f t e))))

  -- the witness list gives a witness by its type's number where it gives it by the type
  witness_tests : (ws : List ℕ) (x t : ℕ) → T (holds b TYPE t)
      → both (ltb (2 * x + 1) (length ws)) (both (holds b VALUE (entry_of ws x)) (same (declared_of b.bytes b.index (entry_of ws x)) (type_of b.bytes b.index t)))
      ≡ both (ltb (2 * x + 1) (length ws)) (typed b (entry_of ws x) t)
  witness_tests ws x t h = ap (both (ltb (2 * x + 1) (length ws))) (go (holds b VALUE (entry_of ws x)) refl)
    where
      go : (c : Bool) → holds b VALUE (entry_of ws x) ≡ c → both c (same (declared_of b.bytes b.index (entry_of ws x)) (type_of b.bytes b.index t)) ≡ both c (eqb (field b.bytes b.index (entry_of ws x) 0) t)
      go true e = same_declared (entry_of ws x) (subst T (sym e) tt) t h
      go false e = refl

module _ (g : Given) (valid : Valid g.book.bytes g.book.index g.book.records) where
  -- what the run is given as witnesses
  abbrev pub supply : Witnesses
  supply = witnesses_of g.book g.witnesses

  -- a witness that is given is a value
  supplied_value : (x t : ℕ) → supplies g x t ≡ true → T (holds g.book VALUE (entry_of g.witnesses x))
  unfolding supplies
  supplied_value x t e =
      let r = entry_of g.witnesses x in
      both_left (holds g.book VALUE r) (eqb (field g.book.bytes g.book.index r 0) t)
      (both_right (ltb (2 * x + 1) (length g.witnesses)) (typed g.book r t) (subst T (sym e) tt))

  -- a witness
  agrees_witness : (n : ℕ) (w : World) (vs : List Value) → T (holds g.book TYPE (right_of g n)) → Heap g.book g.book.records w vs
      → Agrees g.book vs (witnessed g n w) (supply (left_of g n) (type_of g.book.bytes g.book.index (right_of g n)))
  unfolding witnesses_of supplies
  agrees_witness n w vs t p = rw (witness_tests g.book valid g.witnesses (left_of g n) (right_of g n) t) (go (supplies g (left_of g n) (right_of g n)) refl)
    where
      go : (c : Bool) → supplies g (left_of g n) (right_of g n) ≡ c
          → Agrees g.book vs (pick c (got 0 (cell_of g.book (entry_of g.witnesses (left_of g n))) w) (halt 0 (refuses Witness) n)) (pick c (value (value_of g.book.bytes g.book.index (entry_of g.witnesses (left_of g n)))) missing)
      go true e = (_, refl, constant_holds g.book valid (entry_of g.witnesses (left_of g n)) (supplied_value (left_of g n) (right_of g n) e) w vs p, p)
      go false e = says_witness

  -- node n by its kind
  entered : (k n kd : ℕ) → kind_at g.nodes n ≡ kd → (x : ℕ) (w : World) (vs : List Value) (q : Outcome)
      → Agrees g.book vs (choose (node_kinds g (run k g)) kd (λ m x w. stuck_at m) n x w) q → Agrees g.book vs (run (suc k) g n x w) q
  unfolding run by_kind
  entered k n kd e x w vs q h = agrees_add g.book vs 1 _ q (rw e h)

  -- THE AGREEMENT: what a run makes of a cell is what the term makes of the cell's value, and what waited still does
  pub agree : (k : ℕ) {n : ℕ} {t : Term} → Unfolds g n t → (x : ℕ) (w : World) (v : Value) (vs : List Value)
      → Holds w.table w.used x v → Heap g.book g.book.records w vs → Agrees g.book vs (run k g n x w) (eval supply t v)
  unfolding run eval
  agree zero d x w v vs h p = says_steep
  agree (suc k) (u_iden {n = n} e) x w v vs h p = entered k n IDEN e x w vs _ (v, refl, h, p)
  agree (suc k) (u_unit {n = n} e) x w v vs h p = entered k n UNIT e x w vs _ (unit, refl, p.first, p)
  agree (suc k) (u_injl {n = n} {t = t} e d) x w v vs h p =
      entered k n INJL e x w vs _
      (agrees_bind g.book vs vs (run k g (left_of g n) x w) (eval supply t v) _ _ (agree k d x w v vs h p)
      (λ y w' a i q. agrees_stored g.book vs w' (left a) (store n left_cell y 0 w') q (stored_left n w' i)))
  agree (suc k) (u_injr {n = n} {t = t} e d) x w v vs h p =
      entered k n INJR e x w vs _
      (agrees_bind g.book vs vs (run k g (left_of g n) x w) (eval supply t v) _ _ (agree k d x w v vs h p)
      (λ y w' a i q. agrees_stored g.book vs w' (right a) (store n right_cell y 0 w') q (stored_right n w' i)))
  agree (suc k) (u_take {n = n} e d) x w v vs h p =
      entered k n TAKE e x w vs _
      (pair_reads g.book vs w n _ _ h.below h.reads (λ y z a c i j. agree k d y w a vs i p))
  agree (suc k) (u_drop {n = n} e d) x w v vs h p =
      entered k n DROP e x w vs _
      (pair_reads g.book vs w n _ _ h.below h.reads (λ y z a c i j. agree k d z w c vs j p))
  agree (suc k) (u_comp {n = n} {s = s} {t = t} e d f) x w v vs h p =
      entered k n COMP e x w vs _
      (agrees_bind g.book vs vs (run k g (left_of g n) x w) (eval supply s v) _ (eval supply t) (agree k d x w v vs h p)
      (λ y w' a i q. agree k f y w' a vs i q))
  agree (suc k) (u_case {n = n} {s = s} {t = t} e d f) x w v vs h p =
      entered k n CASE e x w vs _
      (pair_reads g.book vs w n _ _ h.below h.reads (λ c r a b i j.
      sum_reads g.book vs w n _ _ _ _ i.below i.reads
      (λ y m l. handed g.book vs n w l j p (run k g (left_of g n)) (eval supply s) (λ z w' o. agree k d z w' o vs))
      (λ y m l. handed g.book vs n w l j p (run k g (right_of g n)) (eval supply t) (λ z w' o. agree k f z w' o vs))))
  agree (suc k) (u_pair {n = n} {s = s} {t = t} e d f) x w v vs h p =
      entered k n PAIR e x w vs _
      (agrees_bind g.book vs (v ∷ vs) (run k g (left_of g n) x (hold x w)) (eval supply s v) _ _
      (agree k d x (hold x w) v (v ∷ vs) h (heap_hold h p))
      (λ y w' a i q.
      agrees_bind g.book vs (a ∷ vs) (run k g (right_of g n) (newest w') (hold y (let_go w'))) (eval supply t v) _ _
      (agree k f (newest w') (hold y (let_go w')) v (a ∷ vs) (heap_newest q) (heap_hold i (heap_let_go q)))
      (λ z w'' b j o. agrees_stored g.book vs (let_go w'') (pair a b) (store n pair_cell (newest w'') z (let_go w'')) (heap_let_go o) (stored_pair n (let_go w'') (heap_newest o) j))))
  agree (suc k) (u_assertl {n = n} {s = s} e d) x w v vs h p =
      entered k n ASSERTL e x w vs _
      (pair_reads g.book vs w n _ _ h.below h.reads (λ c r a b i j.
      sum_reads g.book vs w n _ _ _ _ i.below i.reads
      (λ y m l. handed g.book vs n w l j p (run k g (left_of g n)) (eval supply s) (λ z w' o. agree k d z w' o vs))
      (λ y m l. refl)))
  agree (suc k) (u_assertr {n = n} {t = t} e d) x w v vs h p =
      entered k n ASSERTR e x w vs _
      (pair_reads g.book vs w n _ _ h.below h.reads (λ c r a b i j.
      sum_reads g.book vs w n _ _ _ _ i.below i.reads
      (λ y m l. refl)
      (λ y m l. handed g.book vs n w l j p (run k g (right_of g n)) (eval supply t) (λ z w' o. agree k d z w' o vs))))
  agree (suc k) (u_fail {n = n} e) x w v vs h p = entered k n FAIL e x w vs _ refl
  agree (suc k) (u_witness {n = n} e t) x w v vs h p = entered k n WITNESS e x w vs _ (agrees_witness n w vs t p)
  agree (suc k) (u_scribe {n = n} e t) x w v vs h p = entered k n SCRIBE e x w vs _ (_, refl, constant_holds g.book valid (left_of g n) t w vs p, p)
  agree (suc k) (u_jet {n = n} e) x w v vs h p =
      entered k n JET e x w vs _ (rw (on_jet (left_of g n) h.reads) (agrees_deliver g.book vs n (jet_on shape (left_of g n) v) w p))
