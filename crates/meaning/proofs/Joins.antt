-- What joins the nodes of a record's parts, as terms: rows, lists, the bodies of calls, matches.
-- Assumes nothing.
use Prim.Native.Nat.{ℕ, zero, suc, ◌-◌, ◌^◌, ◌≤◌, ◌<◌}
use mathlib.Core.Bool.{Bool, true, false}
use mathlib.Core.List.{List, [], ◌∷◌, map}
use mathlib.Core.Path.{◌≡◌}
use native.Mathlib.Omega.{arith}
use lib.Dec.{ltb}
use lib.ListN.{length}
use Rattle.laws.specs.Order.{by_lt}
use Rattle.laws.specs.Rows.{Each, each_length, each_take, each_drop}
use Rattle.laws.specs.Table.{pick, both}
use Rattle.array.specs.Split.{split_of, top_of}
use Rattle.array.specs.Path.{on_left, on_right}
use Rattle.array.specs.Row.{row}
use Rattle.array.specs.Partition.{partition}
use Rattle.array.proofs.Partitions.{partition_filled, partition_empty}
use Rattle.array.proofs.Rows.{lefts, rights, row_none, row_one, row_step, row_related}
use Rattle.simplicity.specs.Terms.{Term, iden, unit, injl, injr, take, drop, comp, case, pair, assertl, assertr}
use Rattle.named.specs.Trace.{Run, pure, bind, emit}
use Rattle.named.specs.Combinators as node
use Rattle.nodes.specs.Given.{Given}
use Rattle.parts.specs.Joins.{empty_block, filled_block, listed, matched, chosen, finished}
use Rattle.recipes.specs.Calls as calls
use Rattle.meaning.proofs.Terms.{selector, bit, row_term, list_term, case_tree, beside_unit, unwraps_left, unwraps_right, tells_none, called}
use Rattle.meaning.proofs.Traces.{Is, At, Ran, ran_pure, ran_bind, ran_iden, ran_unit, ran_injl, ran_injr, ran_drop, ran_assertl, ran_assertr, ran_comp, ran_case, ran_pair, ran_bit, ran_select}

-- a term's node is below number d
pub record Below (g : Given) (t : Term) (a d : ℕ) : Type 0 where
  pub below : a < d
  pub is : Is g a t

-- the nodes of a row of terms, made one after another from number c up to d
pub data Rows (g : Given) : List Term → List ℕ → ℕ → ℕ → Type 0 where
  rows_none : {c : ℕ} → Rows g [] [] c c
  rows_more : {t : Term} {ts : List Term} {a : ℕ} {xs : List ℕ} {c d e : ℕ} → At g t a d → d ≤ e → Rows g ts xs d e → Rows g (t ∷ ts) (a ∷ xs) c e

-- each of them is below d
rows_below : {g : Given} {ts : List Term} {xs : List ℕ} {c d : ℕ} → Rows g ts xs c d → Each (λ x t. Below g t x d) xs ts
rows_below rows_none = tt
rows_below (rows_more h l more) = (record { below = omega (arith, h.last); is = h.is }, rows_below more)

module _ {A B C D : Type 0} (S : A → B → Type 0) (R : C → D → Type 0) (e : C) (f : List A → C) (j : C → C → C) (e' : D) (f' : List B → D) (j' : D → D → D)
    (none : R e e') (some : (xs : List A) (ys : List B) → Each S xs ys → R (f xs) (f' ys)) (join : (a b : C) (a' b' : D) → R a a' → R b b' → R (j a b) (j' a' b')) where
  -- lists of related elements are related, block by block
  partition_related : (k : ℕ) (xs : List A) (ys : List B) → Each S xs ys → R (partition e f j k xs) (partition e' f' j' k ys)
  unfolding partition
  partition_related zero [] [] h = none
  partition_related zero [] (y ∷ ys) h = absurd h
  partition_related zero (x ∷ xs) [] h = absurd h
  partition_related zero (x ∷ xs) (y ∷ ys) h = some (x ∷ xs) (y ∷ ys) h
  partition_related (suc k) xs ys h =
      let q : length xs ≡ length ys = each_length S xs ys h in
      by_lt (length xs) (2 ^ suc k)
      (λ o. rw (partition_empty e f j k xs o, partition_empty e' f' j' k ys (omega arith)) (join _ _ _ _ none (partition_related k xs ys h)))
      (λ o. rw (partition_filled e f j k xs o, partition_filled e' f' j' k ys (omega arith))
      (join _ _ _ _ (some _ _ (each_take S (2 ^ suc k) xs ys h)) (partition_related k _ _ (each_drop S (2 ^ suc k) xs ys h))))

module _ {g : Given} where
  -- a node that is the last is below the next number
  ran_below : {m : Run ℕ} {c : ℕ} {t : Term} → Ran g m c (At g t) → Ran g m c (Below g t)
  ran_below h = record { made = h.made; result = λ a d z. let i = h.result a d z in record { below = omega (arith, i.last); is = i.is } }

module _ (g : Given) (r kind : ℕ) (f : Term → Term → Term)
    (emits : (a b c : ℕ) (s t : Term) → a < c → Is g a s → b < c → Is g b t → Ran g (emit r kind a b) c (At g (f s t))) (low : ℕ) where
  -- what is made from some number on, that is not below `low`
  abbrev Later : Run ℕ → Term → Type 0
  Later m t = (c : ℕ) → low ≤ c → Ran g m c (Below g t)

  -- two that are, joined by a node
  join_later : (m n : Run ℕ) (s t : Term) → Later m s → Later n t → (c : ℕ) → low ≤ c → Ran g (node.joined (emit r kind) m n) c (At g (f s t))
  join_later m n s t h i c l =
      ran_bind (h c l) (λ a d o p. ran_bind (i d (omega arith)) (λ b e q j. emits a b e s t (omega (arith, p.below)) p.is j.below j.is))

  -- a row of them; numbers of nodes that are there are such
  rows_later : (ms : List (Run ℕ)) (ts : List Term) → Each Later ms ts → Later (row (node.unit r) (node.joined (emit r kind)) ms) (row unit f ts)
  rows_later = row_related Later (node.unit r) (node.joined (emit r kind)) unit f
      (λ c l. ran_below (ran_unit r c)) (λ m n s t h i c l. ran_below (join_later m n s t h i c l))

  each_later : (xs : List ℕ) (ts : List Term) → Each (λ x t. Below g t x low) xs ts → Each Later (map pure xs) ts
  each_later [] [] h = tt
  each_later [] (t ∷ ts) h = absurd h
  each_later (x ∷ xs) [] h = absurd h
  each_later (x ∷ xs) (t ∷ ts) h = (λ c l. ran_pure x (record { below = omega (arith, h.0.below); is = h.0.is }), each_later xs ts h.1)

  -- nodes below a number, joined from there on
  joins_later : (xs : List ℕ) (ts : List Term) → Each (λ x t. Below g t x low) xs ts → Later (node.joins r kind xs) (row unit f ts)
  unfolding node.joins
  joins_later xs ts h = rows_later (map pure xs) ts (each_later xs ts h)

  -- a row of two or more ends with the node that joins its parts
  rows_two : (ms : List (Run ℕ)) (ts : List Term) → 2 ≤ length ms → Each Later ms ts → Ran g (row (node.unit r) (node.joined (emit r kind)) ms) low (At g (row unit f ts))
  rows_two ms ts two h =
      let q : length ms ≡ length ts = each_length Later ms ts h in
      let n : ℕ = split_of (length ts) in
      rw (row_step (node.unit r) (node.joined (emit r kind)) ms two, row_step unit f ts (omega arith))
      (join_later _ _ _ _ (rows_later (lefts ms) (lefts ts) (rw q (each_take Later n ms ts h))) (rows_later (rights ms) (rights ts) (rw q (each_drop Later n ms ts h))) low (omega arith))

  -- a row's nodes joined just after them
  joins_at : {ts : List Term} {xs : List ℕ} {c : ℕ} → Rows g ts xs c low → Ran g (node.joins r kind xs) low (At g (row unit f ts))
  unfolding node.joins
  joins_at rows_none = rw (row_none (node.unit r) (node.joined (emit r kind)), row_none unit f) (ran_unit r low)
  joins_at (rows_more {t = t} {a = x} h l rows_none) = rw (row_one (node.unit r) (node.joined (emit r kind)) (pure x), row_one unit f t) (ran_pure x h)
  joins_at (rows_more {t = s} {a = x} h l (rows_more {t = t} {ts = ts} {a = y} {xs = xs} i m more)) =
      rows_two (map pure (x ∷ y ∷ xs)) (s ∷ t ∷ ts) (omega arith) (each_later (x ∷ y ∷ xs) (s ∷ t ∷ ts) (rows_below (rows_more {c = low} h l (rows_more i m more))))

module _ {g : Given} where
  -- a row of nodes paired, or joined to a tree of cases
  pub ran_row : (r : ℕ) {ts : List Term} {xs : List ℕ} {c d : ℕ} → Rows g ts xs c d → Ran g (node.joins r node.PAIR xs) d (At g (row_term ts))
  ran_row r {d = d} h = joins_at g r node.PAIR pair (λ a b c s t. ran_pair r) d h

  pub ran_cases : (r : ℕ) {ts : List Term} {xs : List ℕ} {c d : ℕ} → Rows g ts xs c d → Ran g (node.joins r node.CASE xs) d (At g (case_tree ts))
  ran_cases r {d = d} h = joins_at g r node.CASE case (λ a b c s t. ran_case r) d h

  -- a list of nodes
  pub ran_listed : (r n : ℕ) {ts : List Term} {xs : List ℕ} {c d : ℕ} → Rows g ts xs c d → Ran g (listed r n xs) d (At g (list_term (top_of n - 1) ts))
  unfolding listed
  ran_listed r n {ts} {xs} {d = d} h =
      partition_related (λ x t. Below g t x d) (λ m t. (c : ℕ) → d ≤ c → Ran g m c (At g t))
      (empty_block r) (filled_block r) (node.joined (node.pair r)) (injl unit) (λ us. injr (row_term us)) pair
      (λ c l. ran_bind (ran_unit r c) (λ a e o i. ran_injl r (omega (arith, i.last)) i.is))
      (λ xs ts i c l. ran_bind (joins_later g r node.PAIR pair (λ a b c s t. ran_pair r) d xs ts i c l) (λ a e o j. ran_injr r j.below j.is))
      (λ m n s t i j c l. join_later g r node.PAIR pair (λ a b c s t. ran_pair r) d m n s t (λ e o. ran_below (i e o)) (λ e o. ran_below (j e o)) c l)
      (top_of n - 1) xs ts (rows_below h) d (omega arith)

  -- the input beside a unit, and the short bodies of calls
  ran_beside : (r c : ℕ) → Ran g (calls.beside_unit r) c (At g beside_unit)
  unfolding calls.beside_unit
  ran_beside r c = ran_bind (ran_iden r c) (λ a d l h. ran_bind (ran_unit r d) (λ b e m i. ran_pair r (omega (arith, h.last)) h.is (omega (arith, i.last)) i.is))

  -- an unwrap by the node m of what is taken
  ran_unwrap : (r c : ℕ) (m : ℕ → Run ℕ) (t : Term) → ((a d : ℕ) → a < d → Is g a (take iden) → Ran g (m a) d (At g t))
      → Ran g (bind (calls.beside_unit r) (λ p. bind (node.select r (node.TAKE ∷ [])) (λ a. bind (m a) (λ b. node.comp r p b)))) c (At g (comp beside_unit t))
  unfolding selector
  ran_unwrap r c m t f =
      ran_bind (ran_beside r c) (λ p d l h.
      ran_bind (ran_select r (on_left ∷ []) d) (λ a e n i.
      ran_bind (f a e (omega (arith, i.last)) i.is) (λ b z o j.
      ran_comp r (omega (arith, h.last)) h.is (omega (arith, j.last)) j.is)))

  pub ran_unwrap_left : (r c : ℕ) → Ran g (calls.unwrap_left r) c (At g unwraps_left)
  unfolding calls.unwrap_left
  ran_unwrap_left r c = ran_unwrap r c (λ a. node.assertl r a 0) (assertl (take iden) 0) (λ a d. ran_assertl r 0)

  pub ran_unwrap_right : (r c : ℕ) → Ran g (calls.unwrap_right r) c (At g unwraps_right)
  unfolding calls.unwrap_right
  ran_unwrap_right r c = ran_unwrap r c (λ a. node.assertr r 0 a) (assertr 0 (take iden)) (λ a d. ran_assertr r 0)

  pub ran_is_none : (r c : ℕ) → Ran g (calls.is_none r) c (At g tells_none)
  unfolding calls.is_none
  ran_is_none r c =
      ran_bind (ran_beside r c) (λ p d l h.
      ran_bind (ran_bit r true d) (λ y e m i.
      ran_bind (ran_bit r false e) (λ z f n j.
      ran_bind (ran_case r (omega (arith, i.last)) i.is (omega (arith, j.last)) j.is) (λ b k o q.
      ran_comp r (omega (arith, h.last)) h.is (omega (arith, q.last)) q.is))))

  -- a node beside the environment; a statement and then the rest
  pub ran_paired : (r : ℕ) {a c : ℕ} {t : Term} → a < c → Is g a t → Ran g (calls.paired r a) c (At g (pair t iden))
  unfolding calls.paired
  ran_paired r {c = c} l h = ran_bind (ran_iden r c) (λ e d o i. ran_pair r (omega arith) h (omega (arith, i.last)) i.is)

  pub ran_followed : (r : ℕ) {a b c : ℕ} {s t : Term} → a < c → Is g a s → b < c → Is g b t → Ran g (calls.followed r a b) c (At g (comp (pair s t) (drop iden)))
  unfolding calls.followed selector
  ran_followed r l h m i =
      ran_bind (ran_pair r l h m i) (λ p d o j. ran_bind (ran_select r (on_right ∷ []) d) (λ z e n k. ran_comp r (omega (arith, j.last)) j.is (omega (arith, k.last)) k.is))

  -- a match's scrutinee and its arms; an enum's, whose tree of cases is there
  pub ran_matched : (r : ℕ) {s a b c : ℕ} {u t v : Term} → s < c → Is g s u → a < c → Is g a t → b < c → Is g b v → Ran g (matched r s a b) c (At g (comp (pair u iden) (case t v)))
  unfolding matched
  ran_matched r l h m i n j =
      ran_bind (ran_paired r l h) (λ p d o k. ran_bind (ran_case r (omega arith) i (omega arith) j) (λ z e q f. ran_comp r (omega (arith, k.last)) k.is (omega (arith, f.last)) f.is))

  pub ran_chosen : (r : ℕ) {s k c : ℕ} {u t : Term} → s < c → Is g s u → k < c → Is g k t → Ran g (chosen r s k) c (At g (comp (pair u iden) t))
  unfolding chosen
  ran_chosen r l h m i = ran_bind (ran_paired r l h) (λ p d o k. ran_comp r (omega (arith, k.last)) k.is (omega arith) i)

  -- a call with a symbol, by way of an assert; a call
  ran_symbol : (r s : ℕ) {a b c : ℕ} {u t : Term} → a < c → Is g a u → b < c → Is g b t → Ran g (calls.with_symbol r s a b) c (At g (comp (pair (bit false) u) (assertl (drop t) s)))
  unfolding calls.with_symbol
  ran_symbol r s {c = c} l h m i =
      ran_bind (ran_bit r false c) (λ z d o j.
      ran_bind (ran_pair r (omega (arith, j.last)) j.is (omega arith) h) (λ p e n k.
      ran_bind (ran_drop r (omega arith) i) (λ q f w v.
      ran_bind (ran_assertl r s (omega (arith, v.last)) v.is) (λ b y x z.
      ran_comp r (omega (arith, k.last)) k.is (omega (arith, z.last)) z.is))))

  pub ran_finished : (y : Bool) (r s : ℕ) {a b c : ℕ} {u t : Term} → a < c → Is g a u → b < c → Is g b t → Ran g (finished y r s a b) c (At g (called y s u t))
  unfolding finished
  ran_finished y r s {a} {b} {c} {u} {t} l h m i = go (both y (ltb 0 s))
    where
      go : (w : Bool) → Ran g (pick w (calls.with_symbol r s a b) (node.comp r a b)) c (At g (pick w (comp (pair (bit false) u) (assertl (drop t) s)) (comp u t)))
      go true = ran_symbol r s l h m i
      go false = ran_comp r l h m i
