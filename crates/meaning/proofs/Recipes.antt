-- What the recipes of the folds, of the loop and of the hash store unfolds to their terms, for every size.
-- Assumes nothing.
use Prim.Native.Nat.{ℕ, zero, suc, ◌-◌, ◌^◌, ◌<◌, ◌≤◌}
use mathlib.Core.Bool.{Bool, true, false}
use mathlib.Core.List.{List, [], ◌∷◌, map}
use mathlib.Core.Logic.{⊎_elim}
use mathlib.Core.Path.{◌≡◌, refl}
use native.Mathlib.Omega.{arith}
use lib.Dec.{eqb, ltb, ltb→lt}
use lib.ListN.{get_or}
use Rattle.laws.specs.Choices.{all_chosen}
use Rattle.laws.specs.Rows.{Each}
use Rattle.array.specs.Path.{on_left, on_right}
use Rattle.array.specs.Split.{top_of}
use Rattle.array.proofs.Splits.{top_mono}
use Rattle.array.proofs.Rows.{row_related}
use Rattle.jet.specs.Jets.{adders, add_of}
use Rattle.simplicity.specs.Terms.{Term, take, iden, fail, jet}
use Rattle.named.specs.Trace.{Run, pure, bind}
use Rattle.named.specs.Combinators as node
use Rattle.recipes.specs.ListFold as lists
use Rattle.recipes.specs.ForWhile as loops
use Rattle.builtins.specs.ArrayFold as arrays
use Rattle.builtins.specs.RawHash as hashes
use Rattle.nodes.specs.Given.{Given}
use Rattle.meaning.proofs.Terms.{selector, fold_both, with_block, next_fold, doubled, fold_list, powers, tree_fold, fold_array, turn, loop_bit, adapt, loop, add_both, add_row, raw_hash}
use Rattle.meaning.proofs.Terms as terms
use Rattle.meaning.proofs.Traces.{Is, At, Ran, ran_pure, ran_bind, ran_iden, ran_unit, ran_injl, ran_drop, ran_comp, ran_case, ran_pair, ran_jet, ran_bit, ran_select}

-- what adds a word of any width is one of the eleven jets
add_jet : (w : ℕ) → add_of w < 11
unfolding add_of
add_jet w = ⊎_elim (λ e. omega (arith, e)) (λ t. ltb→lt _ 11 t) (all_chosen (λ k j. ltb j 11) adders w 0 tt)

-- the first k + 1 of a row of nodes stand before number d and are the terms at their places; the last of them is the last before d
record Folds (g : Given) (k : ℕ) (ts : List Term) (fs : List ℕ) (d : ℕ) : Type 0 where
  below : (j : ℕ) → j ≤ k → get_or fs j 0 < d
  are : (j : ℕ) → j ≤ k → Is g (get_or fs j 0) (get_or ts j fail)
  last : suc (get_or fs k 0) ≡ d

-- a term's node stands before number d, and is the last before it if w
record Folded (g : Given) (t : Term) (w : Type 0) (a d : ℕ) : Type 0 where
  below : a < d
  is : Is g a t
  last : w → suc a ≡ d

-- whatever follows from what a run comes to holds of its result
ran_less : {g : Given} {A : Type 0} {m : Run A} {c : ℕ} {P Q : A → ℕ → Type 0} → Ran g m c P → ((a : A) (d : ℕ) → P a d → Q a d) → Ran g m c Q
ran_less h f = record { made = h.made; result = λ a d o. f a d (h.result a d o) }

-- a run that comes to a term wherever it starts
abbrev Adds : Given → Run ℕ → Term → Type 0
Adds g m t = (c : ℕ) → Ran g m c (At g t)

adds_each : (g : Given) (r : ℕ) (ws : List ℕ) → Each (Adds g) (map (λ w. node.jet r (add_of w)) ws) (map (λ w. jet (add_of w)) ws)
adds_each g r [] = tt
adds_each g r (w ∷ ws) = (λ c. ran_jet r (add_of w) c (add_jet w), adds_each g r ws)

module _ {g : Given} (r : ℕ) where
  -- what a function's node makes of two others
  ran_applied : {f a b c : ℕ} {t u v : Term} → f < c → Is g f t → a < c → Is g a u → b < c → Is g b v → Ran g (node.applied r f a b) c (At g (terms.applied t u v))
  unfolding node.applied
  ran_applied l h m i n j = ran_bind (ran_pair r m i n j) (λ _ _ o p. ran_comp r (omega arith) p.is (omega arith) h)

  -- the list fold
  ran_next_array : {f c : ℕ} {t : Term} → f < c → Is g f t → Ran g (lists.next_array r f) c (At g (fold_both t t))
  unfolding lists.next_array fold_both selector
  ran_next_array l h =
      ran_bind (ran_select r (on_left ∷ on_left ∷ []) _) (λ _ _ o first.
      ran_bind (ran_select r (on_right ∷ []) _) (λ _ _ p start.
      ran_bind (ran_applied (omega arith) h (omega arith) first.is (omega arith) start.is) (λ _ _ q middle.
      ran_bind (ran_select r (on_left ∷ on_right ∷ []) _) (λ _ _ u second.
      ran_applied (omega arith) h (omega arith) second.is (omega arith) middle.is))))

  ran_with_block : {f k c : ℕ} {t u : Term} → f < c → Is g f t → k < c → Is g k u → Ran g (lists.with_block r f k) c (At g (with_block t u))
  unfolding lists.with_block with_block selector
  ran_with_block l h m i =
      ran_bind (ran_select r (on_left ∷ []) _) (λ _ _ o block.
      ran_bind (ran_select r (on_right ∷ on_right ∷ []) _) (λ _ _ p start.
      ran_bind (ran_applied (omega arith) h (omega arith) block.is (omega arith) start.is) (λ _ _ q middle.
      ran_bind (ran_select r (on_right ∷ on_left ∷ []) _) (λ _ _ u rest.
      ran_applied (omega arith) i (omega arith) rest.is (omega arith) middle.is))))

  ran_next_fold : {f k c : ℕ} {t u : Term} → f < c → Is g f t → k < c → Is g k u → Ran g (lists.next_fold r f k) c (At g (next_fold t u))
  unfolding lists.next_fold next_fold selector
  ran_next_fold l h m i =
      ran_bind (ran_select r (on_left ∷ on_left ∷ []) _) (λ _ _ o block.
      ran_bind (ran_select r (on_left ∷ on_right ∷ []) _) (λ _ _ p rest.
      ran_bind (ran_select r (on_right ∷ []) _) (λ _ _ q start.
      ran_bind (ran_pair r (omega arith) rest.is (omega arith) start.is) (λ _ _ u kept.
      ran_bind (ran_pair r (omega arith) block.is (omega arith) kept.is) (λ _ _ v input.
      ran_bind (ran_drop r (omega arith) i) (λ _ _ w without.
      ran_bind (ran_with_block (omega arith) h (omega arith) i) (λ _ _ x with.
      ran_bind (ran_case r (omega arith) without.is (omega arith) with.is) (λ _ _ y choice.
      ran_comp r (omega arith) input.is (omega arith) choice.is))))))))

  ran_doubled : (n : ℕ) {f k c : ℕ} {t u : Term} → f < c → Is g f t → suc k ≡ c → Is g k u → Ran g (lists.doubled r n f k) c (At g (doubled n t u))
  unfolding lists.doubled doubled
  ran_doubled zero l h e i = ran_pure _ (record { last = e; is = i })
  ran_doubled (suc n) l h e i =
      ran_bind (ran_next_array l h) (λ _ _ o array.
      ran_bind (ran_next_fold (omega arith) array.is (omega arith) i) (λ _ _ p fold.
      ran_doubled n (omega arith) array.is fold.last fold.is))

  -- the fold of a list by a function's node is the fold by its term
  pub ran_list_fold : (n : ℕ) {f c : ℕ} {t : Term} → suc f ≡ c → Is g f t → Ran g (lists.list_fold r n f) c (At g (fold_list (top_of n - 1) t))
  unfolding lists.list_fold fold_list selector
  ran_list_fold n e h =
      ran_bind (ran_select r (on_right ∷ []) _) (λ _ _ o keep.
      ran_bind (ran_case r (omega arith) keep.is (omega arith) h) (λ _ _ p fold.
      ran_doubled (top_of n - 1) (omega arith) h fold.last fold.is))

  -- the array fold
  ran_fold_both : {f k c : ℕ} {t u : Term} → f < c → Is g f t → k < c → Is g k u → Ran g (arrays.f_array_fold r f k) c (At g (fold_both t u))
  unfolding arrays.f_array_fold fold_both selector
  ran_fold_both l h m i =
      ran_bind (ran_select r (on_left ∷ on_left ∷ []) _) (λ _ _ o first.
      ran_bind (ran_select r (on_left ∷ on_right ∷ []) _) (λ _ _ p second.
      ran_bind (ran_select r (on_right ∷ []) _) (λ _ _ q start.
      ran_bind (ran_applied (omega arith) h (omega arith) first.is (omega arith) start.is) (λ _ _ u middle.
      ran_applied (omega arith) i (omega arith) second.is (omega arith) middle.is))))

  ran_powers : (k : ℕ) {f c : ℕ} {t : Term} → suc f ≡ c → Is g f t → Ran g (arrays.powers r k f) c (Folds g k (powers k t))
  unfolding arrays.powers powers
  ran_powers zero {f} {c} {t} e h = ran_pure (f ∷ []) (record { below = λ j l. let z : j ≡ 0 = omega arith in rw z (omega arith); are = λ j l. let z : j ≡ 0 = omega arith in rw z h; last = e })
  ran_powers (suc k) {f} {c} {t} e h =
      ran_bind (ran_fold_both (omega arith) h (omega arith) h) (λ _ _ o next.
      ran_bind (ran_powers k next.last next.is) (λ gs d p rest.
      ran_pure (f ∷ gs) (record { below = below gs d (omega arith) rest; are = are gs d rest; last = rest.last })))
    where
      below : (gs : List ℕ) (d : ℕ) → f < d → Folds g k (powers k (fold_both t t)) gs d → (j : ℕ) → j ≤ suc k → get_or (f ∷ gs) j 0 < d
      below gs d l rest zero i = l
      below gs d l rest (suc j) i = rest.below j (omega arith)

      are : (gs : List ℕ) (d : ℕ) → Folds g k (powers k (fold_both t t)) gs d → (j : ℕ) → j ≤ suc k → Is g (get_or (f ∷ gs) j 0) (get_or (t ∷ powers k (fold_both t t)) j fail)
      are gs d rest zero i = h
      are gs d rest (suc j) i = rest.are j (omega arith)

  -- the tree over n of the n₀ elements whose folds are there
  module _ {n₀ c₀ : ℕ} {ts : List Term} {fs : List ℕ} (folds : Folds g (top_of n₀) ts fs c₀) where
    ran_top : (n : ℕ) → n ≤ n₀ → Ran g (pure (get_or fs (top_of n) 0)) c₀ (Folded g (get_or ts (top_of n) fail) (n ≡ n₀))
    ran_top n l =
        let o = top_mono n n₀ l in
        ran_pure _ (record { below = folds.below (top_of n) o; is = folds.are (top_of n) o; last = λ e. rw e folds.last })

    ran_tree : (d n : ℕ) → n ≤ n₀ → Ran g (arrays.tree_fold d r fs n) c₀ (Folded g (tree_fold d ts n) (n ≡ n₀))
    unfolding arrays.tree_fold tree_fold
    ran_tree zero n l = ran_top n l
    ran_tree (suc d) n l = go (eqb n (2 ^ top_of n)) (ran_tree d (n - 2 ^ top_of n) (omega arith))
      where
        go : (b : Bool) → Ran g (arrays.tree_fold d r fs (n - 2 ^ top_of n)) c₀ (Folded g (tree_fold d ts (n - 2 ^ top_of n)) (n - 2 ^ top_of n ≡ n₀))
            → Ran g (elim b [ true ↦ pure (get_or fs (top_of n) 0) | false ↦ bind (arrays.tree_fold d r fs (n - 2 ^ top_of n)) (λ left. arrays.f_array_fold r left (get_or fs (top_of n) 0)) ]) c₀
            (Folded g (elim b [ true ↦ get_or ts (top_of n) fail | false ↦ fold_both (tree_fold d ts (n - 2 ^ top_of n)) (get_or ts (top_of n) fail) ]) (n ≡ n₀))
        go true h = ran_top n l
        go false h =
            let o = top_mono n n₀ l in
            ran_bind h (λ _ _ p left.
            ran_less (ran_fold_both left.below left.is (omega (arith, folds.below (top_of n) o)) (folds.are (top_of n) o)) (λ a d at. record { below = omega arith; is = at.is; last = λ e. at.last }))

  -- the fold of an array by a function's node is the fold by its term
  pub ran_array_fold : (n : ℕ) {f c : ℕ} {t : Term} → suc f ≡ c → Is g f t → Ran g (arrays.array_fold r n f) c (At g (fold_array n t))
  unfolding arrays.array_fold fold_array
  ran_array_fold n e h =
      ran_bind (ran_powers (top_of n) e h) (λ _ _ o folds.
      ran_less (ran_tree folds n n (omega arith)) (λ a d root. record { last = root.last refl; is = root.is }))

  -- the loop
  ran_turn : (b : Bool) {f c : ℕ} {t : Term} → f < c → Is g f t → Ran g (loops.turn r b f) c (At g (turn b t))
  unfolding loops.turn turn selector
  ran_turn b l h =
      ran_bind (ran_select r (on_left ∷ []) _) (λ _ _ o accumulator.
      ran_bind (ran_select r (on_right ∷ []) _) (λ _ _ p context.
      ran_bind (ran_bit r b _) (λ _ _ q counter.
      ran_bind (ran_pair r (omega arith) context.is (omega arith) counter.is) (λ _ _ u rest.
      ran_bind (ran_pair r (omega arith) accumulator.is (omega arith) rest.is) (λ _ _ v input.
      ran_comp r (omega arith) input.is (omega arith) h)))))

  ran_loop_bit : {f c : ℕ} {t : Term} → f < c → Is g f t → Ran g (loops.for_while0 r f) c (At g (loop_bit t))
  unfolding loops.for_while0 loop_bit selector
  ran_loop_bit l h =
      ran_bind (ran_turn false l h) (λ _ _ o first.
      ran_bind (ran_select r (on_right ∷ []) _) (λ _ _ p context.
      ran_bind (ran_pair r (omega arith) first.is (omega arith) context.is) (λ _ _ q input.
      ran_bind (ran_select r (on_left ∷ []) _) (λ _ _ u result.
      ran_bind (ran_injl r (omega arith) result.is) (λ _ _ v stopped.
      ran_bind (ran_turn true (omega arith) h) (λ _ _ w second.
      ran_bind (ran_case r (omega arith) stopped.is (omega arith) second.is) (λ _ _ x choice.
      ran_comp r (omega arith) input.is (omega arith) choice.is)))))))

  ran_adapt : {f c : ℕ} {t : Term} → f < c → Is g f t → Ran g (loops.adapt r f) c (At g (adapt t))
  unfolding loops.adapt adapt selector
  ran_adapt l h =
      ran_bind (ran_select r (on_left ∷ []) _) (λ _ _ o accumulator.
      ran_bind (ran_select r (on_right ∷ on_left ∷ on_left ∷ []) _) (λ _ _ p context.
      ran_bind (ran_select r (on_right ∷ on_left ∷ on_right ∷ []) _) (λ _ _ q high.
      ran_bind (ran_select r (on_right ∷ on_right ∷ []) _) (λ _ _ u low.
      ran_bind (ran_pair r (omega arith) high.is (omega arith) low.is) (λ _ _ v counter.
      ran_bind (ran_pair r (omega arith) context.is (omega arith) counter.is) (λ _ _ w rest.
      ran_bind (ran_pair r (omega arith) accumulator.is (omega arith) rest.is) (λ _ _ x input.
      ran_comp r (omega arith) input.is (omega arith) h)))))))

  -- the loop over a counter by a function's node is the loop by its term
  pub ran_for_while : (k : ℕ) {f c : ℕ} {t : Term} → suc f ≡ c → Is g f t → Ran g (loops.for_while r k f) c (At g (loop k t))
  unfolding loops.for_while loop
  ran_for_while zero e h = ran_loop_bit (omega arith) h
  ran_for_while (suc k) e h =
      ran_bind (ran_adapt (omega arith) h) (λ _ _ o adapted.
      ran_bind (ran_for_while k adapted.last adapted.is) (λ _ _ p inner.
      ran_for_while k inner.last inner.is))

  -- the hash
  ran_add_both : {a b c : ℕ} {t u : Term} → a < c → Is g a t → b < c → Is g b u → Ran g (hashes.add_both r a b) c (At g (add_both t u))
  unfolding hashes.add_both add_both selector
  ran_add_both l h m i =
      ran_bind (ran_select r (on_left ∷ []) _) (λ _ _ o context.
      ran_bind (ran_select r (on_right ∷ on_left ∷ []) _) (λ _ _ p first.
      ran_bind (ran_select r (on_right ∷ on_right ∷ []) _) (λ _ _ q second.
      ran_bind (ran_applied (omega arith) h (omega arith) context.is (omega arith) first.is) (λ _ _ u middle.
      ran_applied (omega arith) i (omega arith) middle.is (omega arith) second.is))))

  ran_add_row : (ws : List ℕ) → Adds g (hashes.add_row r ws) (add_row ws)
  unfolding hashes.add_row add_row selector
  ran_add_row ws =
      row_related (Adds g) _ (node.joined (hashes.add_both r)) (take iden) add_both (ran_select r (on_left ∷ []))
      (λ m n t u h i c. ran_bind (h c) (λ _ _ o left. ran_bind (i _) (λ _ _ p right. ran_add_both (omega arith) left.is (omega arith) right.is)))
      _ _ (adds_each g r ws)

  -- the hash of a row of words, by their widths
  pub ran_raw_hash : (ws : List ℕ) (c : ℕ) → Ran g (hashes.raw_hash r ws) c (At g (raw_hash ws))
  unfolding hashes.raw_hash raw_hash
  ran_raw_hash ws c =
      ran_bind (ran_unit r c) (λ _ _ o none.
      ran_bind (ran_jet r 3 _ (omega arith)) (λ _ _ p init.
      ran_bind (ran_comp r (omega arith) none.is (omega arith) init.is) (λ _ _ q fresh.
      ran_bind (ran_iden r _) (λ _ _ u words.
      ran_bind (ran_pair r (omega arith) fresh.is (omega arith) words.is) (λ _ _ v input.
      ran_bind (ran_add_row ws _) (λ _ _ w adds.
      ran_bind (ran_comp r (omega arith) input.is (omega arith) adds.is) (λ _ _ x full.
      ran_bind (ran_jet r 10 _ (omega arith)) (λ _ _ y end.
      ran_comp r (omega arith) full.is (omega arith) end.is))))))))
