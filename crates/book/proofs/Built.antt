-- A record's tree over the trees of the records that it names.
-- Assumes nothing.
use Prim.Native.Nat.{ℕ, zero, suc, ◌+◌, ◌<◌}
use mathlib.Core.List.{List, [], ◌∷◌}
use mathlib.Core.Path.{◌≡◌, refl, ◌∙◌}
use native.Mathlib.Decide.{dec_lt}
use native.Mathlib.Omega.{arith}
use lib.ListN.{length, length-append, get_or-append}
use lib.Seq.{get_or_at}
use Rattle.book.specs.Index.{mark, field}
use Rattle.book.specs.Valid.{Valid}
use Rattle.book.specs.Tree.{nothing, group, maker, build, seen, trees, tree}
use Rattle.book.proofs.Roles.{mark_total, mark_role}
use Rattle.book.proofs.Kept.{maker_same}

module _ (b i : List ℕ) where
  -- the row of the first n trees has n, and each stands at its record's number
  length_trees : (n : ℕ) → length (trees b i n) ≡ n
  unfolding trees
  length_trees zero = refl
  length_trees (suc n) = let h = length_trees n in omega (arith, length-append (trees b i n) (build b i (seen (trees b i n)) n ∷ []))

  seen_step : (n k : ℕ) → k < suc n → (k < n → seen (trees b i n) k ≡ tree b i k) → Dec (k < n) → seen (trees b i (suc n)) k ≡ tree b i k
  unfolding seen tree trees
  seen_step n k h ih (yes p) = get_or-append (trees b i n) _ nothing k (rw length_trees p) ∙ ih p
  seen_step n k h ih (no p) =
      let e : n ≡ k = omega arith in
      rw e (get_or_at (trees b i k) (tree b i k) [] nothing k (length_trees k))

  seen_tree : (n k : ℕ) → k < n → seen (trees b i n) k ≡ tree b i k
  seen_tree zero k h = absurd (omega arith)
  seen_tree (suc n) k h = seen_step n k h (seen_tree n k) (dec_lt k n)

-- a record of a valid book
module _ {b i : List ℕ} {n : ℕ} (v : Valid b i n) (r : ℕ) (h : r < n) where
  -- the tree is made of the trees of the records that it names
  pub tree_is : tree b i r ≡ build b i (tree b i) r
  unfolding tree build
  tree_is =
      maker_same (mark b i r) r (field b i r) _ _ (λ k o p. seen_tree b i r (field b i r k)
      ((v.sound r h).earlier k (rw (mark_total b i r _ refl) o) (λ z. p (rw (mark_role b i r _ refl k) at z))))

  -- and where its mark is m, by m's row of the table: at a mark that is written out this computes to the record's construct
  pub tree_at : (m : ℕ) → mark b i r ≡ m → tree b i r ≡ maker m r (field b i r) (λ k. tree b i (field b i r k))
  unfolding build
  tree_at m is = rw (tree_is, is)

-- a group that stands once more, and one that stands no more
module _ {A : Type 0} (s : ℕ) (e : A) (add : ℕ → A → A) (k : ℕ) where
  pub group_next : (m j l : ℕ) → m ≡ suc l → j ≡ k + s → group s e add k m ≡ add k (group s e add j l)
  unfolding group
  group_next m j l p q = rw (p, q)

  pub group_none : (m : ℕ) → m ≡ 0 → group s e add k m ≡ e
  unfolding group
  group_none m p = rw p
