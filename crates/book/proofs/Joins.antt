-- The chains after one more record: a type is the newest of its chain, and every other type stays in its own.
-- Assumes nothing.
use Prim.Native.Nat.{ℕ, ◌+◌, ◌-◌, ◌≤◌, ◌<◌}
use mathlib.Core.Bool.{Bool}
use mathlib.Core.List.{List}
use mathlib.Core.Path.{◌≡◌, refl}
use native.Mathlib.Decide.{ℕ_discrete}
use native.Mathlib.Omega.{arith}
use borrow.Author.Tests.{eq-eqb, ne_eqb}
use lib.ListN.{get_or, set, length-set, length-replicate}
use lib.Seq.{get_or-set_same, get_or-set_other}
use Rattle.book.specs.Format.{TYPE}
use Rattle.book.specs.Read.{kind_at}
use Rattle.book.specs.Ready.{Rows, chain_of, Reaches, here, later, Chained, reader, nothing, heads_with, links_with, joined}
use Rattle.book.specs.declared.read.Reader.{Reader}
use Rattle.book.proofs.Chains.{chain_within}
use Rattle.book.proofs.Course.{zeros}
use Rattle.book.proofs.Extends.{Extends, extends}
use Rattle.book.proofs.Judging.{up_to}

-- before the first record every chain is empty
pub chained_start : (b : List ℕ) → Chained b nothing 0
chained_start b = record {
  headed = length-replicate {A = ℕ} 1024 0;
  linked = length-replicate {A = ℕ} 4096 0;
  begins = λ h. rw (zeros 1024 h) (omega arith);
  falls = λ j. rw (zeros 4096 j) (omega arith);
  reached = λ j h. absurd (omega arith);
}

-- a chain comes from n to the same records where no link below r was changed
stays : (ls ks : List ℕ) (r j n : ℕ) → ((k : ℕ) → k < r → get_or ks k 0 ≡ get_or ls k 0) → ((k : ℕ) → get_or ls k 0 ≤ k) → n ≤ r → Reaches ls j n → Reaches ks j n
stays ls ks r j n same f h (here e) = here e
stays ls ks r j n same f h (later o w) =
    let e = same (n - 1) (omega arith) in
    let l = f (n - 1) in
    later o (rw e (stays ls ks r j (get_or ls (n - 1) 0) same f (omega arith) w))

-- the rows once record r has its place, before it joins a chain
module _ (b : List ℕ) (s : Reader) (nm : List Bool) (ds : List ℕ) (r p : ℕ) (w : Rows b s.index r) (c : Chained b s r) (l : r < 4096) where
  abbrev rows : Reader
  rows = reader (set s.index r p) nm ds s.heads s.links

  placed : Extends s.index (set s.index r p) r p
  placed = extends s.index r p (omega (arith, w.indexed))

  -- a record that is no type leaves the chains as they are
  other_joins : (kind_at b p ≡ TYPE → ⊥) → Chained b rows (r + 1)
  other_joins n = record {
    headed = c.headed;
    linked = c.linked;
    begins = λ h. omega (arith, c.begins h);
    falls = c.falls;
    reached =
        up_to (λ j. kind_at b (get_or (set s.index r p) j 0) ≡ TYPE → Reaches s.links j (get_or s.heads (chain_of b (get_or (set s.index r p) j 0)) 0)) r
        (λ j h. rw (placed.before j h) (c.reached j h))
        (rw placed.new (λ k. absurd (n k)));
  }

  -- a type becomes the newest of its chain: the heads are then hs, and the links ls
  abbrev chain : ℕ
  chain = chain_of b p

  abbrev hs : List ℕ
  hs = set s.heads chain (r + 1)

  abbrev ls : List ℕ
  ls = set s.links r (get_or s.heads chain 0)

  -- the chain begins with it, and it leads on to what was there
  head_is : get_or hs chain 0 ≡ r + 1
  head_is = get_or-set_same s.heads chain (r + 1) 0 (omega (arith, c.headed, chain_within b p))

  link_is : get_or ls r 0 ≡ get_or s.heads chain 0
  link_is = get_or-set_same s.links r (get_or s.heads chain 0) 0 (omega (arith, c.linked))

  -- so from below r a chain goes on as before
  low : (k : ℕ) → k < r → get_or ls k 0 ≡ get_or s.links k 0
  low k h = get_or-set_other s.links r k (get_or s.heads chain 0) 0 (omega arith)

  keeps : (j n : ℕ) → n ≤ r → Reaches s.links j n → Reaches ls j n
  keeps j n = stays s.links ls r j n low c.falls

  -- it still leads to earlier records only
  falls_on : (j : ℕ) → Dec (j ≡ r) → get_or ls j 0 ≤ j
  falls_on j (yes z) = rw (z, link_is) (c.begins chain)
  falls_on j (no z) = rw (get_or-set_other s.links r j (get_or s.heads chain 0) 0 z) (c.falls j)

  begins_on : (h : ℕ) → Dec (h ≡ chain) → get_or hs h 0 ≤ r + 1
  begins_on h (yes z) = rw (z, head_is) (omega arith)
  begins_on h (no z) = rw (get_or-set_other s.heads chain h (r + 1) 0 z) (omega (arith, c.begins h))

  -- an earlier type's chain begins where it did, or with the new one, that leads on to what was there
  reached_on : (j h : ℕ) → Reaches s.links j (get_or s.heads h 0) → Dec (h ≡ chain) → Reaches ls j (get_or hs h 0)
  reached_on j h g (yes z) =
      let u : Reaches s.links j (get_or s.heads chain 0) = rw z at g in
      let q : r + 1 - 1 ≡ r = omega arith in
      rw (z, head_is) (later {n = r + 1} (omega arith) (rw (q, link_is) (keeps j _ (c.begins chain) u)))
  reached_on j h g (no z) = rw (get_or-set_other s.heads chain h (r + 1) 0 z) (keeps j _ (c.begins h) g)

  type_joins : Chained b (reader (set s.index r p) nm ds hs ls) (r + 1)
  type_joins = record {
    headed = simp length-set c.headed;
    linked = simp length-set c.linked;
    begins = λ h. begins_on h (ℕ_discrete h chain);
    falls = λ j. falls_on j (ℕ_discrete j r);
    reached =
        up_to (λ j. kind_at b (get_or (set s.index r p) j 0) ≡ TYPE → Reaches ls j (get_or hs (chain_of b (get_or (set s.index r p) j 0)) 0)) r
        (λ j h. rw (placed.before j h) (λ k. reached_on j _ (c.reached j h k) (ℕ_discrete _ chain)))
        (rw (placed.new, head_is) (λ k. here refl));
  }

  -- so the chains hold the new record too
  pub joins : Chained b (joined b rows r p) (r + 1)
  unfolding heads_with links_with
  joins = go (ℕ_discrete (kind_at b p) TYPE)
    where
      go : Dec (kind_at b p ≡ TYPE) → Chained b (joined b rows r p) (r + 1)
      go (yes k) = rw (eq-eqb (kind_at b p) TYPE k) type_joins
      go (no n) = rw (ne_eqb (kind_at b p) TYPE n) (other_joins n)
