-- LOWER's table holds its trace: the check accepts the table, and its last node unfolds to what the trace comes to.
-- Assumes nothing.
use Rattle.std.specs.declared.result.Result.TheVariants.{Ok}
use Prim.Native.Nat.{ℕ, zero, suc, ◌+◌, ◌-◌, ◌*◌, ◌/◌, ◌<◌, ◌≤◌}
use mathlib.Core.Bool.{Bool, true, false}
use mathlib.Core.List.{List, [], ◌∷◌, ◌++◌, append_assoc}
use mathlib.Core.Path.{◌≡◌, refl, sym, ◌∙◌}
use native.Mathlib.Nat.{zero-add, add-zero}
use native.Mathlib.Omega.{arith}
use borrow.Author.Tests.{ne_eqb, eq-eqb, le-ltb}
use lib.Dec.{T}
use lib.ListN.{length, get_or, replicate, length-append}
use lib.Seq.{get_or-append-add}
use Rattle.std.specs.Prelude.{Ok}
use Rattle.laws.specs.Table.{pick}
use Rattle.simplicity.specs.Terms.{Term}
use Rattle.book.specs.Read.{read_of, index_of}
use Rattle.book.specs.Tree.{ignore, expr_of}
use Rattle.named.specs.Trace.{Node, Trace, done, stopped, store}
use Rattle.named.specs.Cut.{Out, made, refused, cut, bytes, encode, room, image}
use Rattle.named.proofs.Runs.{after_made}
use Rattle.named.proofs.Images.{cut_fits}
use Rattle.cells.specs.Entries.{kind_at, left_at, right_at}
use Rattle.book.specs.Text.{Text, text}
use Rattle.nodes.specs.Given.{Given, given}
use Rattle.nodes.specs.Nodes.{formed, first_bad, judge}
use Rattle.compile.specs.Lower.{lower}
use Rattle.compile.specs.Whole.{trace_of, lowering, answer_of, lower_of, table_of}
use Rattle.agreement.specs.Unfold.{term_at}
use Rattle.agreement.proofs.Meaning.{Accepts}
use Rattle.meaning.proofs.Traces.{Stored, Comes, comes_done, comes_store, At, Ran}

-- the bytes of a node behind those of c others are node c
module _ (g : Given) (us zs : List ℕ) (c : ℕ) (x : Node) (l : length us ≡ 5 * c) (e : g.nodes ≡ us ++ (bytes x ++ zs)) where
  byte : (n : ℕ) → get_or g.nodes (5 * c + n) 0 ≡ get_or (bytes x ++ zs) n 0
  byte n = rw (e, ← l) (get_or-append-add us (bytes x ++ zs) n 0)

  stored_at : Stored g c x
  unfolding kind_at left_at right_at
  stored_at = record {
    kind = rw add-zero at (byte 0);
    left = rw (byte 1, byte 2) (omega arith);
    right = rw (byte 3, byte 4) (omega arith);
  }

-- a trace that was cut to a result lies in a table that holds its nodes' bytes, behind those of c others, and the table is as long
comes_cut : {A : Type 0} (g : Given) (l : ℕ) (t : Trace A) {a : A} {xs : List Node} → cut l t ≡ made a xs → (us zs : List ℕ) (c : ℕ) → length us ≡ 5 * c → g.nodes ≡ us ++ (encode xs ++ zs)
    → Comes g c t a (c + length xs) × (5 * (c + length xs) ≤ length g.nodes)
unfolding cut encode
comes_cut g l (done b) {a} {xs} e us zs c n h =
    let p : a ≡ b = cc in
    let q : xs ≡ [] = cc in
    (rw (p, q, add-zero) comes_done, rw (h, q, length-append us zs) (omega arith))
comes_cut g l (stopped s r) e us zs c n h = let z : ◌≡◌ {A = ℕ} 0 1 = cc in absurd (omega arith)
comes_cut g zero (store x t) e us zs c n h = let z : ◌≡◌ {A = ℕ} 0 1 = cc in absurd (omega arith)
comes_cut g (suc l) (store x t) {a} {xs} e us zs c n h =
    let q = after_made (x ∷ []) (cut l t) a xs e in
    let d : c + suc (length q.0) ≡ suc c + length q.0 = omega arith in
    let k : g.nodes ≡ us ++ (bytes x ++ (encode q.0 ++ zs)) = rw q.2 at h in
    let o = comes_cut g l t q.1 (us ++ bytes x) zs (suc c) (length-append us (bytes x) ∙ omega arith) (k ∙ sym (append_assoc us (bytes x) (encode q.0 ++ zs))) in
    rw (q.2, d) (comes_store (stored_at g us (encode q.0 ++ zs) c x n k) o.0, o.1)

-- no node is bad where each is formed
first_bad_lem : (b : Text) (ns : List ℕ) (n left : ℕ) → ((j : ℕ) → n ≤ j → j < n + left → T (formed b ns j)) → first_bad b ns n left ≡ n + left
unfolding first_bad
first_bad_lem b ns n zero h = sym (add-zero n)
first_bad_lem b ns n (suc left) h =
    let z : n + 1 + left ≡ n + suc left = omega arith in
    go (formed b ns n) (h n (omega arith) (omega arith)) (first_bad_lem b ns (n + 1) left (λ j l m. h j (omega arith) (omega arith)) ∙ z)
  where
    go : (t : Bool) → T t → first_bad b ns (n + 1) left ≡ n + suc left → pick t (first_bad b ns (n + 1) left) n ≡ n + suc left
    go true t e = e
    go false t e = absurd t

-- the check accepts a table of some nodes, as long as they need, where each is formed
well_judged : (b : Text) (ns : List ℕ) (c : ℕ) → 0 < c → c ≤ 65535 → 5 * c ≤ length ns → ((n : ℕ) → n < c → T (formed b ns n)) → judge b ns c ≡ Ok tt
unfolding judge
well_judged b ns c some few long each =
    rw (ne_eqb c 0 (λ e. omega arith), le-ltb 65535 c few, le-ltb (length ns / 5) c (omega arith), eq-eqb (first_bad b ns 0 c) c (first_bad_lem b ns 0 c (λ j l m. each j (omega arith)) ∙ zero-add c))

-- what a run of LOWER's table is given, with a book of n records and a witness list
abbrev pub given_of : List ℕ → ℕ → Bool → ℕ → List ℕ → Given
given_of b n y m ws = given (text b (index_of b) n) ws (table_of b y m)

lowering_is : (b : List ℕ) (n : ℕ) → read_of b ≡ Ok n → (y : Bool) (m : ℕ) → lowering b y m ≡ cut (room m) (lower y (expr_of b (index_of b) (n - 1)) (ignore ∷ []) 0)
unfolding lowering trace_of
lowering_is b n read y m = rw (lowering, read)

table_is : (b : List ℕ) (y : Bool) (m a : ℕ) (xs : List Node) → lowering b y m ≡ made a xs → table_of b y m ≡ encode xs ++ replicate (m - length (encode xs)) 0
unfolding table_of image
table_is b y m a xs e = rw e

module _ (b : List ℕ) (n : ℕ) (read : read_of b ≡ Ok n) (y : Bool) (m c : ℕ) (answer : lower_of b y m ≡ Ok c) (ws : List ℕ) (t : Term)
    (ran : Ran (given_of b n y m ws) (lower y (expr_of b (index_of b) (n - 1)) (ignore ∷ [])) 0 (At (given_of b n y m ws) t)) where
  -- the last of the nodes that LOWER made
  held : (a : ℕ) (xs : List Node) → lowering b y m ≡ made a xs → Accepts b (table_of b y m) (length xs) n × (term_at (given_of b n y m ws) (length xs - 1) ≡ t)
  unfolding room term_at
  held a xs e =
      let is = sym (lowering_is b n read y m) ∙ e in
      let o = comes_cut (given_of b n y m ws) (room m) _ is [] (replicate (m - length (encode xs)) 0) 0 refl (table_is b y m a xs e) in
      let nodes = ran.made a (0 + length xs) o.0 in
      let root = ran.result a (0 + length xs) o.0 in
      let z : length xs - 1 ≡ a = omega (arith, root.last) in (
        record { read = read; well = well_judged _ _ (length xs) (omega (arith, root.last)) (omega (arith, cut_fits (room m) _ a xs is)) (omega (arith, o.1)) (λ j l. nodes.each j (omega arith) (omega arith)) },
        rw z (root.is.unfolds (suc a) (omega arith)),
      )

  -- LOWER's table is accepted, and its last node is the term that the root's trace comes to
  pub lowered : Accepts b (table_of b y m) c n × (term_at (given_of b n y m ws) (c - 1) ≡ t)
  unfolding lower_of
  lowered = go (lowering b y m) refl answer
    where
      go : (o : Out ℕ) → lowering b y m ≡ o → answer_of o ≡ Ok c → Accepts b (table_of b y m) c n × (term_at (given_of b n y m ws) (c - 1) ≡ t)
      go (made a xs) e q = let z : c ≡ length xs = cc in rw z (held a xs e)
      go (refused w) e q = let z : ◌≡◌ {A = ℕ} 0 1 = cc in absurd (omega arith)
