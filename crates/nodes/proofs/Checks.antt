-- Laws of the check of a node table: a record of a kind, the roles of operands, the first malformed node, the verdict.
-- Assumes nothing.
use Prim.Native.Nat.{ℕ, zero, suc, ◌+◌, ◌-◌, ◌/◌, ◌≤◌, ◌<◌}
use mathlib.Core.Bool.{Bool, true, false}
use mathlib.Core.List.{List, [], ◌∷◌}
use mathlib.Core.Path.{◌≡◌, refl, sym, ap, ◌∙◌}
use native.Mathlib.Omega.{arith}
use borrow.Author.Tests.{lt-ltb, le-ltb, eq-eqb, ne_eqb}
use lib.Dec.{T, eqb, ltb, ltb→lt, eqb→eq}
use lib.ListN.{length}
use Rattle.std.specs.Prelude.{Ok, Err}
use Rattle.laws.specs.Table.{both, among, every, ◌also◌, both_left, both_right}
use Rattle.book.specs.Format.{VALUE, VU, VL, VR, VP}
use Rattle.book.specs.Index.{mark, kind, Lies}
use Rattle.book.specs.Valid.{Valid}
use Rattle.book.specs.Stands.{Stands}
use Rattle.book.proofs.Standing.{stands_mark, head_lies}
use Rattle.cells.specs.Entries.{kind_at}
use Rattle.book.specs.Text.{Text}
use Rattle.nodes.specs.Given.{holds}
use Rattle.nodes.specs.Nodes.{roles, roles_of, fits, operand_at, role_at, operand_fits, formed, first_bad, judge}
use Rattle.nodes.specs.declared.check.Role.{Role}
use Rattle.nodes.specs.declared.check.Role.TheVariants.{Never}

-- a record that is there is of the kind that its mark has
module _ (b : Text) (kd r : ℕ) where
  pub holds_inside : r < b.records → holds b kd r ≡ eqb (kind b.bytes b.index r) kd
  holds_inside h = rw (lt-ltb r b.records h)

  -- a record of a kind stands
  pub holds_stands : Valid b.bytes b.index b.records → holds b kd r ≡ true → Stands b.bytes b.index r kd
  holds_stands v e =
      let t : T (holds b kd r) = rw e tt in
      record {
        records = b.records;
        valid = v;
        inside = ltb→lt r b.records (both_left (ltb r b.records) _ t);
        is = eqb→eq (kind b.bytes b.index r) kd (both_right (ltb r b.records) _ t);
      }

-- a value's type lies in the book, whatever its mark
pub type_lies : {b i : List ℕ} {r : ℕ} → Stands b i r VALUE → Lies b i r 0
type_lies {b} {i} {r} s =
    every (VU ∷ VL ∷ VR ∷ VP ∷ []) (λ m. mark b i r ≡ m → Lies b i r 0)
    ((λ e. head_lies s VU e 0 tt) also (λ e. head_lies s VL e 0 tt) also (λ e. head_lies s VR e 0 tt) also (λ e. head_lies s VP e 0 tt) also tt)
    (mark b i r)
    (stands_mark s (λ m. among (VU ∷ VL ∷ VR ∷ VP ∷ []) m) tt tt)
    refl

-- a number that is no kind: 0, or past the last kind
pub no_kind : (k : ℕ) → (0 < k → 15 < k) → roles Never Never ≡ roles_of k
unfolding roles_of
no_kind k h = rw (off 1 tt, off 2 tt, off 3 tt, off 4 tt, off 5 tt, off 6 tt, off 7 tt, off 8 tt, off 9 tt, off 10 tt, off 11 tt, off 12 tt, off 13 tt, off 14 tt, off 15 tt)
  where
    off : (j : ℕ) → T (both (ltb 0 j) (ltb j 16)) → eqb k j ≡ false
    off j t =
        let u : 0 < j = ltb→lt 0 j (both_left (ltb 0 j) (ltb j 16) t) in
        let v : j < 16 = ltb→lt j 16 (both_right (ltb 0 j) (ltb j 16) t) in
        ne_eqb k j (λ e. let w : 15 < k = h (omega arith) in omega arith)

-- an operand's test, by what was read for it
pub operand_by : (b : Text) (ns : List ℕ) (n k : ℕ) {kd x : ℕ} {ro : Role} {t u : Bool} → kd ≡ kind_at ns n → ro ≡ role_at kd k → x ≡ operand_at ns n k → t ≡ fits b ro n x → t ≡ u → operand_fits b ns n k ≡ u
operand_by b ns n k e f g h q = rw (sym e, sym f, sym g, sym h) q

-- the nodes of a table, in a book
module _ (b : Text) (ns : List ℕ) where
  -- a node is well formed where both operands fit, and is not where one does not
  pub formed_by : (n k : ℕ) → 2 ≤ k → ((j : ℕ) → j < k → operand_fits b ns n j ≡ true) → formed b ns n ≡ true
  unfolding formed
  formed_by n k h f = rw (f 0 (omega arith), f 1 (omega arith))

  pub formed_not : (n k : ℕ) → k < 2 → operand_fits b ns n k ≡ false → formed b ns n ≡ false
  unfolding formed
  formed_not n zero h e = rw e
  formed_not n (suc zero) h e = go (operand_fits b ns n 0)
    where
      go : (t : Bool) → both t (operand_fits b ns n 1) ≡ false
      go true = e
      go false = refl
  formed_not n (suc (suc k)) h e = absurd (omega arith)

  -- the first malformed node of c: the scan goes on past a node, stops at one, or comes to the end
  module _ (n c : ℕ) (far : n ≤ c) (so : first_bad b ns 0 c ≡ first_bad b ns n (c - n)) where
    pub scan_on : (n ≡ c → ⊥) → formed b ns n ≡ true → first_bad b ns 0 c ≡ first_bad b ns (n + 1) (c - (n + 1))
    unfolding first_bad
    scan_on h e = let z : c - n ≡ suc (c - (n + 1)) = omega arith in rw (so, z, e)

    pub scan_stops : (n ≡ c → ⊥) → formed b ns n ≡ false → n ≡ first_bad b ns 0 c
    unfolding first_bad
    scan_stops h e = let z : c - n ≡ suc (c - (n + 1)) = omega arith in rw (so, z, e)

    pub scan_ends : n ≡ c → c ≡ first_bad b ns 0 c
    unfolding first_bad
    scan_ends e = let z : c - n ≡ 0 = omega arith in rw (so, z) (sym e)

  -- the verdict, one law for each way
  module _ (c : ℕ) where
    pub judge_none : c ≡ 0 → Err 0 ≡ judge b ns c
    unfolding judge
    judge_none e = rw (eq-eqb c 0 e)

    module _ (some : c ≡ 0 → ⊥) where
      pub judge_many : 65535 < c → Err 65535 ≡ judge b ns c
      unfolding judge
      judge_many h = rw (ne_eqb c 0 some, lt-ltb 65535 c h)

      module _ (few : c ≤ 65535) where
        pub judge_short : length ns / 5 < c → Err (length ns / 5) ≡ judge b ns c
        unfolding judge
        judge_short h = rw (ne_eqb c 0 some, le-ltb 65535 c few, lt-ltb (length ns / 5) c h)

        module _ (long : c ≤ length ns / 5) where
          pub judge_well : {x : ℕ} → x ≡ first_bad b ns 0 c → x ≡ c → Ok tt ≡ judge b ns c
          unfolding judge
          judge_well e q = rw (ne_eqb c 0 some, le-ltb 65535 c few, le-ltb (length ns / 5) c long, eq-eqb (first_bad b ns 0 c) c (sym e ∙ q))

          pub judge_bad : {x : ℕ} → x ≡ first_bad b ns 0 c → (x ≡ c → ⊥) → Err x ≡ judge b ns c
          unfolding judge
          judge_bad e q = rw (ne_eqb c 0 some, le-ltb 65535 c few, le-ltb (length ns / 5) c long, ne_eqb (first_bad b ns 0 c) c (λ z. q (e ∙ z))) (ap Err e)
