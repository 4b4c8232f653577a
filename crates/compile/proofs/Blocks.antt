-- Laws of a block's statements: begun one at a time, ended from the last on.
-- Assumes nothing.
use Prim.Native.Nat.{ℕ, zero, suc, ◌+◌, ◌-◌, ◌≤◌, ◌<◌}
use mathlib.Core.Bool.{Bool}
use mathlib.Core.Path.{◌≡◌, refl, sym, ap}
use mathlib.Core.List.{List}
use native.Mathlib.Omega.{arith}
use native.Mathlib.Numerals.{add-one}
use borrow.Author.Tests.{eq-eqb, le-ltb}
use lib.ListN.{length, get_or, set, take}
use lib.Seq.{get_or-set_same, get_or-set_other, get_or-take, length-take-le}
use Rattle.std.specs.Prelude.{Result, Ok, Err}
use Rattle.book.specs.Format.{STATEMENT, SA}
use Rattle.book.specs.Index.{mark, field}
use Rattle.book.specs.Stands.{Stands}
use Rattle.book.specs.Tree.{Pat, tree, as_stmt, group, last_at}
use Rattle.book.specs.declared.fault.Refusal.{Refusal}
use Rattle.named.specs.Trace.{bind, bindings}
use Rattle.named.specs.Stores.{Done, Fate}
use Rattle.named.specs.Table.{Table}
use Rattle.named.proofs.Runs.{bind_bind, bind_done}
use Rattle.named.proofs.Storing.{then, halt, never_gives}
use Rattle.parts.specs.Parts.{close_run, close_all}
use Rattle.compile.specs.Lower.{statements}
use Rattle.compile.specs.Cycle.{begin_run, entered, stmts_of}
use Rattle.compile.proofs.Shapes.{stmt_is}

-- the statements of a block from field j on: the first, and the rest
stmts_next : (b i : List ℕ) (r j n l : ℕ) → n ≡ suc l → stmts_of b i r j n ≡ as_stmt (tree b i (field b i r j)) (stmts_of b i r (j + 1) l)
unfolding stmts_of group
stmts_next b i r j n l e = let z : j + suc l ≡ j + 1 + l = omega arith in rw e (ap (λ q. as_stmt (tree b i (field b i r j)) (group 1 (last_at (field b i r) (λ k. tree b i (field b i r k)) q) (λ k. as_stmt (tree b i (field b i r k))) (j + 1) l)) z)

-- nodes from place k on don't matter to the first k statements
close_past : (b i : List ℕ) (r : ℕ) (xs : List ℕ) (k j a : ℕ) → j ≤ k → (e : ℕ) → close_all b i r (set xs k a) j e ≡ close_all b i r xs j e
unfolding close_all
close_past b i r xs k zero a h e = refl
close_past b i r xs k (suc j) a h e =
    rw (get_or-set_other xs k j a 0 (λ z. omega arith))
    (ap (bind (close_run b i (field b i r (2 + j)) (get_or xs j 0) e)) (λ q z. close_past b i r xs k j a (omega arith) z q))

-- the node of statement k ends it, before the statements that come before it
close_next : (b i : List ℕ) (r : ℕ) (xs : List ℕ) (k a : ℕ) → k < length xs → (e : ℕ) → close_all b i r (set xs k a) (k + 1) e ≡ bind (close_run b i (field b i r (2 + k)) a e) (close_all b i r xs k)
unfolding close_all
close_next b i r xs k a h e =
    rw (add-one k, get_or-set_same xs k a 0 h)
    (ap (bind (close_run b i (field b i r (2 + k)) a e)) (λ q z. close_past b i r xs k k a (omega arith) z q))

-- nor do they to the first k of n
close_first : (b i : List ℕ) (r : ℕ) (xs : List ℕ) (n j : ℕ) → j ≤ n → (e : ℕ) → close_all b i r (take n xs) j e ≡ close_all b i r xs j e
unfolding close_all
close_first b i r xs n zero h e = refl
close_first b i r xs n (suc j) h e =
    rw (get_or-take n xs j 0 (omega arith))
    (ap (bind (close_run b i (field b i r (2 + j)) (get_or xs j 0) e)) (λ q z. close_first b i r xs n j (omega arith) z q))

-- what the statements from k on, of n, come to, and then the ends of those before, is what the whole block comes to
pub record Begun (y : Bool) (b i : List ℕ) (r n : ℕ) (sc₀ : List Pat) (t₀ t : Table) (k : ℕ) (sc : List Pat) (begun : List ℕ) : Type 0 where
  pub all : (w : Result ℕ Refusal) (t' : Table) → Done t (bind (statements y r (stmts_of b i r (2 + k) (n - k)) sc) (close_all b i r begun k)) w t' → Done t₀ (statements y r (stmts_of b i r 2 n) sc₀) w t'

pub begun_start : (y : Bool) (b i : List ℕ) (r n : ℕ) (sc : List Pat) (t : Table) (k : ℕ) (begun : List ℕ) → k ≡ 0 → Begun y b i r n sc t t k sc begun
unfolding close_all
begun_start y b i r n sc t k begun e = record {
  all = λ w t' d.
      let z : n - 0 ≡ n = omega arith in
      let q : bind (statements y r (stmts_of b i r (2 + k) (n - k)) sc) (close_all b i r begun k) ≡ statements y r (stmts_of b i r 2 n) sc = rw (e, z) (bind_done (statements y r (stmts_of b i r 2 n) sc)) in
      rw q at d;
}

module _ {y : Bool} {b i : List ℕ} {r n : ℕ} {sc₀ : List Pat} {t₀ t : Table} {k : ℕ} {sc : List Pat} {begun : List ℕ} (p : Begun y b i r n sc₀ t₀ t k sc begun) where
  -- statement k: what begins it, and then the rest
  stmt_then : (s : ℕ) → s ≡ field b i r (2 + k) → Stands b i s STATEMENT → k < n → bind (statements y r (stmts_of b i r (2 + k) (n - k)) sc) (close_all b i r begun k) ≡ bind (begin_run b i s y sc) (λ a. bind (statements y r (stmts_of b i r (2 + (k + 1)) (n - (k + 1))) (entered b i s sc)) (λ e. bind (close_run b i s a e) (close_all b i r begun k)))
  stmt_then s e st h =
      let j : 2 + k + 1 ≡ 2 + (k + 1) = omega arith in
      rw (stmts_next b i r (2 + k) (n - k) (n - (k + 1)) (omega arith), ← e, stmt_is b i s r y sc st (stmts_of b i r (2 + k + 1) (n - (k + 1))))
      (rw j (simp bind_bind))

  pub begun_next : {s : ℕ} {a : ℕ} {t₁ : Table} (sc₁ : List Pat) → s ≡ field b i r (2 + k) → Stands b i s STATEMENT → k < n → k < length begun → Done t (begin_run b i s y sc) (Ok a) t₁ → sc₁ ≡ entered b i s sc → Begun y b i r n sc₀ t₀ t₁ (k + 1) sc₁ (set begun k a)
  begun_next {s} {a} {t₁} sc₁ e st h l d g = record {
    all = λ w t' o.
        let z : (λ (x : ℕ). bind (close_run b i s a x) (close_all b i r begun k)) ≡ close_all b i r (set begun k a) (k + 1) = λ j x. sym (rw (← e) at (close_next b i r begun k a l x)) j in
        p.all w t' (rw (stmt_then s e st h) (then _ d (rw (z, ← g) o)));
  }

  pub begun_halt : {s : ℕ} {w : Refusal} {t₁ : Table} → s ≡ field b i r (2 + k) → Stands b i s STATEMENT → k < n → Done t (begin_run b i s y sc) (Err w) t₁ → Done t₀ (statements y r (stmts_of b i r 2 n) sc₀) (Err w) t₁
  begun_halt {s} {w} {t₁} e st h d = p.all (Err w) t₁ (rw (stmt_then s e st h) (halt _ d))

  -- the end, and then what ends the statements
  pub begun_end : {a : ℕ} {w : Result ℕ Refusal} {t₁ t₂ : Table} → n ≤ k → k ≤ n → n ≤ length begun → Done t (statements y r (stmts_of b i r (2 + n) 0) sc) (Ok a) t₁ → Done t₁ (close_all b i r (take n begun) (length (take n begun)) a) w t₂ → Done t₀ (statements y r (stmts_of b i r 2 n) sc₀) w t₂
  begun_end {a} {w} {t₁} {t₂} h g l d o =
      let e : k ≡ n = omega arith in
      let z : n - n ≡ 0 = omega arith in
      p.all w t₂ (rw (e, z) (then _ d (rw (length-take-le n begun l, close_first b i r begun n n (omega arith) a) at o)))

  pub begun_end_halt : {v : Refusal} {t₁ : Table} → n ≤ k → k ≤ n → Done t (statements y r (stmts_of b i r (2 + n) 0) sc) (Err v) t₁ → Done t₀ (statements y r (stmts_of b i r 2 n) sc₀) (Err v) t₁
  begun_end_halt {v} {t₁} h g d =
      let e : k ≡ n = omega arith in
      let z : n - n ≡ 0 = omega arith in
      p.all (Err v) t₁ (rw (e, z) (halt _ d))

-- where an assignment was begun, there was room for its binding
pub begun_fits : (b i : List ℕ) (s : ℕ) (y : Bool) (sc : List Pat) {t t' : Table} {a : ℕ} → mark b i s ≡ SA → Done t (begin_run b i s y sc) (Ok a) t' → 256 ≤ length sc → ⊥
unfolding Fate begin_run
begun_fits b i s y sc is d h = never_gives _ bindings _ (rw (eq-eqb _ _ is, le-ltb (length sc) 256 h) at d.fate)
