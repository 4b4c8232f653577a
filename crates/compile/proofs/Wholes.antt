-- From the root's lowering on a clear table to LOWER's answer and table.
-- Assumes nothing.
use Rattle.std.specs.declared.result.Result.{Result}
use Rattle.std.specs.declared.result.Result.TheVariants.{Ok, Err}
use Prim.Native.Nat.{ℕ, ◌-◌, ◌<◌}
use mathlib.Core.Bool.{Bool}
use mathlib.Core.List.{List, [], ◌∷◌}
use mathlib.Core.Path.{◌≡◌, refl, sym, ap, ◌∙◌}
use native.Mathlib.Omega.{arith}
use lib.ListN.{length, length-replicate}
use Rattle.std.specs.Prelude.{Result, Ok, Err}
use Rattle.book.specs.Format.{EXPRESSION}
use Rattle.book.specs.Read.{read_of, index_of}
use Rattle.book.specs.Stands.{Stands}
use Rattle.book.specs.Tree.{ignore, expr_of}
use Rattle.book.specs.declared.fault.Refusal.{Refusal}
use Rattle.book.proofs.Established.{answer_valid}
use Rattle.named.specs.Trace.{Run}
use Rattle.named.specs.Cut.{refused, cut, room, image}
use Rattle.named.specs.Stores.{Gives, Stops, Fate, Done}
use Rattle.named.specs.Table.{Table, Fresh}
use Rattle.std.specs.Borrow.{MutBor}
use Rattle.named.proofs.Images.{zeros, clear_gives, clear_stops}
use Rattle.scope_bindings.specs.Scope.{IGNORED, scope_of, Roots}
use Rattle.scope_bindings.specs.declared.ScopeBindings.{ScopeBindings}
use Rattle.scope_bindings.proofs.Scopes.{bound_ignored, scope_root}
use Rattle.compile.specs.Lower.{lower}
use Rattle.compile.specs.Whole.{trace_of, answer_of, lowering, lower_of, table_of, Lowered}

-- the root's scope
pub root_scope_lem : {s : ScopeBindings} (b i : List ℕ) → Roots IGNORED s → scope_of b i s ≡ ignore ∷ []
root_scope_lem b i h = scope_root b i h ∙ rw (bound_ignored b i IGNORED refl)

module _ (y : Bool) (b i : List ℕ) (r : ℕ) {s : ScopeBindings} {t : MutBor (List ℕ)} {d : Table} (d' : Table) (h : Roots IGNORED s) (z : t.now ≡ zeros (length t.now)) (f : Fresh t d) where
  abbrev root : Run ℕ
  root = lower y (expr_of b i r) (ignore ∷ [])

  -- a result: the nodes and then zeros
  pub root_made : {a n : ℕ} {u : List ℕ} → n ≡ d'.next → u ≡ d'.bytes.now → Done d (lower y (expr_of b i r) (scope_of b i s)) (Ok a) d' → Lowered (cut (room (length t.now)) (trace_of y b i r)) (length t.now) (Ok n) u
  unfolding Fate trace_of
  root_made {a} o e p =
      let q : Gives (zeros (length t.now)) 0 root a d'.next d'.bytes.now = rw (root_scope_lem b i h, f.bytes, f.next, z) at p.fate in
      let g = clear_gives (length t.now) root q in
      record { answer = ap Ok (o ∙ g.1) ∙ sym (ap answer_of g.0); table = e ∙ g.2 }

  -- a refusal: zeros throughout
  pub root_refused : {w : Refusal} {u v : List ℕ} → u ≡ d'.bytes.now → Done d (lower y (expr_of b i r) (scope_of b i s)) (Err w) d' → v ≡ zeros (length u) → Lowered (cut (room (length t.now)) (trace_of y b i r)) (length t.now) (Err w) v
  unfolding Fate trace_of
  root_refused {w} e p o =
      let q : Stops (zeros (length t.now)) 0 root w = rw (root_scope_lem b i h, f.bytes, f.next, z) at p.fate in
      let g = clear_stops (length t.now) root q in
      record { answer = rw g.0 refl; table = o ∙ rw (e, p.kept, f.bytes) g.1 }

-- the last record of a book that READ accepts
module _ (b : List ℕ) (n : ℕ) (e : read_of b ≡ Ok n) where
  pub some_records : 0 < n
  some_records = (answer_valid b n e).some

  pub root_stands_at : Stands b (index_of b) (n - 1) EXPRESSION
  root_stands_at = let v = answer_valid b n e in record { records = n; valid = v; inside = omega (arith, v.some); is = v.root }

  -- in a row of records that is READ's
  pub root_stands_in : {i : List ℕ} → i ≡ index_of b → Stands b i (n - 1) EXPRESSION
  root_stands_in q = rw q root_stands_at

-- a table that was cleared is as long as it was
pub clear_length : {t : List ℕ} {n : ℕ} → t ≡ zeros n → length t ≡ n
clear_length {n = n} e = ap length e ∙ length-replicate {A = ℕ} n 0

-- and so LOWER's answer and its table
module _ (b : List ℕ) (y : Bool) (l : ℕ) where
  by_read : (n : ℕ) → read_of b ≡ Ok n → lowering b y l ≡ cut (room l) (trace_of y b (index_of b) (n - 1))
  unfolding lowering
  by_read n e = rw (e, lowering)

  by_refusal : (w : Refusal) → read_of b ≡ Err w → lowering b y l ≡ refused w
  unfolding lowering
  by_refusal w e = rw (e, lowering)

module _ (b : List ℕ) (y : Bool) (l : ℕ) {x : Result ℕ Refusal} {t : List ℕ} (p : x ≡ read_of b) where
  pub whole_read : {a : Result ℕ Refusal} {i : List ℕ} {k : ℕ} (n : ℕ) → i ≡ index_of b → x ≡ Ok n → k ≡ l → Lowered (cut (room k) (trace_of y b i (n - 1))) k a t → (a ≡ lower_of b y l) × (t ≡ table_of b y l)
  unfolding lower_of table_of
  whole_read n q f h d = rw (by_read b y l n (sym p ∙ f), ← q, ← h) (d.answer, d.table)

  pub whole_refused : {w : Refusal} → x ≡ Err w → t ≡ zeros l → (Err w ≡ lower_of b y l) × (t ≡ table_of b y l)
  unfolding lower_of table_of image
  whole_refused {w} f z = rw (by_refusal b y l w (sym p ∙ f)) (refl, z)
