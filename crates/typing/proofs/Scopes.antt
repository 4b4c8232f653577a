-- Laws of the row of live bindings: it makes the same scope as long as they stay, and one more makes the scope wider.
-- Assumes nothing.
use Prim.Native.Nat.{ℕ, zero, suc, ◌+◌, ◌<◌}
use mathlib.Core.Bool.{false}
use mathlib.Core.List.{List, ◌∷◌}
use mathlib.Core.Path.{◌≡◌, refl, ap, ◌∙◌}
use native.Mathlib.Omega.{arith}
use native.Mathlib.Numerals.{add-one}
use lib.ListN.{length, get_or, set, take, length-set}
use lib.Seq.{get_or-set_same, get_or-set_other}
use Rattle.std.specs.Prelude.{Option as Answer}
use Rattle.std.proofs.lemmas.List.{get_or-take, length-take-le}
use Rattle.laws.specs.Order.{by_lt}
use Rattle.book.specs.Tree.{type_of, pattern_of}
use Rattle.binders.specs.Binders.{binding}
use Rattle.binders.specs.declared.Binding.{Binding as Entry}
use Rattle.binders.specs.Memos.{Binds, Live, entry_at, scope_of}
use Rattle.typing.specs.declared.cycle.Judge.{Judge}
use Rattle.typing.specs.Check.{Checked}
use Rattle.typing.specs.Cycle.{Rows, Scoped, Stays, Holds}

-- two rows alike in their first n bindings
module _ (b i : List ℕ) (bs bs' : List Entry) (base : Answer ℕ) where
  scope_same : (n : ℕ) → ((j : ℕ) → j < n → entry_at bs' j ≡ entry_at bs j) → scope_of b i bs' n base ≡ scope_of b i bs n base
  unfolding scope_of
  scope_same zero h = refl
  scope_same (suc n) h = rw (h n (omega arith), scope_same n (λ j o. h j (omega arith)))

  live_same : (n : ℕ) → length bs' ≡ length bs → ((j : ℕ) → j < n → entry_at bs' j ≡ entry_at bs j) → Live b i bs n base → Live b i bs' n base
  live_same n l h v = record {
    room = omega (arith, v.room);
    each = λ j o. rw (h j o) (v.each j o);
    based = v.based;
  }

-- after a judgement the live bindings are as they were
module _ {b i : List ℕ} {v : Checked} {n : ℕ} {q : Judge} {c : Checked} {q' : Judge} (s : Stays b i v n q c q') where
  pub stays_scope : (base : Answer ℕ) → scope_of b i q'.bindings n base ≡ scope_of b i q.bindings n base
  stays_scope base = scope_same b i q.bindings q'.bindings base n s.before

  pub stays_rows : Rows b i q → Rows b i q'
  stays_rows h = record {
    long = ap length s.doubled ∙ h.long;
    patterns = λ r k. ap (λ ds. get_or ds r false) s.doubled ∙ h.patterns r k;
    functions = λ r k. ap (λ ds. get_or ds r false) s.doubled ∙ h.functions r k;
    known = s.known;
    missing = s.missing;
    room = s.kept ∙ h.room;
  }

  pub stays_scoped : {base : Answer ℕ} → Scoped b i q n base → Scoped b i q' n base
  stays_scoped {base} h = record { rows = stays_rows h.rows; live = live_same b i q.bindings q'.bindings base n s.kept s.before h.live }

-- one more binding
module _ {b i : List ℕ} {q : Judge} {n : ℕ} {base : Answer ℕ} (s : Scoped b i q n base) (h : n < 65280) (p t : ℕ) where
  abbrev bound_entry : Entry
  bound_entry = record { pattern = p; of = t }

  abbrev pub wider : List Entry
  wider = set q.bindings n bound_entry

  pub wider_before : (j : ℕ) → j < n → entry_at wider j ≡ entry_at q.bindings j
  wider_before j o = get_or-set_other q.bindings n j _ _ (λ z. omega arith)

  wider_last : entry_at wider n ≡ bound_entry
  wider_last = get_or-set_same q.bindings n _ _ (omega (arith, s.rows.room))

  pub wider_length : length wider ≡ length q.bindings
  wider_length = length-set q.bindings n bound_entry

  pub wider_holds : Binds b i p t → Holds b i wider (n + 1) base (binding (pattern_of b i p) (type_of b i t) ∷ scope_of b i q.bindings n base)
  unfolding scope_of
  wider_holds d = rw (add-one n) (record {
    live = record {
      room = omega (arith, s.rows.room, wider_length);
      each = λ j o. by_lt j n
          (λ l. rw (wider_before j l) (s.live.each j l))
          (λ l. let e : j ≡ n = omega arith in rw (e, wider_last) d);
      based = s.live.based;
    };
    is = rw (wider_last, scope_same b i q.bindings wider base n wider_before);
  })

-- the live bindings alone, as they are lent for a name's search
module _ {b i : List ℕ} {q : Judge} {n : ℕ} {base : Answer ℕ} (s : Scoped b i q n base) where
  lent_same : (j : ℕ) → j < n → entry_at (take n q.bindings) j ≡ entry_at q.bindings j
  lent_same j h = get_or-take n q.bindings j _ h

  lent_length : length (take n q.bindings) ≡ n
  lent_length = length-take-le n q.bindings s.live.room

  pub lent_live : Live b i (take n q.bindings) (length (take n q.bindings)) base
  lent_live = rw lent_length (record { room = omega (arith, lent_length); each = λ j o. rw (lent_same j o) (s.live.each j o); based = s.live.based })

  pub lent_scope : scope_of b i (take n q.bindings) (length (take n q.bindings)) base ≡ scope_of b i q.bindings n base
  lent_scope = rw lent_length (scope_same b i q.bindings (take n q.bindings) base n lent_same)
