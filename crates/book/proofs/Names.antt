-- The roll, the row of names: it marks what the fields judged so far name, and none of them names what another does.
-- Assumes nothing.
use Prim.Native.Nat.{ℕ, ◌+◌, ◌<◌}
use mathlib.Core.Bool.{Bool, true, false}
use mathlib.Core.Path.{◌≡◌, refl, sym, ◌∙◌}
use mathlib.Core.List.{List}
use mathlib.Core.Logic.{◌⊎◌, ⊎_elim, inl, inr}
use native.Mathlib.Omega.{arith}
use native.Mathlib.Nat.{eq-or-lt_of_le}
use native.Mathlib.Decide.{ℕ_discrete}
use lib.ListN.{length, get_or, set}
use lib.Seq.{get_or-set_same, get_or-set_other}
use Rattle.laws.specs.Table.{true_false}
use Rattle.book.specs.Index.{total, named, field, single}
use Rattle.book.specs.Valid.{Uses}
use Rattle.book.proofs.Judging.{Noted, marks, skips}
use Rattle.book.proofs.Extends.{Extends, uses_at}

-- field j of record s stands before field k of record r
pub data Before (s j r k : ℕ) : Type 0 where
  earlier : s < r → Before s j r k
  here : s ≡ r → j < k → Before s j r k

-- and names x, which may be named once only
pub record Names (b i : List ℕ) (r k s j x : ℕ) : Type 0 where
  pub before : Before s j r k
  pub uses : Uses b i s j x

-- x is named before field k of record r
pub record Named (b i : List ℕ) (r k x : ℕ) : Type 0 where
  pub by : ℕ
  pub at : ℕ
  pub names : Names b i r k by at x

-- the roll nm says what is named before field k of record r
pub record Roll (b i : List ℕ) (r k : ℕ) (nm : List Bool) : Type 0 where
  pub marked : (s j x : ℕ) → Names b i r k s j x → get_or nm x false ≡ false → ⊥
  pub used : (x : ℕ) → (get_or nm x false ≡ false → ⊥) → Named b i r k x
  pub once : (s j t l x : ℕ) → Names b i r k s j x → Names b i r k t l x → (s ≡ t) × (j ≡ l)

-- the same fields before another place
roll_same : (b i c : List ℕ) (r k q l : ℕ) (nm : List Bool) → ((s j x : ℕ) → Names b c q l s j x → Names b i r k s j x) → ((s j x : ℕ) → Names b i r k s j x → Names b c q l s j x) → Roll b i r k nm → Roll b c q l nm
roll_same b i c r k q l nm f g w = record {
  marked = λ s j x n. w.marked s j x (f s j x n);
  used = λ x n. let u = w.used x n in record { by = u.by; at = u.at; names = g _ _ x u.names };
  once = λ s j t m x n o. w.once s j t m x (f s j x n) (f t m x o);
}

-- before the first field of a record stand the earlier records
pub before_first : (s j r : ℕ) → Before s j r 0 → s < r
before_first s j r (earlier h) = h
before_first s j r (here e h) = absurd (omega arith)

-- the index goes on to the new record
pub roll_extends : (b i j : List ℕ) (r p : ℕ) (nm : List Bool) → Extends i j r p → Roll b i r 0 nm → Roll b j r 0 nm
roll_extends b i j r p nm x = roll_same b i j r 0 r 0 nm
    (λ s k y n. let l = before_first s k r n.before in record { before = earlier l; uses = uses_at b j i s k y (sym (x.before s l)) n.uses })
    (λ s k y n. let l = before_first s k r n.before in record { before = earlier l; uses = uses_at b i j s k y (x.before s l) n.uses })

-- after a record's last field the next record begins
pub roll_next : (b i : List ℕ) (r : ℕ) (nm : List Bool) → Roll b i r (total b i r) nm → Roll b i (r + 1) 0 nm
roll_next b i r nm = roll_same b i i r (total b i r) (r + 1) 0 nm
    (λ s j x n. record { before = back s j x n.uses (eq-or-lt_of_le (let l = before_first s j (r + 1) n.before in omega arith)); uses = n.uses })
    (λ s j x n. record { before = forth s j n.before; uses = n.uses })
  where
    back : (s j x : ℕ) → Uses b i s j x → (s ≡ r) ⊎ (s < r) → Before s j r (total b i r)
    back s j x u (inl e) = here e (rw e at u.inside)
    back s j x u (inr h) = earlier h

    forth : (s j : ℕ) → Before s j r (total b i r) → Before s j (r + 1) 0
    forth s j (earlier h) = earlier (omega arith)
    forth s j (here e h) = earlier (omega arith)

-- before the first record nothing is named
pub roll_start : (b i : List ℕ) (nm : List Bool) → ((x : ℕ) → get_or nm x false ≡ false) → Roll b i 0 0 nm
roll_start b i nm z = record {
  marked = λ s j x n. absurd (none s j x n);
  used = λ x n. absurd (n (z x));
  once = λ s j t l x n. absurd (none s j x n);
}
  where
    none : (s j x : ℕ) → Names b i 0 0 s j x → ⊥
    none s j x n = let h = before_first s j 0 n.before in omega arith

-- field j of record s is field k of record r, which names x
record This (b i : List ℕ) (r k s j x : ℕ) : Type 0 where
  whose : s ≡ r
  which : j ≡ k
  uses : Uses b i r k x

module _ (b i : List ℕ) (r k : ℕ) where
  -- before the next field stand the earlier ones and this one
  before_next : (s j : ℕ) → Before s j r (k + 1) → Before s j r k ⊎ ((s ≡ r) × (j ≡ k))
  before_next s j (earlier h) = inl (earlier h)
  before_next s j (here e h) = ⊎_elim (λ (z : j ≡ k). inr (e, z)) (λ z. inl (here e z)) (eq-or-lt_of_le (omega arith))

  -- so what is named there is named before this field or by it
  names_next : (s j x : ℕ) → Names b i r (k + 1) s j x → Names b i r k s j x ⊎ This b i r k s j x
  names_next s j x n = ⊎_elim (λ z. inl (record { before = z; uses = n.uses })) (λ (z : (s ≡ r) × (j ≡ k)). inr (record { whose = z.0; which = z.1; uses = rw (z.0, z.1) at n.uses })) (before_next s j n.before)

  -- what stands before this field stands before the next
  grow : (s j : ℕ) → Before s j r k → Before s j r (k + 1)
  grow s j (earlier h) = earlier h
  grow s j (here e h) = here e (omega arith)

  grown : (s j x : ℕ) → Names b i r k s j x → Names b i r (k + 1) s j x
  grown s j x n = record { before = grow s j n.before; uses = n.uses }

  -- a field that names nothing that may be named once only
  roll_skips : (nm : List Bool) → single (named b i r k) ≡ false → Roll b i r k nm → Roll b i r (k + 1) nm
  roll_skips nm o = roll_same b i i r k r (k + 1) nm
      (λ s j x n. ⊎_elim (λ m. m) (λ m. absurd (true_false (sym m.uses.once ∙ o))) (names_next s j x n))
      grown

  -- a field that names what was not yet named
  module _ (nm : List Bool) (inside : k < total b i r) (short : field b i r k < length nm) (o : single (named b i r k) ≡ true) (z : get_or nm (field b i r k) false ≡ false) (w : Roll b i r k nm) where
    -- no earlier field names it
    fresh : (s j x : ℕ) → Names b i r k s j x → x ≡ field b i r k → ⊥
    fresh s j x n e = w.marked s j x n (rw e z)

    -- this one is new
    roll_marks : Roll b i r (k + 1) (set nm (field b i r k) true)
    roll_marks = record { marked = λ s j x n. marked s j x (names_next s j x n); used = λ x n. used x n (ℕ_discrete x (field b i r k)); once = λ s j t l x n m. once s j t l x (names_next s j x n) (names_next t l x m) }
      where
        marked : (s j x : ℕ) → Names b i r k s j x ⊎ This b i r k s j x → get_or (set nm (field b i r k) true) x false ≡ false → ⊥
        marked s j x (inl n) q = w.marked s j x n (sym (get_or-set_other nm _ x true false (fresh s j x n)) ∙ q)
        marked s j x (inr n) q = true_false (sym (rw n.uses.is at (get_or-set_same nm _ true false short)) ∙ rw n.uses.is at q)

        used : (x : ℕ) → (get_or (set nm (field b i r k) true) x false ≡ false → ⊥) → Dec (x ≡ field b i r k) → Named b i r (k + 1) x
        used x n (yes e) = record { by = r; at = k; names = record { before = here refl (omega arith); uses = record { inside = inside; once = o; is = sym e } } }
        used x n (no e) = let u = w.used x (λ q. n (get_or-set_other nm _ x true false e ∙ q)) in record { by = u.by; at = u.at; names = grown _ _ x u.names }

        once : (s j t l x : ℕ) → Names b i r k s j x ⊎ This b i r k s j x → Names b i r k t l x ⊎ This b i r k t l x → (s ≡ t) × (j ≡ l)
        once s j t l x (inl n) (inl m) = w.once s j t l x n m
        once s j t l x (inl n) (inr m) = absurd (fresh s j x n (sym m.uses.is))
        once s j t l x (inr n) (inl m) = absurd (fresh t l x m (sym n.uses.is))
        once s j t l x (inr n) (inr m) = (n.whose ∙ sym m.whose, n.which ∙ sym m.which)

  -- one more field
  pub roll_field : (nm nm' : List Bool) → k < total b i r → ((named b i r k ≡ 0 → ⊥) → field b i r k < length nm) → Noted (named b i r k) (field b i r k) nm nm' → Roll b i r k nm → Roll b i r (k + 1) nm'
  roll_field nm nm' l h (skips o e) w = rw e (roll_skips nm o w)
  roll_field nm nm' l h (marks o z e) w = rw e (roll_marks nm l (h (λ q. true_false (sym o ∙ rw q))) o z w)
