-- Laws of answers: how the contract of a function that stores nodes follows from its callees'.
-- Assumes nothing.
use Prim.Native.Nat.{ℕ, suc, ◌+◌, ◌*◌, ◌-◌, ◌/◌, min, ◌≤◌, ◌<◌}
use mathlib.Core.Bool.{Bool, true, false}
use mathlib.Core.Path.{◌≡◌, refl, sym, ap, ◌∙◌}
use mathlib.Core.List.{List, [], ◌∷◌, ◌++◌}
use native.Mathlib.Omega.{arith}
use native.Mathlib.Nat.{add-zero}
use native.Mathlib.Numerals.{towards_suc}
use lib.ListN.{length, length-append, length-set}
use lib.Seq.{length-sets}
use Rattle.std.specs.Prelude.{Result, Ok, Err, IsErrAnd}
use Rattle.std.proofs.lemmas.Result.{err_from_is_err_and}
use Rattle.book.specs.Faults.{refusal}
use Rattle.book.specs.declared.fault.Refusal.{Refusal}
use Rattle.book.specs.declared.fault.Fault.TheVariants.{Room}
use Rattle.named.specs.Trace.{Node, Run, pure, bind, emit, Stop, stop}
use Rattle.named.specs.Cut.{Out, made, refused, after, cut, room, encode, fault_of}
use Rattle.named.specs.Stores.{stored, comes, Gives, Stops, Fate, Done, FateAll, Fills}
use Rattle.named.specs.Table.{Table}
use Rattle.named.specs.Entry.{put}
use Rattle.named.proofs.Runs.{never, cut_then, cut_stop, stored_more}

-- true is not false
pub odd : {b : Bool} → b ≡ true → b ≡ false → ⊥
odd p q = let z : true ≡ false = sym p ∙ q in let y : ◌≡◌ {A = ℕ} 0 1 = cc in omega arith

length_stored : (t : List ℕ) (c : ℕ) (xs : List Node) → length (stored t c xs) ≡ length t
unfolding stored
length_stored t c xs = length-sets t (5 * c) (encode xs)

pub gives_kept : {A : Type 0} {t t' : List ℕ} {c u : ℕ} {m : Run A} {a : A} → Gives t c m a u t' → length t' ≡ length t
gives_kept {t = t} {c = c} g = ap length g.table ∙ length_stored t c g.nodes

module _ {A B : Type 0} {t : List ℕ} {c : ℕ} {m : Run A} (k : A → Run B) where
  -- what a run and the rest come to, where the run comes to a result
  comes_then : {a : A} {u : ℕ} {t₁ : List ℕ} (g : Gives t c m a u t₁) → comes t c (bind m k) ≡ after g.nodes (comes t₁ u (k a))
  unfolding bind
  comes_then {a = a} {t₁ = t₁} g =
      let z : room (length t) - c - length g.nodes ≡ room (length t) - (c + length g.nodes) = omega arith in
      cut_then k (m c) (room (length t) - c) c a g.nodes g.is ∙ rw (z, gives_kept g, g.next)

  -- one run after another
  pub gives_then : {a : A} {b : B} {u v : ℕ} {t₁ t₂ : List ℕ} → Gives t c m a u t₁ → Gives t₁ u (k a) b v t₂ → Gives t c (bind m k) b v t₂
  unfolding after
  gives_then g h = record {
    nodes = g.nodes ++ h.nodes;
    is = comes_then g ∙ rw h.is;
    next = rw length-append (omega (arith, g.next, h.next));
    table = h.table ∙ rw (g.table, g.next, stored_more);
  }

  -- the second is refused, or the first
  pub gives_stop : {a : A} {u : ℕ} {t₁ : List ℕ} {w : Refusal} → Gives t c m a u t₁ → Stops t₁ u (k a) w → Stops t c (bind m k) w
  unfolding after
  gives_stop g e = record { is = comes_then g ∙ rw e.is }

  pub stops : {w : Refusal} → Stops t c m w → Stops t c (bind m k) w
  unfolding bind
  stops {w = w} e = record { is = cut_stop k (m c) (room (length t) - c) c w e.is }

stop_stops : {A : Type 0} (t : List ℕ) (c r : ℕ) (s : Stop) → Stops {A = A} t c (stop s r) (refusal (fault_of s) r)
unfolding stop cut
stop_stops t c r s = record { is = refl }

-- a run gives a result or stops
settle : {A P : Type 0} (t : List ℕ) (c : ℕ) (m : Run A) → ((a : A) (u : ℕ) (t₁ : List ℕ) → Gives t c m a u t₁ → P) → ((w : Refusal) → Stops t c m w → P) → P
settle {A} {P} t c m f g = go (comes t c m) refl
  where
    go : (o : Out A) → comes t c m ≡ o → P
    go (made a xs) e = f a (c + length xs) (stored t c xs) (record { nodes = xs; is = e; next = refl; table = refl })
    go (refused w) e = g w (record { is = e })

-- what ends in a stop gives no result
pub never_gives : {A B : Type 0} (m : Run A) (s : Stop) (r : ℕ) {t t' : List ℕ} {c u : ℕ} {a : B} → Gives t c (bind m (λ x. stop s r)) a u t' → ⊥
never_gives m s r {t} {t'} {c} g = settle t c m
    (λ b v t₁ h. never (sym g.is ∙ (gives_stop (λ x. stop s r) h (stop_stops t₁ v r s)).is))
    (λ w h. never (sym g.is ∙ (stops (λ x. stop s r) h).is))

pub gives_pure : {A : Type 0} (t : List ℕ) (c : ℕ) (a : A) → Gives t c (pure a) a c t
unfolding pure cut stored encode
gives_pure t c a = record { nodes = []; is = refl; next = sym (add-zero c); table = refl }

-- one node: there is room, or there is none
module _ (r kind a b : ℕ) (d d' : Table) (same : d'.bytes.ghost_name ≡ d.bytes.ghost_name) where
  pub put_fits : d.next < room (length d.bytes.now) → d'.bytes.now ≡ put d.bytes.now d.next kind a b → d'.next ≡ d.next + 1 → Done d (emit r kind a b) (Ok d.next) d'
  unfolding emit cut after room stored encode Fate put
  put_fits h z n =
      let e : min (length d.bytes.now / 5) 65535 - d.next ≡ suc (min (length d.bytes.now / 5) 65535 - suc d.next) = omega arith in
      record {
        lent = same;
        kept = rw z (simp length-set);
        fate = record { nodes = record { kind = kind; left = a; right = b; source = r } ∷ []; is = rw e refl; next = n; table = z ∙ simp towards_suc };
      }

  pub put_full : room (length d.bytes.now) ≤ d.next → d'.bytes.now ≡ d.bytes.now → Done d (emit r kind a b) (Err (refusal Room r)) d'
  unfolding emit cut Fate
  put_full h z =
      let e : room (length d.bytes.now) - d.next ≡ 0 = omega arith in
      record { lent = same; kept = ap length z; fate = record { is = rw e refl } }

-- an answer with a node, and then the rest
module _ (k : ℕ → Run ℕ) {m : Run ℕ} {a : ℕ} where
  fate_then : (d d₁ d₂ : Table) (r : Result ℕ Refusal) → Gives d.bytes.now d.next m a d₁.next d₁.bytes.now → Fate d₁ (k a) r d₂ → Fate d (bind m k) r d₂
  unfolding Fate
  fate_then d d₁ d₂ (Ok b) g h = gives_then k g h
  fate_then d d₁ d₂ (Err w) g h = gives_stop k g h

  pub then : {d d₁ d₂ : Table} {r : Result ℕ Refusal} → Done d m (Ok a) d₁ → Done d₁ (k a) r d₂ → Done d (bind m k) r d₂
  unfolding Fate
  then {d} {d₁} {d₂} {r} p q = record { lent = q.lent ∙ p.lent; kept = q.kept ∙ p.kept; fate = fate_then d d₁ d₂ r p.fate q.fate }

-- a refusal that is handed on
pub handed : {A : Type 0} {r : Result A Refusal} {w : Refusal} → IsErrAnd r (λ e. e ≡ w) → r ≡ Err w
handed {r = r} h = let p = err_from_is_err_and r h in rw (p.1, p.2)

pub halt : (k : ℕ → Run ℕ) {m : Run ℕ} {d d₁ : Table} {w : Refusal} → Done d m (Err w) d₁ → Done d (bind m k) (Err w) d₁
unfolding Fate
halt k p = record { lent = p.lent; kept = p.kept; fate = stops k p.fate }

-- a node that is there already
pub done_pure : (d : Table) (a : ℕ) → Done d (pure a) (Ok a) d
unfolding Fate
done_pure d a = record { lent = refl; kept = refl; fate = gives_pure d.bytes.now d.next a }

pub done_stop : (d : Table) (r : ℕ) (s : Stop) → Done d (stop s r) (Err (refusal (fault_of s) r)) d
unfolding Fate
done_stop d r s = record { lent = refl; kept = refl; fate = stop_stops d.bytes.now d.next r s }

-- several nodes: one, or a refusal, and then the others
fate_next : {m : Run ℕ} (n : Run (List ℕ)) (d d₁ d₂ : Table) {a : ℕ} (xs : List ℕ) (r : Result (Unit {0}) Refusal) → Gives d.bytes.now d.next m a d₁.next d₁.bytes.now → FateAll d₁ n r xs d₂ → FateAll d (bind m (λ x. bind n (λ ys. pure (x ∷ ys)))) r (a ∷ xs) d₂
unfolding FateAll
fate_next n d d₁ d₂ {a = a} xs (Ok v) g h = gives_then (λ x. bind n (λ ys. pure (x ∷ ys))) g (gives_then (λ ys. pure (a ∷ ys)) h (gives_pure d₂.bytes.now d₂.next (a ∷ xs)))
fate_next n d d₁ d₂ {a = a} xs (Err w) g h = gives_stop (λ x. bind n (λ ys. pure (x ∷ ys))) g (stops (λ ys. pure (a ∷ ys)) h)

module _ {d : Table} where
  pub fill_none : Fills d (pure []) (Ok tt) [] d
  unfolding FateAll
  fill_none = record { lent = refl; kept = refl; fate = gives_pure d.bytes.now d.next [] }

  -- one more before them, or a refusal
  pub fill_next : {m : Run ℕ} {n : Run (List ℕ)} {d₁ d₂ : Table} {a : ℕ} {xs : List ℕ} {r : Result (Unit {0}) Refusal} → Done d m (Ok a) d₁ → Fills d₁ n r xs d₂ → Fills d (bind m (λ x. bind n (λ ys. pure (x ∷ ys)))) r (a ∷ xs) d₂
  unfolding Fate
  fill_next {n = n} {d₁ = d₁} {d₂ = d₂} {xs = xs} {r = r} p q = record { lent = q.lent ∙ p.lent; kept = q.kept ∙ p.kept; fate = fate_next n d d₁ d₂ xs r p.fate q.fate }

  pub fill_halt : {m : Run ℕ} (n : Run (List ℕ)) {d₁ : Table} {w : Refusal} (xs : List ℕ) → Done d m (Err w) d₁ → Fills d (bind m (λ x. bind n (λ ys. pure (x ∷ ys)))) (Err w) xs d₁
  unfolding Fate FateAll
  fill_halt n xs p = record { lent = p.lent; kept = p.kept; fate = stops (λ x. bind n (λ ys. pure (x ∷ ys))) p.fate }

-- of a refusal the row says nothing
pub fill_any : {d d' : Table} {m : Run (List ℕ)} {w : Refusal} {xs : List ℕ} (ys : List ℕ) → Fills d m (Err w) xs d' → Fills d m (Err w) ys d'
unfolding FateAll
fill_any ys p = record { lent = p.lent; kept = p.kept; fate = p.fate }

-- several nodes, and then the rest
module _ (k : List ℕ → Run ℕ) {m : Run (List ℕ)} {xs : List ℕ} where
  fate_all_then : (d d₁ d₂ : Table) (r : Result ℕ Refusal) → Gives d.bytes.now d.next m xs d₁.next d₁.bytes.now → Fate d₁ (k xs) r d₂ → Fate d (bind m k) r d₂
  unfolding Fate
  fate_all_then d d₁ d₂ (Ok b) g h = gives_then k g h
  fate_all_then d d₁ d₂ (Err w) g h = gives_stop k g h

  pub all_then : {v : Unit {0}} {d d₁ d₂ : Table} {r : Result ℕ Refusal} → Fills d m (Ok v) xs d₁ → Done d₁ (k xs) r d₂ → Done d (bind m k) r d₂
  unfolding FateAll
  all_then {v} {d} {d₁} {d₂} {r} p q = record { lent = q.lent ∙ p.lent; kept = q.kept ∙ p.kept; fate = fate_all_then d d₁ d₂ r p.fate q.fate }

pub all_halt : (k : List ℕ → Run ℕ) {m : Run (List ℕ)} {d d₁ : Table} {xs : List ℕ} {w : Refusal} → Fills d m (Err w) xs d₁ → Done d (bind m k) (Err w) d₁
unfolding Fate FateAll
all_halt k p = record { lent = p.lent; kept = p.kept; fate = stops k p.fate }
