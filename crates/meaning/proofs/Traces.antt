-- A trace that lies in a table of nodes: what its runs come to there, as terms, each node well formed.
-- Assumes nothing.
use Prim.Native.Nat.{ℕ, zero, suc, ◌≤◌, ◌<◌}
use mathlib.Core.Bool.{Bool, true, false}
use mathlib.Core.List.{List, [], ◌∷◌}
use mathlib.Core.Path.{◌≡◌, refl, ap, ap₂}
use native.Mathlib.Omega.{arith}
use lib.Dec.{T, lt→ltb}
use Rattle.laws.specs.Order.{by_lt}
use Rattle.laws.specs.Table.{both, choose}
use Rattle.array.specs.Path.{Side, on_left, on_right}
use Rattle.simplicity.specs.Terms.{Term, iden, unit, injl, injr, take, drop, comp, case, pair, assertl, assertr, fail, witness, scribe, jet}
use Rattle.book.specs.Format.{TYPE, VALUE}
use Rattle.book.specs.Tree.{type_of, value_of}
use Rattle.named.specs.Trace.{Node, Stop, Trace, done, stopped, store, Run, pure, stop, graft, bind, emit}
use Rattle.named.specs.Combinators as node
use Rattle.cells.specs.Entries.{kind_at}
use Rattle.nodes.specs.Given.{Given, holds}
use Rattle.nodes.specs.Nodes.{roles_of, fits, formed}
use Rattle.machine.specs.Run.{left_of, right_of}
use Rattle.agreement.specs.Unfold.{makers, term_to}
use Rattle.meaning.proofs.Terms.{selector, inject, bit}

-- node x stands in the table at number c
pub record Stored (g : Given) (c : ℕ) (x : Node) : Type 0 where
  pub kind : kind_at g.nodes c ≡ x.kind
  pub left : left_of g c ≡ x.left
  pub right : right_of g c ≡ x.right

-- the nodes of a trace stand in the table from number c on, and it comes to a result before number d
pub data Comes (g : Given) {A : Type 0} : ℕ → Trace A → A → ℕ → Type 0 where
  comes_done : {c : ℕ} {a : A} → Comes g c (done a) a c
  comes_store : {c d : ℕ} {x : Node} {t : Trace A} {a : A} → Stored g c x → Comes g (suc c) t a d → Comes g c (store x t) a d

-- node n is a term, however far down it is unfolded
pub record Is (g : Given) (n : ℕ) (t : Term) : Type 0 where
  pub unfolds : (k : ℕ) → n < k → term_to k g n ≡ t

-- a term's node is the last before number d
pub record At (g : Given) (t : Term) (a d : ℕ) : Type 0 where
  pub last : suc a ≡ d
  pub is : Is g a t

-- the nodes from c up to d are well formed
pub record Made (g : Given) (c d : ℕ) : Type 0 where
  pub up : c ≤ d
  pub each : (n : ℕ) → c ≤ n → n < d → T (formed g.book g.nodes n)

-- wherever a run's trace lies in the table from number c on, its nodes are well formed and its result is as Q says
pub record Ran (g : Given) {A : Type 0} (m : Run A) (c : ℕ) (Q : A → ℕ → Type 0) : Type 0 where
  pub made : (a : A) (d : ℕ) → Comes g c (m c) a d → Made g c d
  pub result : (a : A) (d : ℕ) → Comes g c (m c) a d → Q a d

-- two tests that pass, pass together
both_pass : (s t : Bool) → T s → T t → T (both s t)
both_pass true t p q = q
both_pass false t p q = absurd p

-- a node whose operands fit their roles is well formed
stored_formed : (g : Given) (r kind a b c : ℕ) → T (fits g.book (roles_of kind).first c a) → T (fits g.book (roles_of kind).second c b)
    → Stored g c (record { kind = kind; left = a; right = b; source = r }) → T (formed g.book g.nodes c)
unfolding formed
stored_formed g r kind a b c p q s = rw (s.kind, s.left, s.right) (both_pass (fits g.book (roles_of kind).first c a) (fits g.book (roles_of kind).second c b) p q)

-- it is the term that its kind makes
stored_is : (g : Given) (r kind a b c : ℕ) (t : Term) → ((k : ℕ) → c ≤ k → choose (makers g (term_to k g)) kind (λ m. fail) c ≡ t)
    → Stored g c (record { kind = kind; left = a; right = b; source = r }) → (k : ℕ) → c < k → term_to k g c ≡ t
unfolding term_to
stored_is g r kind a b c t m s zero l = absurd (omega arith)
stored_is g r kind a b c t m s (suc k) l = rw s.kind (m k (omega arith))

-- what holds of one node's number and the next one holds of whatever its trace comes to
single : {g : Given} (Q : ℕ → ℕ → Type 0) {x : Node} {c n d : ℕ} → (Stored g c x → Q c (suc c)) → Comes g c (store x (done c)) n d → Q n d
single Q f (comes_store s comes_done) = f s

module _ {g : Given} where
  -- what is known of no node, and of some nodes and the next ones, is known of all of them
  made_none : {c : ℕ} → Made g c c
  made_none = record { up = omega arith; each = λ n l m. absurd (omega arith) }

  made_then : {c d e : ℕ} → Made g c d → Made g d e → Made g c e
  made_then {d = d} p q = record { up = omega (arith, p.up, q.up); each = λ n l m. by_lt n d (λ o. p.each n l o) (λ o. q.each n o m) }

  -- a trace with no node has come to its result; one that stops comes to none
  at_once : {A : Type 0} (Q : A → ℕ → Type 0) {a b : A} {c d : ℕ} → Q a c → Comes g c (done a) b d → Q b d
  at_once Q h comes_done = h

  never : {A : Type 0} {s : Stop} {r c d : ℕ} {a : A} → Comes g c (stopped s r) a d → ⊥
  never h = elim h [ ]

  -- a trace and then another lie one after the other
  splits : {A B : Type 0} (t : Trace A) (k : A → Run B) (c : ℕ) {b : B} {e : ℕ} → Comes g c (graft t k c) b e → (a : A) × (d : ℕ) × Comes g c t a d × Comes g d (k a d) b e
  unfolding graft
  splits (done a) k c h = (a, c, comes_done, h)
  splits (stopped s r) k c h = absurd (never h)
  splits (store x t) k c (comes_store s h) = let z = splits t k (suc c) h in (z.0, z.1, comes_store s z.2, z.3)

  -- a result with no node
  pub ran_pure : {A : Type 0} (a : A) {c : ℕ} {Q : A → ℕ → Type 0} → Q a c → Ran g (pure a) c Q
  unfolding pure
  ran_pure a {c} {Q} h = record { made = λ b d z. at_once (λ x e. Made g c e) made_none z; result = λ b d z. at_once Q h z }

  -- what stops comes to nothing
  pub ran_stop : {A : Type 0} (s : Stop) (r : ℕ) {c : ℕ} {Q : A → ℕ → Type 0} → Ran g {A = A} (stop s r) c Q
  unfolding stop
  ran_stop s r = record { made = λ b d z. absurd (never z); result = λ b d z. absurd (never z) }

  -- one run after another
  pub ran_bind : {A B : Type 0} {m : Run A} {k : A → Run B} {c : ℕ} {P : A → ℕ → Type 0} {Q : B → ℕ → Type 0} → Ran g m c P → ((a : A) (d : ℕ) → c ≤ d → P a d → Ran g (k a) d Q) → Ran g (bind m k) c Q
  unfolding bind
  ran_bind {A} {B} {m} {k} {c} h i = record {
    made = λ b e z.
        let s = splits (m c) k c z in
        let p = h.made s.0 s.1 s.2 in
        made_then p ((i s.0 s.1 p.up (h.result s.0 s.1 s.2)).made b e s.3);
    result = λ b e z.
        let s = splits (m c) k c z in
        (i s.0 s.1 (h.made s.0 s.1 s.2).up (h.result s.0 s.1 s.2)).result b e s.3;
  }

  -- a node whose operands fit their roles, and the term that its kind makes
  ran_emit : (r kind a b : ℕ) {c : ℕ} {t : Term} → T (fits g.book (roles_of kind).first c a) → T (fits g.book (roles_of kind).second c b)
      → (left_of g c ≡ a → right_of g c ≡ b → (k : ℕ) → c ≤ k → choose (makers g (term_to k g)) kind (λ m. fail) c ≡ t)
      → Ran g (emit r kind a b) c (At g t)
  unfolding emit
  ran_emit r kind a b {c} {t} p q m = record {
    made = λ n d z. single (λ x e. Made g c e) (λ s. record {
      up = omega arith;
      each = λ n l o. let e : n ≡ c = omega arith in rw e (stored_formed g r kind a b c p q s);
    }) z;
    result = λ n d z. single (At g t) (λ s. record {
      last = refl;
      is = record { unfolds = stored_is g r kind a b c t (m s.left s.right) s };
    }) z;
  }

  -- an operand that is a child
  child : {a c n : ℕ} {t : Term} → a < c → Is g a t → n ≡ a → (k : ℕ) → c ≤ k → term_to k g n ≡ t
  child l h e k o = rw e (h.unfolds k (omega arith))

  -- a node of each kind
  pub ran_iden : (r c : ℕ) → Ran g (node.iden r) c (At g iden)
  unfolding roles_of fits
  ran_iden r c = ran_emit r node.IDEN 0 0 tt tt (λ p q k o. refl)

  pub ran_unit : (r c : ℕ) → Ran g (node.unit r) c (At g unit)
  unfolding roles_of fits
  ran_unit r c = ran_emit r node.UNIT 0 0 tt tt (λ p q k o. refl)

  pub ran_fail : (r c : ℕ) → Ran g (node.fail r) c (At g fail)
  unfolding roles_of fits
  ran_fail r c = ran_emit r node.FAIL 0 0 tt tt (λ p q k o. refl)

  pub ran_injl : (r : ℕ) {a c : ℕ} {t : Term} → a < c → Is g a t → Ran g (node.injl r a) c (At g (injl t))
  unfolding roles_of fits
  ran_injl r l h = ran_emit r node.INJL _ 0 (lt→ltb _ _ l) tt (λ p q k o. ap injl (child l h p k o))

  pub ran_injr : (r : ℕ) {a c : ℕ} {t : Term} → a < c → Is g a t → Ran g (node.injr r a) c (At g (injr t))
  unfolding roles_of fits
  ran_injr r l h = ran_emit r node.INJR _ 0 (lt→ltb _ _ l) tt (λ p q k o. ap injr (child l h p k o))

  pub ran_take : (r : ℕ) {a c : ℕ} {t : Term} → a < c → Is g a t → Ran g (node.take r a) c (At g (take t))
  unfolding roles_of fits
  ran_take r l h = ran_emit r node.TAKE _ 0 (lt→ltb _ _ l) tt (λ p q k o. ap take (child l h p k o))

  pub ran_drop : (r : ℕ) {a c : ℕ} {t : Term} → a < c → Is g a t → Ran g (node.drop r a) c (At g (drop t))
  unfolding roles_of fits
  ran_drop r l h = ran_emit r node.DROP _ 0 (lt→ltb _ _ l) tt (λ p q k o. ap drop (child l h p k o))

  pub ran_assertl : (r : ℕ) {a c : ℕ} {t : Term} (s : ℕ) → a < c → Is g a t → Ran g (node.assertl r a s) c (At g (assertl t s))
  unfolding roles_of fits
  ran_assertl r s l h = ran_emit r node.ASSERTL _ s (lt→ltb _ _ l) tt (λ p q k o. ap₂ assertl (child l h p k o) q)

  pub ran_assertr : (r : ℕ) {a c : ℕ} {t : Term} (s : ℕ) → a < c → Is g a t → Ran g (node.assertr r s a) c (At g (assertr s t))
  unfolding roles_of fits
  ran_assertr r s l h = ran_emit r node.ASSERTR s _ tt (lt→ltb _ _ l) (λ p q k o. ap₂ assertr p (child l h q k o))

  pub ran_comp : (r : ℕ) {a b c : ℕ} {s t : Term} → a < c → Is g a s → b < c → Is g b t → Ran g (node.comp r a b) c (At g (comp s t))
  unfolding roles_of fits
  ran_comp r l h m i = ran_emit r node.COMP _ _ (lt→ltb _ _ l) (lt→ltb _ _ m) (λ p q k o. ap₂ comp (child l h p k o) (child m i q k o))

  pub ran_case : (r : ℕ) {a b c : ℕ} {s t : Term} → a < c → Is g a s → b < c → Is g b t → Ran g (node.case r a b) c (At g (case s t))
  unfolding roles_of fits
  ran_case r l h m i = ran_emit r node.CASE _ _ (lt→ltb _ _ l) (lt→ltb _ _ m) (λ p q k o. ap₂ case (child l h p k o) (child m i q k o))

  pub ran_pair : (r : ℕ) {a b c : ℕ} {s t : Term} → a < c → Is g a s → b < c → Is g b t → Ran g (node.pair r a b) c (At g (pair s t))
  unfolding roles_of fits
  ran_pair r l h m i = ran_emit r node.PAIR _ _ (lt→ltb _ _ l) (lt→ltb _ _ m) (λ p q k o. ap₂ pair (child l h p k o) (child m i q k o))

  pub ran_witness : (r x t c : ℕ) → T (holds g.book TYPE t) → Ran g (node.witness r x t) c (At g (witness x (type_of g.book.bytes g.book.index t)))
  unfolding roles_of fits
  ran_witness r x t c h = ran_emit r node.WITNESS x t tt h (λ p q k o. ap₂ witness p (ap (type_of g.book.bytes g.book.index) q))

  pub ran_scribe : (r v c : ℕ) → T (holds g.book VALUE v) → Ran g (node.scribe r v) c (At g (scribe (value_of g.book.bytes g.book.index v)))
  unfolding roles_of fits
  ran_scribe r v c h = ran_emit r node.SCRIBE v 0 h tt (λ p q k o. ap (λ (x : ℕ). scribe (value_of g.book.bytes g.book.index x)) p)

  pub ran_jet : (r j c : ℕ) → j < 11 → Ran g (node.jet r j) c (At g (jet j))
  unfolding roles_of fits
  ran_jet r j c h = ran_emit r node.JET j 0 (lt→ltb j 11 h) tt (λ p q k o. ap jet p)

  -- a bit
  pub ran_bit : (r : ℕ) (b : Bool) (c : ℕ) → Ran g (node.bit r b) c (At g (bit b))
  unfolding node.bit
  ran_bit r true c = ran_bind (ran_unit r c) (λ a d l h. ran_injr r (omega (arith, h.last)) h.is)
  ran_bit r false c = ran_bind (ran_unit r c) (λ a d l h. ran_injl r (omega (arith, h.last)) h.is)

  -- a node wrapped along a path is the term w of that path, where it is w of no turn and each kind of node adds its turn to w
  ran_wraps : (r p q : ℕ) (w : List Side → Term) → ((ks : List Side) (b d : ℕ) → b < d → Is g b (w ks) → Ran g (emit r p b 0) d (At g (w (on_left ∷ ks))))
      → ((ks : List Side) (b d : ℕ) → b < d → Is g b (w ks) → Ran g (emit r q b 0) d (At g (w (on_right ∷ ks))))
      → (ks : List Side) {a c : ℕ} → suc a ≡ c → Is g a (w []) → Ran g (node.wraps r (node.kinds p q ks) a) c (At g (w ks))
  unfolding node.wraps
  ran_wraps r p q w m n [] {a} l h = ran_pure a (record { last = l; is = h })
  ran_wraps r p q w m n (on_left ∷ ks) l h = ran_bind (ran_wraps r p q w m n ks l h) (λ b d o i. m ks b d (omega (arith, i.last)) i.is)
  ran_wraps r p q w m n (on_right ∷ ks) l h = ran_bind (ran_wraps r p q w m n ks l h) (λ b d o i. n ks b d (omega (arith, i.last)) i.is)

  -- the selector of a path
  pub ran_select : (r : ℕ) (ks : List Side) (c : ℕ) → Ran g (node.select r (node.kinds node.TAKE node.DROP ks)) c (At g (selector ks))
  unfolding node.select selector
  ran_select r ks c = ran_bind (ran_iden r c) (λ a d l h. ran_wraps r node.TAKE node.DROP selector (λ js b d. ran_take r) (λ js b d. ran_drop r) ks h.last h.is)

  -- a payload behind its path
  pub ran_inject : (r : ℕ) (ks : List Side) {a c : ℕ} {t : Term} → suc a ≡ c → Is g a t → Ran g (node.wraps r (node.kinds node.INJL node.INJR ks) a) c (At g (inject ks t))
  unfolding inject
  ran_inject r ks {t = t} l h = ran_wraps r node.INJL node.INJR (λ js. inject js t) (λ js b d. ran_injl r) (λ js b d. ran_injr r) ks l h
