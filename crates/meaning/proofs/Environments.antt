-- What is in scope, twice, is the same: the path to a name leads in the input to the value that the name has, which is of the name's type.
-- Assumes nothing.
use Prim.Native.Nat.{ℕ, zero, suc, ◌+◌, ◌<◌}
use mathlib.Core.Bool.{Bool, true, false}
use mathlib.Core.List.{List, [], ◌∷◌, ◌++◌, append-nil, append_assoc}
use mathlib.Core.Option.{Option, some, none, some-injective, none-ne-some}
use mathlib.Core.Path.{◌≡◌, refl, sym, ap, subst, ◌∙◌}
use native.Mathlib.Omega.{arith}
use lib.Dec.{eqb, eqb-suc-zero}
use lib.ListN.{length, get_or}
use Rattle.laws.specs.Rows.{each_length}
use Rattle.laws.specs.Table.{pick, true_false}
use Rattle.array.specs.Path.{Side, on_left, on_right, path}
use Rattle.array.proofs.Paths.{path_leads}
use Rattle.simplicity.specs.Types.{Ty}
use Rattle.simplicity.specs.Values.{Value, unit, pair, Of, of_unit, of_left, of_right, of_pair}
use Rattle.simplicity.specs.Outcomes.{Outcome, value, stuck}
use Rattle.simplicity.specs.Meaning.{Witnesses, eval}
use Rattle.book.proofs.Picks.{both_true}
use Rattle.book.specs.Tree.{Pat, name, ignore, pat_row, Pats, no_pats, more_pats, Param}
use Rattle.pattern.specs.Find.{size, within, find, find_from, called, params_pattern}
use Rattle.scope_bindings.specs.Scope as scope
use Rattle.scope_bindings.specs.Scope.{reach, through, lookup_from}
use Rattle.shapes.specs.Shapes.{products, side_of, onward, leads, place_of, row_type, param_types}
use Rattle.binders.specs.Binders.{fits, fits_from, Binding, binding, root_scope, seek, type_for}
use Rattle.meaning.specs.Source.{Held, held, lookup, row_value, half, element_at, together, bound, bound_from, given}
use Rattle.meaning.proofs.Terms.{selector, fetch}
use Rattle.meaning.proofs.Agreeing.{Agrees, AllOf, each_of, row_of}
use Rattle.meaning.proofs.Scopes.{Matches, at_root, at_newer, patterns}

-- where something is made of an option, and it is not what is made of none, there is one
some_made : {A B : Type 0} (o : Option A) (f : A → B) {d b : B} → (d ≡ b → ⊥) → elim o [ some a ↦ f a | none ↦ d ] ≡ b → (a : A) × (o ≡ some a) × (f a ≡ b)
some_made (some a) f n e = (a, refl, e)
some_made none f n e = absurd (n e)

-- what stands in v at the end of a path, of type u; the path's selector reads it
record Element (ks : List Side) (v : Value) (u : Ty) : Type 0 where
  pub element : Value
  pub is : element_at ks v ≡ some element
  pub reads : (ws : Witnesses) → eval ws (selector ks) v ≡ value element
  pub typed : Of element u

-- where a path leads in a type, there stands something in each of its values
along : (ks : List Side) {t u : Ty} {v : Value} → leads products ks t ≡ some u → Of v t → Element ks v u
unfolding leads onward side_of element_at half selector eval
along [] {v = v} e h = record { element = v; is = refl; reads = λ ws. refl; typed = subst (Of v) (some-injective _ _ e) h }
along (on_left ∷ ks) e of_unit = absurd (none-ne-some _ e)
along (on_left ∷ ks) e (of_left h) = absurd (none-ne-some _ e)
along (on_left ∷ ks) e (of_right h) = absurd (none-ne-some _ e)
along (on_left ∷ ks) e (of_pair h l) = let s = along ks e h in record { element = s.element; is = s.is; reads = s.reads; typed = s.typed }
along (on_right ∷ ks) e of_unit = absurd (none-ne-some _ e)
along (on_right ∷ ks) e (of_left h) = absurd (none-ne-some _ e)
along (on_right ∷ ks) e (of_right h) = absurd (none-ne-some _ e)
along (on_right ∷ ks) e (of_pair h l) = let s = along ks e l in record { element = s.element; is = s.is; reads = s.reads; typed = s.typed }

-- a path that goes on
onto : (ks ls : List Side) (v : Value) {w : Value} → element_at ks v ≡ some w → element_at (ks ++ ls) v ≡ element_at ls w
unfolding element_at
onto [] ls v e = ap (element_at ls) (some-injective _ _ e)
onto (k ∷ ks) ls v e =
    let x = some_made (half k v) (element_at ks) (none-ne-some _) e in
    rw (x.1, element_at) (onto ks ls x.0 x.2)

-- a row fits where its elements do
fits_row : (ps : Pats) (t : Ty) → fits (pat_row ps) t ≡ true → fits_from (size ps) zero ps t ≡ true
unfolding fits size
fits_row no_pats t e = refl
fits_row (more_pats p ps) t e = rw (eqb-suc-zero (size ps)) at e

mutual
  unfolding fits bound

  -- a pattern that fits a type binds each of its values
  pub fits_bound : (p : Pat) (t : Ty) (v : Value) → fits p t ≡ true → Of v t → (hs : List Held) × (bound p v ≡ some hs)
  fits_bound (name x) t v e h = (held x v ∷ [], refl)
  fits_bound ignore t v e h = ([], refl)
  fits_bound (pat_row ps) t v e h = fits_from_lem (size ps) zero ps t v (fits_row ps t e) h

  -- so do its elements from k of n on
  fits_from_lem : (n k : ℕ) (ps : Pats) (t : Ty) (v : Value) → fits_from n k ps t ≡ true → Of v t → (hs : List Held) × (bound_from n k ps v ≡ some hs)
  fits_from_lem n k no_pats t v e h = ([], refl)
  fits_from_lem n k (more_pats p ps) t v e h =
      let b = both_true (elim (place_of products n k t) [ some s ↦ fits p s | none ↦ false ]) (fits_from n (suc k) ps t) e in
      let s = some_made (place_of products n k t) (fits p) (λ z. true_false (sym z)) b.0 in
      let w = along (path n k) s.1 h in
      let l = fits_bound p s.0 w.element s.2 w.typed in
      let r = fits_from_lem n (suc k) ps t v b.1 h in
      (l.0 ++ r.0, rw (w.is, l.1, r.1))

-- what a path reads; what a name is, by its path in a pattern that took v apart, or else o
abbrev read : Option Value → Outcome
read (some w) = value w
read none = stuck

abbrev seen : Option (List Side) → Value → Outcome → Outcome
seen (some ks) v o = read (element_at ks v)
seen none v o = o

-- a name in an element of a row is there in the row
seen_within : (n k : ℕ) (o q : Option (List Side)) (v : Value) {w : Value} (z : Outcome) → element_at (path n k) v ≡ some w → seen o w (seen q v z) ≡ seen (within n k o q) v z
unfolding within
seen_within n k (some ks) q v z e = ap read (sym (onto (path n k) ks v e))
seen_within n k none q v z e = refl

-- two rows in one
together_both : {A : Type 0} (o q : Option (List A)) {zs : List A} → together o q ≡ some zs → (xs : List A) × (ys : List A) × (o ≡ some xs) × (q ≡ some ys) × (zs ≡ xs ++ ys)
together_both (some xs) (some ys) e = (xs, ys, refl, refl, sym (some-injective _ _ e))
together_both (some xs) none e = absurd (none-ne-some _ e)
together_both none q e = absurd (none-ne-some _ e)

-- the one name of a pattern
sees_name : (x y : ℕ) (v : Value) (env : List Held) → lookup x (held y v ∷ env) ≡ seen (find x (name y)) v (lookup x env)
unfolding lookup find element_at
sees_name x y v env = go (eqb y x)
  where
    go : (b : Bool) → pick b (value v) (lookup x env) ≡ seen (pick b (some []) none) v (lookup x env)
    go true = refl
    go false = refl

mutual
  unfolding bound find

  -- a name has the value at its path in the pattern; a name that the pattern has not is an older one
  sees : (p : Pat) (v : Value) {hs : List Held} (env : List Held) (x : ℕ) → bound p v ≡ some hs → lookup x (hs ++ env) ≡ seen (find x p) v (lookup x env)
  sees (name y) v env x e = rw (← (some-injective _ _ e)) (sees_name x y v env)
  sees ignore v env x e = rw (← (some-injective _ _ e))
  sees (pat_row ps) v env x e = sees_from (size ps) zero ps v env x e

  -- so in the elements from k of n on
  sees_from : (n k : ℕ) (ps : Pats) (v : Value) {hs : List Held} (env : List Held) (x : ℕ) → bound_from n k ps v ≡ some hs → lookup x (hs ++ env) ≡ seen (find_from x n k ps) v (lookup x env)
  sees_from n k no_pats v env x e = rw (← (some-injective _ _ e))
  sees_from n k (more_pats p ps) v env x e =
      let b = together_both (elim (element_at (path n k) v) [ some w ↦ bound p w | none ↦ none ]) (bound_from n (suc k) ps v) e in
      let w = some_made (element_at (path n k) v) (bound p) (none-ne-some _) b.2 in
      rw (b.4, append_assoc b.0 b.1 env, sees p w.0 (b.1 ++ env) x w.2, sees_from n (suc k) ps v env x b.3)
      (seen_within n k (find x p) (find_from x n (suc k) ps) v (lookup x env) w.1)

-- one more binding: one more step to the right
older : (ws : Witnesses) (m x : ℕ) (ps : List Pat) (v w : Value) → eval ws (fetch (lookup_from (suc m) x ps)) (pair v w) ≡ eval ws (fetch (lookup_from m x ps)) w
unfolding lookup_from through reach fetch selector eval
older ws m x [] v w = refl
older ws m x (p ∷ ps) v w = go (older ws (suc m) x ps v w) (length ps) (find x p)
  where
    go : eval ws (fetch (lookup_from (suc (suc m)) x ps)) (pair v w) ≡ eval ws (fetch (lookup_from (suc m) x ps)) w → (n : ℕ) (o : Option (List Side)) → eval ws (fetch (through (suc m) n o (lookup_from (suc (suc m)) x ps))) (pair v w) ≡ eval ws (fetch (through m n o (lookup_from (suc m) x ps))) w
    go e n none = e
    go e zero (some ks) = refl
    go e (suc n) (some ks) = refl

-- a scope has a root
rooted : {sc : List Binding} {v : Value} {env : List Held} → Matches sc v env → (n : ℕ) × (length (patterns sc) ≡ suc n)
rooted (at_root h b) = (zero, refl)
rooted (at_newer {sc = sc} h b m) = (length (patterns sc), refl)

module _ {M : Type 0} {ws : Witnesses} where
  -- a name at its path in a pattern
  finds_here : (p : Pat) (ks : List Side) (x : ℕ) {t u : Ty} {v : Value} {hs : List Held} (env : List Held) → find x p ≡ some ks → leads products ks t ≡ some u → Of v t → bound p v ≡ some hs → Agrees M ws (selector ks) v (lookup x (hs ++ env)) u
  finds_here p ks x {v = v} {hs = hs} env f l h b =
      let s = along ks l h in
      let e : lookup x (hs ++ env) ≡ value s.element = sees p v env x b ∙ rw (f, s.is) in
      record { same = s.reads ws ∙ sym e; fine = rw e s.typed }

  -- a name that has a type has a value of it, which its path reads
  pub finds : {sc : List Binding} {v : Value} {env : List Held} → Matches sc v env → (x : ℕ) (t : Ty) → type_for x sc ≡ some t → Agrees M ws (fetch (scope.lookup x (patterns sc))) v (lookup x env) t
  unfolding type_for seek lookup_from through reach fetch selector eval
  finds (at_root {p = p} {t = t} {v = v} {hs = hs} h b) x u = go (find x p) refl
    where
      go : (o : Option (List Side)) → find x p ≡ o → seek o t none ≡ some u → Agrees M ws (fetch (through 0 0 o none)) v (lookup x hs) u
      go (some ks) f l = rw (append-nil hs) at (finds_here p ks x [] f l h b)
      go none f l = absurd (none-ne-some _ l)
  finds (at_newer {p = p} {t = t} {v = v} {w = w} {hs = hs} {env = env} {sc = sc} h b m) x u = go (finds m x u) (rooted m) (find x p) refl
    where
      go : (type_for x sc ≡ some u → Agrees M ws (fetch (scope.lookup x (patterns sc))) w (lookup x env) u) → (n : ℕ) × (length (patterns sc) ≡ suc n) → (o : Option (List Side)) → find x p ≡ o → seek o t (type_for x sc) ≡ some u → Agrees M ws (fetch (through 0 (length (patterns sc)) o (lookup_from 1 x (patterns sc)))) (pair v w) (lookup x (hs ++ env)) u
      go i n (some ks) f l =
          let a = finds_here p ks x env f l h b in
          rw n.1 (record { same = a.same; fine = a.fine })
      go i n none f l =
          let a = i l in
          let e : lookup x (hs ++ env) ≡ lookup x env = sees p v env x b ∙ rw f in
          rw e (record { same = older ws 0 x (patterns sc) v w ∙ a.same; fine = a.fine })

-- element k of a row stands at its path
elements_row : (vs : List Value) (k : ℕ) → k < length vs → element_at (path (length vs) k) (row_value vs) ≡ some (get_or vs k unit)
unfolding element_at half
elements_row = path_leads unit pair (λ a p x. element_at p a ≡ some x) (λ x. refl) (λ a b x p h. h) (λ a b x p h. h)

-- there are as many parameters as names and types
size_called : (ps : List Param) → size (called ps) ≡ length ps
unfolding size called
size_called [] = refl
size_called (p ∷ ps) = ap suc (size_called ps)

length_types : (ps : List Param) → length (param_types ps) ≡ length ps
unfolding param_types
length_types [] = refl
length_types (p ∷ ps) = ap suc (length_types ps)

-- the parameters from k of n on
given_from : (ps : List Param) (vs : List Value) (n k : ℕ) (v : Value) → length vs ≡ length ps → ((j : ℕ) → j < length vs → element_at (path n (k + j)) v ≡ some (get_or vs j unit)) → bound_from n k (called ps) v ≡ some (given ps vs)
unfolding bound called given
given_from [] vs n k v z h = refl
given_from (p ∷ ps) [] n k v z h = absurd (omega arith)
given_from (p ∷ ps) (w ∷ vs) n k v z h =
    let here : k + 0 ≡ k = omega arith in
    let first : element_at (path n k) v ≡ some w = rw here at (h 0 (omega arith)) in
    let rest : bound_from n (suc k) (called ps) v ≡ some (given ps vs) = given_from ps vs n (suc k) v (omega arith) (λ j o. let there : k + suc j ≡ suc k + j = omega arith in rw there at (h (suc j) (omega arith))) in
    rw (first, rest)

-- the values that a function is given are its parameters'
pub params_match : (ps : List Param) (vs : List Value) → AllOf vs (param_types ps) → Matches (binding (params_pattern ps) (row_type (param_types ps)) ∷ []) (row_value vs) (given ps vs)
unfolding bound
params_match ps vs h =
    let many : length vs ≡ length ps = each_length Of vs (param_types ps) (each_of h) ∙ length_types ps in
    at_root (row_of h) (ap (λ n. bound_from n 0 (called ps) (row_value vs)) (size_called ps ∙ sym many) ∙ given_from ps vs (length vs) 0 (row_value vs) many (λ j o. let z : 0 + j ≡ j = omega arith in rw z (elements_row vs j o)))

-- a program begins with unit, and with no name
pub root_matches : Matches root_scope unit []
unfolding bound
root_matches = at_root of_unit refl
