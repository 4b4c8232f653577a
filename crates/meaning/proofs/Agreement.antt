-- What a typed expression is lowered to makes of the input what the source means where the input matches the names in scope: with symbols and without.
-- Assumes nothing.
use Prim.Native.Nat.{ℕ, zero, suc, ◌-◌, ◌^◌, ◌<◌}
use mathlib.Core.Bool.{Bool, true}
use mathlib.Core.List.{List, [], ◌∷◌, ◌++◌}
use mathlib.Core.Path.{◌≡◌, refl, sym, ap, subst, ◌∙◌}
use native.Mathlib.Omega.{arith}
use lib.ListN.{length}
use Rattle.array.specs.Split.{top_of}
use Rattle.array.specs.Path.{path}
use Rattle.array.specs.Split.{not_below, least_power, split_of}
use Rattle.array.specs.Parts.{parts_in, by_parts}
use Rattle.array.specs.Row.{row}
use Rattle.simplicity.specs.Types.{Ty, one, sum, word_of}
use Rattle.simplicity.specs.Values.{Value, pair, word, Of}
use Rattle.simplicity.specs.Outcomes.{Outcome, value, failed, stuck, missing}
use Rattle.simplicity.specs.Terms.{Term}
use Rattle.simplicity.specs.Terms as terms
use Rattle.simplicity.specs.Meaning.{Witnesses, eval}
use Rattle.simplicity.specs.Typing.{Has}
use Rattle.simplicity.proofs.Safe.{same_is}
use Rattle.book.proofs.Picks.{both_true}
use Rattle.book.specs.Tree.{Pat, Expr, constant, witness, variable, tuple, list, in_left, in_right, variant, block, match, match_enum, jet, unwrap_left, unwrap_right, debug, assert, panic, is_none, cast, call, list_fold, array_fold, for_while, hash, no_expr, Exprs, no_exprs, more_exprs, Arms, no_arms, more_arms, Parts, no_parts, more_parts, Stmts, assign, does, end, no_end, Fun, fun}
use Rattle.compile.specs.Lower.{widths}
use Rattle.shapes.specs.Shapes.{type_is, types, arm_types, end_type, takes, gives, whole, all_are, row_type}
use Rattle.binders.specs.Binders.{Binding, binding, scope_in}
use Rattle.typing.specs.Check.{arm_count}
use Rattle.typing.specs.Typed.{Bindable, Typed, AllTyped, WordsTyped, ArmsTyped, RunTyped, FunTyped}
use Rattle.meaning.specs.Source.{Held, row_value, bound, counted, mean, means, words, arms, run, apply}
use Rattle.meaning.specs.Source as source
use Rattle.meaning.proofs.Terms.{loop, compile, compiles, compile_words, compile_arms, compile_run, compile_fun}
use Rattle.meaning.proofs.Agreeing.{Fine, Agrees, AgreesAll, no_more, and_more, AllOf, no_values, and_values}
use Rattle.meaning.proofs.Scopes.{Matches, at_newer, patterns}
use Rattle.meaning.proofs.Sound.{Bound, Sound, Sounds, SoundParts, SoundArms, SoundRun, SoundFun}
use Rattle.meaning.proofs.Declarations.{at_left, at_right, is_sum, is_variant, same_all_lem, all_are_lem, is_list, is_fold, is_loop}
use Rattle.meaning.proofs.Calls.{then_value, agree_called, agree_called_pair, agree_beside, agree_followed, agree_left, agree_right, agree_iden, agree_value, agree_unit, agree_fail, agree_unwrap_left, agree_unwrap_right, agree_is_none, agree_assert, agree_jet, agree_hash}
use Rattle.meaning.proofs.Rows.{agree_row, agree_called_row, agree_list, agree_variant_row}
use Rattle.meaning.proofs.Environments.{fits_bound, finds, params_match}
use Rattle.meaning.proofs.Choices.{ArmsAgree, no_arms_agree, more_arms_agree, agree_match_enum, agree_match}
use Rattle.meaning.proofs.Folds.{agree_list_fold, agree_array_fold}
use Rattle.meaning.proofs.Loops.{agree_loop}

-- rows of two and of three
row_two : (x c : Value) → row_value (x ∷ c ∷ []) ≡ pair x c
unfolding row by_parts parts_in split_of least_power not_below
row_two x c = refl

row_three : (x c n : Value) → row_value (x ∷ c ∷ n ∷ []) ≡ pair x (pair c n)
unfolding row by_parts parts_in split_of least_power not_below
row_three x c n = refl

module _ {M : Type 0} {ws : Witnesses} where
  -- a type by another name
  retyped : {p : Term} {v : Value} {o : Outcome} {a b : Ty} → Agrees M ws p v o a → a ≡ b → Agrees M ws p v o b
  retyped {p} {v} {o} h e = subst (Agrees M ws p v o) e h

  -- a witness that is given
  supplied : (x : ℕ) (t : Ty) (v : Value) → Has (ws x t) t → Agrees M ws (terms.witness x t) v (ws x t) t
  unfolding eval
  supplied x t v h = record { same = refl; fine = go (ws x t) h }
    where
      go : (o : Outcome) → Has o t → Fine M o t
      go (value w) i = i
      go failed i = absurd i
      go stuck i = absurd i
      go missing i = absurd i

  -- what follows a binding agrees where it does with the names that are bound
  bound_agrees : {sc : List Binding} {v : Value} {env : List Held} {p : Pat} {t b : Ty} {q : Term} {k : List Held → Outcome} → Bindable p t → Matches sc v env
      → ((x : Value) (names : List Held) → Matches (binding p t ∷ sc) (pair x v) names → Agrees M ws q (pair x v) (k names) b)
      → (x : Value) → Of x t → Agrees M ws q (pair x v) (source.binding (bound p x) env k) b
  bound_agrees {env = env} {p = p} {t = t} h m i x o =
      let f = fits_bound p t x h.fit o in
      rw f.1 (i x (f.0 ++ env) (at_newer o f.1 m))

  -- a function of two, of three
  of_two : {g : Term} {f : List Value → Outcome} {ts : List Ty} {u a b : Ty} → ((vs : List Value) → AllOf vs ts → Agrees M ws g (row_value vs) (f vs) u) → ts ≡ a ∷ b ∷ [] → u ≡ b
      → (x c : Value) → Of x a → Of c b → Agrees M ws g (pair x c) (f (x ∷ c ∷ [])) b
  of_two h e z x c o q = rw (← row_two x c, ← z) (h (x ∷ c ∷ []) (rw e (and_values o (and_values q no_values))))

  of_three : {g : Term} {f : List Value → Outcome} {ts : List Ty} {u a b d : Ty} → ((vs : List Value) → AllOf vs ts → Agrees M ws g (row_value vs) (f vs) u) → ts ≡ a ∷ b ∷ d ∷ []
      → (x c n : Value) → Of x a → Of c b → Of n d → Agrees M ws g (pair x (pair c n)) (f (x ∷ c ∷ n ∷ [])) u
  of_three h e x c n o q i = rw (← row_three x c n) (h (x ∷ c ∷ n ∷ []) (rw e (and_values o (and_values q (and_values i no_values)))))

  -- a loop whose width is a power of two
  looped : (w k : ℕ) → w ≡ 2 ^ k → {t : Term} {f : Value → Value → Outcome} {a r : Ty} (y : Value)
      → ((c n : Value) → Of c a → Of n (word_of k) → Agrees M ws t (pair c (pair y n)) (f c n) (sum r a))
      → (c : Value) → Of c a → Agrees M ws (loop k t) (pair c y) (counted (λ z i. f z (word k i)) zero (2 ^ w) c) (sum r a)
  looped w k e y h c o = rw e (agree_loop k y h c o)

-- a bound as a power of two
within : (n l : ℕ) → Bound n → l < n → l < 2 ^ suc (top_of n - 1)
within n l b h =
    let z : top_of n ≡ suc (top_of n - 1) = omega (arith, b.two) in
    subst (λ (m : ℕ). l < m) (b.is ∙ ap (λ (k : ℕ). 2 ^ k) z) h

-- the types of a hash's words; an arm's meaning for each arm
unfoldable word_types : Parts → List Ty
word_types no_parts = []
word_types (more_parts w e ps) = type_is e ∷ word_types ps

pub arms_count : (ws : Witnesses) (cs : Arms) (env : List Held) → length (arms ws cs env) ≡ arm_count cs
unfolding mean arm_count
arms_count ws no_arms env = refl
arms_count ws (more_arms p e cs) env = ap suc (arms_count ws cs env)

-- each witness is given and of its type; y says whether symbols are asked for
module _ {M : Type 0} {ws : Witnesses} (C : ℕ → Value → Type 0) (W : Ty → ℕ → ℕ → Type 0) (has : (t : Ty) (k x : ℕ) → W t k x → Has (ws x t) t) (y : Bool) where
  mutual
    unfolding compile mean Typed Sound type_is types arm_types end_type whole takes gives word_types scope_in

    pub agree : (e : Expr) {sc : List Binding} {v : Value} {env : List Held} → Matches sc v env → Typed sc e → Sound C W M e → Agrees M ws (compile y e (patterns sc)) v (mean ws e env) (type_is e)
    agree (constant r t v u w) m h s = retyped (agree_value h.0) (same_is u t h.1)
    agree (witness r t k x) m h s = supplied x t _ (has t k x s)
    agree (variable r t x) m h s = finds m x t h
    agree (tuple r t es) m h s = retyped (agree_row (agree_all es m h.0 s)) (sym (same_is t _ h.1))
    agree (list r t n es) m h s =
        let i = is_list n t (types es) _ h.1 in
        retyped (agree_list (top_of n - 1) i.0 (agree_all es m h.0 s.2) i.2 (within n _ s.0 s.1)) (sym i.1)
    agree (in_left r t e) m h s = let i = at_left t (type_is e) h.1 in retyped (agree_left (agree e m h.0 s)) (sym i.1)
    agree (in_right r t e) m h s = let i = at_right t (type_is e) h.1 in retyped (agree_right (agree e m h.0 s)) (sym i.1)
    agree (variant r t k n es) m h s = agree_variant_row (path n k) t (is_variant n k t (row_type (types es)) h.1) (agree_all es m h.0 s.1)
    agree (block r t ss) m h s = retyped (agree_run ss m h.0 s) (same_is (end_type ss) t h.1)
    agree (match r t e p l q g) m h s =
        let i = all_are_lem t (type_is l) (type_is g ∷ []) h.6 in
        let j = all_are_lem t (type_is g) [] i.1 in
        agree_beside (agree e m h.5 s.0)
        (agree_match h.0
        (bound_agrees h.1 m (λ x names n. retyped (agree l n h.2 s.1) i.0))
        (bound_agrees h.3 m (λ x names n. retyped (agree g n h.4 s.2) j.0)))
    agree (match_enum r t e cs) m h s = agree_beside (agree e m h.2 s.1) (agree_match_enum (arm_count cs) (arms_count ws cs _) s.0 h.0 (agree_arms cs _ zero _ t m h.1 s.2 h.3))
    agree (jet r t z j es) m h s =
        let i = both_true _ _ h.1 in
        retyped (agree_called_row y z (agree_all es m h.0 s.1) (λ vs o. agree_jet j s.0 (subst (AllOf vs) (same_all_lem (types es) _ i.0) o))) (sym (same_is t _ i.1))
    agree (unwrap_left r t z e) m h s = let i = at_left (type_is e) t h.1 in agree_called y z (retyped (agree e m h.0 s) i.1) (λ x o. agree_unwrap_left o)
    agree (unwrap_right r t z e) m h s = let i = at_right (type_is e) t h.1 in agree_called y z (retyped (agree e m h.0 s) i.1) (λ x o. agree_unwrap_right o)
    agree (debug r t z e) m h s = retyped (rw then_value at (agree_called y z (agree e m h.0 s) (λ x o. agree_iden o))) (same_is (type_is e) t h.1)
    agree (assert r t z e) m h s =
        let i = both_true _ _ h.1 in
        retyped (agree_called y z (retyped (agree e m h.0 s) (same_is (type_is e) _ i.0)) (λ x o. agree_assert o)) (sym (same_is t one i.1))
    agree (panic r t z) m h s = agree_called y z agree_unit (λ x o. agree_fail)
    agree (is_none r t e) m h s =
        let i = both_true _ _ h.1 in
        let j = is_sum (type_is e) i.0 in
        retyped (agree_called y 0 (retyped (agree e m h.0 s) j.2) (λ x o. agree_is_none o)) (sym (same_is t _ i.1))
    agree (cast r t e) m h s = retyped (agree e m h.0 s) (same_is (type_is e) t h.1)
    agree (call r t f es) m h s =
        let i = both_true _ _ h.2 in
        retyped (agree_called_row y 0 (agree_all es m h.0 s.1) (λ vs o. serves f h.1 s.0 vs (subst (AllOf vs) (same_all_lem (types es) (takes f) i.0) o))) (sym (same_is t _ i.1))
    agree (list_fold r t f n e a) m h s =
        let i = is_fold _ (takes f) (gives f) t (type_is e) (type_is a) h.3 in
        agree_called_pair y 0 (retyped (agree e m h.0 s.2) i.goes) (retyped (agree a m h.1 s.3) i.starts)
        (λ x z o q. agree_list_fold (top_of n - 1) (of_two (λ vs b. serves f h.2 s.1 vs b) i.takes i.gives) x z o q)
    agree (array_fold r t f n e a) m h s =
        let i = is_fold _ (takes f) (gives f) t (type_is e) (type_is a) h.3 in
        agree_called_pair y 0 (retyped (agree e m h.0 s.2) i.goes) (retyped (agree a m h.1 s.3) i.starts)
        (λ x z o q. agree_array_fold n s.0 (of_two (λ vs b. serves f h.2 s.1 vs b) i.takes i.gives) x z o q)
    agree (for_while r t f w a x) m h s =
        let i = is_loop w (takes f) (gives f) t (type_is a) (type_is x) h.3 in
        let turns = of_three (λ vs b. serves f h.2 s.1 vs b) i.takes in
        retyped
        (agree_called_pair y 0 (agree a m h.0 s.2) (agree x m h.1 s.3)
        (λ c z o q. looped w (top_of w) s.0 z (λ d n u l. retyped (turns d z n u q l) (i.gives ∙ i.sums)) c o))
        (sym i.sums)
    agree (hash r t z ps) m h s = agree_called_row y z (agree_words ps m h.0 s.1) (λ vs o. agree_hash s.0 (widths ps) (row_value vs) t)
    agree no_expr m h s = absurd h

    agree_all : (es : Exprs) {sc : List Binding} {v : Value} {env : List Held} → Matches sc v env → AllTyped sc es → Sounds C W M es → AgreesAll M ws v (compiles y es (patterns sc)) (means ws es env) (types es)
    agree_all no_exprs m h s = no_more
    agree_all (more_exprs e es) m h s = and_more (agree e m h.0 s.0) (agree_all es m h.1 s.1)

    agree_words : (ps : Parts) {sc : List Binding} {v : Value} {env : List Held} → Matches sc v env → WordsTyped sc ps → SoundParts C W M ps → AgreesAll M ws v (compile_words y ps (patterns sc)) (words ws ps env) (word_types ps)
    agree_words no_parts m h s = no_more
    agree_words (more_parts w e ps) m h s = and_more (agree e m h.0 s.0) (agree_words ps m h.1 s.1)

    agree_arms : (cs : Arms) (n k : ℕ) (u t : Ty) {sc : List Binding} {v : Value} {env : List Held} → Matches sc v env → ArmsTyped n k u sc cs → SoundArms C W M cs → all_are t (arm_types cs) ≡ true → ArmsAgree M ws v n u t k (compile_arms y cs (patterns sc)) (arms ws cs env)
    agree_arms no_arms n k u t m h s e = no_arms_agree
    agree_arms (more_arms p e cs) n k u t m h s q =
        let i = all_are_lem t (type_is e) (arm_types cs) q in
        more_arms_agree (bound_agrees h.0 m (λ x names l. retyped (agree e l h.1 s.0) i.0)) (agree_arms cs n (suc k) u t m h.2 s.1 i.1)

    agree_run : (ss : Stmts) {sc : List Binding} {v : Value} {env : List Held} → Matches sc v env → RunTyped sc ss → SoundRun C W M ss → Agrees M ws (compile_run y ss (patterns sc)) v (run ws ss env) (end_type ss)
    agree_run (assign z p e rest) m h s = agree_beside (agree e m h.0 s.0) (bound_agrees h.1 m (λ x names l. agree_run rest l h.2 s.1))
    agree_run (does z e rest) m h s = agree_followed (agree e m h.0 s.0) (agree_run rest m h.2 s.1)
    agree_run (end e) m h s = agree e m h s
    agree_run no_end m h s = agree_unit

    serves : (f : Fun) → FunTyped f → SoundFun C W M f → (vs : List Value) → AllOf vs (takes f) → Agrees M ws (compile_fun y f) (row_value vs) (apply ws f vs) (gives f)
    serves (fun r t ps e) h s vs o = retyped (agree e (params_match ps vs o) h.1 s) h.2
