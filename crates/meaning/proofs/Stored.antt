-- What LOWER stores for a tree unfolds to the tree's term.
-- Assumes nothing.
use Prim.Native.Nat.{ℕ}
use mathlib.Core.Bool.{Bool, true, false}
use mathlib.Core.List.{List, [], ◌∷◌}
use mathlib.Core.Option.{Option, some, none}
use mathlib.Core.Path.{◌≡◌}
use native.Mathlib.Omega.{arith}
use lib.Dec.{T, ltb}
use lib.ListN.{length}
use Rattle.laws.specs.Table.{pick}
use Rattle.array.specs.Split.{top_of}
use Rattle.array.specs.Path.{Side, path}
use Rattle.simplicity.specs.Types.{Ty}
use Rattle.simplicity.specs.Values.{Value}
use Rattle.simplicity.specs.Terms.{Term, pair}
use Rattle.book.specs.Format.{TYPE, VALUE}
use Rattle.book.specs.Tree.{type_of, value_of, Pat, Expr, constant, witness, variable, tuple, list, in_left, in_right, variant, block, match, match_enum, jet, unwrap_left, unwrap_right, debug, assert, panic, is_none, cast, call, list_fold, array_fold, for_while, hash, no_expr, Exprs, no_exprs, more_exprs, Arms, no_arms, more_arms, Parts, no_parts, more_parts, Stmts, assign, does, end, no_end, Fun, fun}
use Rattle.named.specs.Trace.{Run, pure, stop, bind, bindings, undefined}
use Rattle.named.specs.Combinators as node
use Rattle.pattern.specs.Find.{params_pattern}
use Rattle.scope_bindings.specs.Scope as scope
use Rattle.compile.specs.Lower.{binding_at, widths, lower, lowers, words, arms, statements, body}
use Rattle.compile.specs.Lower as lowering
use Rattle.nodes.specs.Given.{Given, holds}
use Rattle.meaning.proofs.Terms.{fetch, called, compile, compiles, compile_words, compile_arms, compile_run, compile_fun}
use Rattle.meaning.proofs.Sound.{Sound, Sounds, SoundParts, SoundArms, SoundRun, SoundFun}
use Rattle.meaning.proofs.Traces.{At, Ran, ran_pure, ran_stop, ran_bind, ran_iden, ran_unit, ran_injl, ran_injr, ran_fail, ran_comp, ran_pair, ran_witness, ran_scribe, ran_jet, ran_select, ran_inject}
use Rattle.meaning.proofs.Joins.{Rows, rows_none, rows_more, ran_row, ran_cases, ran_listed, ran_unwrap_left, ran_unwrap_right, ran_is_none, ran_paired, ran_followed, ran_matched, ran_chosen, ran_finished}
use Rattle.meaning.proofs.Recipes.{ran_list_fold, ran_array_fold, ran_for_while, ran_raw_hash}

module _ {g : Given} where
  -- a name's selector; a name that is not in scope stops
  ran_fetch : (r : ℕ) (o : Option (List Side)) (c : ℕ) → Ran g (scope.fetch r o) c (At g (fetch o))
  unfolding scope.fetch fetch
  ran_fetch r (some ks) c = ran_select r ks c
  ran_fetch r none c = ran_stop undefined r

  -- what binds, where one more binding may be; else it stops
  ran_binding : {A : Type 0} (r live : ℕ) {m : Run A} {c : ℕ} {Q : A → ℕ → Type 0} → Ran g m c Q → Ran g (binding_at r live m) c Q
  ran_binding {A} r live {m} {c} {Q} h = go (ltb live 256)
    where
      go : (w : Bool) → Ran g (pick w m (stop bindings r)) c Q
      go true = h
      go false = ran_stop bindings r

  -- arguments, a body, and what joins them
  ran_called : (y : Bool) (r s : ℕ) {m n : Run ℕ} {c : ℕ} {u t : Term} → Ran g m c (At g u) → ((d : ℕ) → Ran g n d (At g t)) → Ran g (lowering.called y r s m n) c (At g (called y s u t))
  ran_called y r s h i = ran_bind h (λ a d l j. ran_bind (i d) (λ b e o k. ran_finished y r s (omega (arith, j.last)) j.is (omega (arith, k.last)) k.is))

  -- two arguments
  ran_two : (r : ℕ) {m n : Run ℕ} {c : ℕ} {u t : Term} → Ran g m c (At g u) → ((d : ℕ) → Ran g n d (At g t)) → Ran g (node.joined (node.pair r) m n) c (At g (pair u t))
  ran_two r h i = ran_bind h (λ a d l j. ran_bind (i d) (λ b e o k. ran_pair r (omega (arith, j.last)) j.is (omega (arith, k.last)) k.is))

  -- an element of a row, and then the others
  ran_more : {m : Run ℕ} {n : Run (List ℕ)} {c : ℕ} {t : Term} {ts : List Term} → Ran g m c (At g t) → ((d : ℕ) → Ran g n d (λ xs e. Rows g ts xs d e))
      → Ran g (bind m (λ a. bind n (λ xs. pure (a ∷ xs)))) c (λ xs e. Rows g (t ∷ ts) xs c e)
  ran_more h i = ran_bind h (λ a d l j. ran_bind (i d) (λ xs e o k. ran_pure (a ∷ xs) (rows_more j o k)))

-- what is known of a constant's record and of a witness's type is what the book says of them
module _ {C : ℕ → Value → Type 0} {W : Ty → ℕ → ℕ → Type 0} (M : Type 0) (g : Given)
    (constants : (v : ℕ) (w : Value) → C v w → (T (holds g.book VALUE v)) × (value_of g.book.bytes g.book.index v ≡ w))
    (witnesses : (t : Ty) (k x : ℕ) → W t k x → (T (holds g.book TYPE k)) × (type_of g.book.bytes g.book.index k ≡ t)) (y : Bool) where
  mutual
    unfolding lower compile Sound

    -- what an expression stores is its term
    pub stored : (e : Expr) (sc : List Pat) (c : ℕ) → Sound C W M e → Ran g (lower y e sc) c (At g (compile y e sc))
    stored (constant r t v u w) sc c h = let k = constants v w h in rw (← k.1) (ran_scribe r v c k.0)
    stored (witness r t k x) sc c h = let w = witnesses t k x h in rw (← w.1) (ran_witness r x k c w.0)
    stored (variable r t x) sc c h = ran_fetch r (scope.lookup x sc) c
    stored (tuple r t es) sc c h = ran_bind (stored_row es sc c h) (λ xs d l i. ran_row r i)
    stored (list r t n es) sc c h = ran_bind (stored_row es sc c h.2) (λ xs d l i. ran_listed r n i)
    stored (in_left r t e) sc c h = ran_bind (stored e sc c h) (λ a d l i. ran_injl r (omega (arith, i.last)) i.is)
    stored (in_right r t e) sc c h = ran_bind (stored e sc c h) (λ a d l i. ran_injr r (omega (arith, i.last)) i.is)
    stored (variant r t k n es) sc c h = ran_bind (ran_bind (stored_row es sc c h.1) (λ xs d l i. ran_row r i)) (λ a d l i. ran_inject r (path n k) i.last i.is)
    stored (block r t ss) sc c h = stored_run r ss sc c h
    stored (match r t e p l q k) sc c h =
        ran_bind (ran_binding r (length sc) (stored l (p ∷ sc) c h.1)) (λ a d o i.
        ran_bind (ran_binding r (length sc) (stored k (q ∷ sc) d h.2)) (λ b f m j.
        ran_bind (stored e sc f h.0) (λ s z n u. ran_matched r (omega (arith, u.last)) u.is (omega (arith, i.last)) i.is (omega (arith, j.last)) j.is)))
    stored (match_enum r t e cs) sc c h =
        ran_bind (stored_arms r cs sc c h.2) (λ xs d l i.
        ran_bind (ran_cases r i) (λ k f m j.
        ran_bind (stored e sc f h.1) (λ s z n u. ran_chosen r (omega (arith, u.last)) u.is (omega (arith, j.last)) j.is)))
    stored (jet r t s j es) sc c h = ran_called y r s (ran_bind (stored_row es sc c h.1) (λ xs d l i. ran_row r i)) (λ d. ran_jet r j d (omega (arith, h.0)))
    stored (unwrap_left r t s e) sc c h = ran_called y r s (stored e sc c h) (λ d. ran_unwrap_left r d)
    stored (unwrap_right r t s e) sc c h = ran_called y r s (stored e sc c h) (λ d. ran_unwrap_right r d)
    stored (debug r t s e) sc c h = ran_called y r s (stored e sc c h) (λ d. ran_iden r d)
    stored (assert r t s e) sc c h = ran_called y r s (stored e sc c h) (λ d. ran_jet r 0 d (omega arith))
    stored (panic r t s) sc c h = ran_called y r s (ran_unit r c) (λ d. ran_fail r d)
    stored (is_none r t e) sc c h = ran_called y r 0 (stored e sc c h) (λ d. ran_is_none r d)
    stored (cast r t e) sc c h = stored e sc c h
    stored (call r t f es) sc c h = ran_called y r 0 (ran_bind (stored_row es sc c h.1) (λ xs d l i. ran_row r i)) (λ d. stored_fun f d h.0)
    stored (list_fold r t f n e a) sc c h =
        ran_called y r 0 (ran_two r (stored e sc c h.2) (λ d. stored a sc d h.3)) (λ d. ran_bind (stored_fun f d h.1) (λ b k o i. ran_list_fold r n i.last i.is))
    stored (array_fold r t f n e a) sc c h =
        ran_called y r 0 (ran_two r (stored e sc c h.2) (λ d. stored a sc d h.3)) (λ d. ran_bind (stored_fun f d h.1) (λ b k o i. ran_array_fold r n i.last i.is))
    stored (for_while r t f w a x) sc c h =
        ran_called y r 0 (ran_two r (stored a sc c h.2) (λ d. stored x sc d h.3)) (λ d. ran_bind (stored_fun f d h.1) (λ b k o i. ran_for_while r (top_of w) i.last i.is))
    stored (hash r t s ps) sc c h = ran_called y r s (ran_bind (stored_words ps sc c h.1) (λ xs d l i. ran_row r i)) (λ d. ran_raw_hash r (widths ps) d)
    stored no_expr sc c h = absurd h

    -- the elements of a row, the words of a hash, the arms of an enum's match: their nodes one after another
    stored_row : (es : Exprs) (sc : List Pat) (c : ℕ) → Sounds C W M es → Ran g (lowers y es sc) c (λ xs d. Rows g (compiles y es sc) xs c d)
    stored_row no_exprs sc c h = ran_pure [] rows_none
    stored_row (more_exprs e es) sc c h = ran_more (stored e sc c h.0) (λ d. stored_row es sc d h.1)

    stored_words : (ps : Parts) (sc : List Pat) (c : ℕ) → SoundParts C W M ps → Ran g (words y ps sc) c (λ xs d. Rows g (compile_words y ps sc) xs c d)
    stored_words no_parts sc c h = ran_pure [] rows_none
    stored_words (more_parts w e ps) sc c h = ran_more (stored e sc c h.0) (λ d. stored_words ps sc d h.1)

    stored_arms : (r : ℕ) (cs : Arms) (sc : List Pat) (c : ℕ) → SoundArms C W M cs → Ran g (arms y r cs sc) c (λ xs d. Rows g (compile_arms y cs sc) xs c d)
    stored_arms r no_arms sc c h = ran_pure [] rows_none
    stored_arms r (more_arms p e cs) sc c h = ran_more (ran_binding r (length sc) (stored e (p ∷ sc) c h.0)) (λ d. stored_arms r cs sc d h.1)

    -- statements and their end
    stored_run : (r : ℕ) (ss : Stmts) (sc : List Pat) (c : ℕ) → SoundRun C W M ss → Ran g (statements y r ss sc) c (At g (compile_run y ss sc))
    stored_run r (assign s p e rest) sc c h =
        ran_bind (stored e sc c h.0) (λ a d l i. ran_binding s (length sc)
        (ran_bind (ran_paired s (omega (arith, i.last)) i.is) (λ b f m j.
        ran_bind (stored_run r rest (p ∷ sc) f h.1) (λ k z n u. ran_comp s (omega (arith, j.last)) j.is (omega (arith, u.last)) u.is))))
    stored_run r (does s e rest) sc c h =
        ran_bind (stored e sc c h.0) (λ a d l i. ran_bind (stored_run r rest sc d h.1) (λ b f m j. ran_followed s (omega (arith, i.last)) i.is (omega (arith, j.last)) j.is))
    stored_run r (end e) sc c h = stored e sc c h
    stored_run r no_end sc c h = ran_unit r c

    -- a function's body
    pub stored_fun : (f : Fun) (c : ℕ) → SoundFun C W M f → Ran g (body y f) c (At g (compile_fun y f))
    stored_fun (fun r t ps e) c h = stored e (params_pattern ps ∷ []) c h
