-- The trees of a typed book are sound: numbers in the ranges that READ assures, constants that are the book's values, witnesses that the list gives.
-- Assumes nothing.
use Prim.Native.Nat.{ℕ, zero, suc, ◌+◌, ◌*◌, ◌-◌, ◌^◌, ◌<◌}
use mathlib.Core.Bool.{Bool, true, false}
use mathlib.Core.List.{List, [], ◌∷◌}
use mathlib.Core.Path.{◌≡◌, refl, sym, ap, subst, ◌∙◌}
use native.Mathlib.Omega.{arith}
use borrow.Author.Tests.{eqb-false, lt-ltb, eq-eqb}
use lib.Dec.{T, eqb, ltb, leb, eqb→eq, ltb→lt, leb→le}
use lib.ListN.{length, get_or}
use Rattle.laws.specs.Table.{pick, both, among, both_left, both_right, every, ◌also◌}
use Rattle.array.specs.Split.{top_of}
use Rattle.simplicity.specs.Types.{Ty}
use Rattle.simplicity.specs.Values.{Value, Of}
use Rattle.simplicity.specs.Outcomes.{value, missing}
use Rattle.simplicity.specs.Typing.{Has}
use Rattle.simplicity.proofs.Safe.{is_same}
use Rattle.book.specs.Format.{powers, within, power_in, in_range, TYPE, VALUE, EXPRESSION, STATEMENT, FUNCTION, EC, EW, EV, ET, EL, E0, E1, EN, EB, SA, SE, EM, EH, CJ, CL, CR, CD, CA, CP, CN, CK, CF, CQ, CY, CW, CH, FN}
use Rattle.book.specs.Index.{mark, kind, field}
use Rattle.book.specs.Read.{index_of}
use Rattle.book.specs.Stands.{Stands}
use Rattle.book.specs.Tree.{Tree, Stmts, no_exprs, more_exprs, no_end, end, as_expr, as_stmt, as_fun, group, exprs_at, arms_at, parts_at, last_at, stmts_at, maker, tree, type_of, value_of, declared_of, expr_of, fun_of}
use Rattle.book.proofs.Established.{answer_valid}
use Rattle.book.proofs.Roles.{layout, counted, field_before}
use Rattle.book.proofs.Standing.{stands_mark, stands_tree, head_stands, head_below, head_ranged, each_stands, each_below, last_stands, last_below, tail_stands, tail_below, function_mark}
use Rattle.parts.proofs.Numbers.{from_low, power_is, bound_halved}
use Rattle.shapes.specs.Shapes.{types}
use Rattle.shapes.proofs.Declared.{value_declares}
use Rattle.book.specs.Text.{Text, text}
use Rattle.nodes.specs.Given.{given, holds, entry_of, supplies}
use Rattle.agreement.specs.Agreement.{witnesses_of}
use Rattle.typing.specs.Check.{arm_count}
use Rattle.typing.specs.Typed.{TypedBook}
use Rattle.typing.proofs.Earlier.{read_stands, Before, each_before, in_head_lem, in_group_lem}
use Rattle.typing.proofs.Deepening.{group_all, expr_marks}
use Rattle.typing.proofs.Valued.{typed_values}
use Rattle.meaning.specs.Premises.{Supplied}
use Rattle.meaning.proofs.Sound.{Bound, Sound, Sounds, SoundParts, SoundArms, SoundRun, SoundFun}

-- a constant's record is a value of the book, and its value is that one
abbrev pub Constantly : Text → ℕ → Value → Type 0
Constantly b v w = (T (holds b VALUE v)) × (value_of b.bytes b.index v ≡ w)

-- a witness's type is a type of the book, and its value is given and of it
abbrev pub Witnessed : Text → List ℕ → Ty → ℕ → ℕ → Type 0
Witnessed b ws t k x = (T (holds b TYPE k)) × (type_of b.bytes b.index k ≡ t) × (Has (witnesses_of b ws x t) t)

-- document 01, Numbers: a bound, a power of two from 2 on; a loop's width
bound_is : (n : ℕ) → T (power_in 2 256 n) → Bound n
unfolding power_in
bound_is n t = record { is = power_is n (both_right (within 2 256 n) (among powers n) t); two = omega (arith, (bound_halved n t).top) }

width_is : (n : ℕ) → T (power_in 1 16 n) → n ≡ 2 ^ top_of n
unfolding power_in
width_is n t = power_is n (both_right (within 1 16 n) (among powers n) t)

-- a group holds as many as it stands times, where each adds one
group_size : {A : Type 0} (size : A → ℕ) (s : ℕ) (z : A) (add : ℕ → A → A) → size z ≡ 0 → ((k : ℕ) (x : A) → size (add k x) ≡ suc (size x)) → (k n : ℕ) → size (group s z add k n) ≡ n
unfolding group
group_size size s z add e each k zero = e
group_size size s z add e each k (suc n) = each k _ ∙ ap suc (group_size size s z add e each (k + s) n)

row_size : (a : ℕ → Tree) (k n : ℕ) → length (types (exprs_at a k n)) ≡ n
unfolding types
row_size a = group_size (λ es. length (types es)) 1 _ _ refl (λ k es. refl)

arms_size : (a : ℕ → Tree) (k n : ℕ) → arm_count (arms_at a k n) ≡ n
unfolding arm_count
arms_size a = group_size arm_count 2 _ _ refl (λ k cs. refl)

-- a number of the head is in range by the number before it
beside : {b i : List ℕ} {r kd : ℕ} → Stands b i r kd → (m : ℕ) → mark b i r ≡ m → (k : ℕ) → T (ltb (k + 1) (layout m).heads) → T (in_range (get_or (layout m).head (k + 1) 0) (field b i r k) (field b i r (k + 1)))
beside {b} {i} {r} s m is k t = rw (field_before b (get_or i r 0) k) at (head_ranged s m is (k + 1) t)

-- whatever is asked of constants, witnesses and hashes
module _ (C : ℕ → Value → Type 0) (W : Ty → ℕ → ℕ → Type 0) (M : Type 0) where
  -- the records before n have it
  record Grounds (b i : List ℕ) (n : ℕ) : Type 0 where
    constants : Before b i (λ v. C v (value_of b i v)) VALUE n
    witnesses : Before b i (λ r. mark b i r ≡ EW → W (type_of b i (field b i r 0)) (field b i r 0) (field b i r 1)) EXPRESSION n
    hashes : Before b i (λ r. mark b i r ≡ CH → M) EXPRESSION n

  -- the expressions before record r are sound; the functions before it
  abbrev Expressions : List ℕ → List ℕ → ℕ → Type 0
  Expressions b i r = Before b i (λ x. Sound C W M (expr_of b i x)) EXPRESSION r

  abbrev Functions : List ℕ → List ℕ → ℕ → Type 0
  Functions b i r = Before b i (λ g. SoundFun C W M (fun_of b i g)) FUNCTION r

  -- a statement, where what follows it is sound
  module _ {b i : List ℕ} {s : ℕ} (st : Stands b i s STATEMENT) (ih : Expressions b i s) (rest : Stmts) (d : SoundRun C W M rest) where
    stmt_sound : SoundRun C W M (as_stmt (tree b i s) rest)
    unfolding as_stmt Sound
    stmt_sound = every (SA ∷ SE ∷ []) (λ m. mark b i s ≡ m → SoundRun C W M (as_stmt (tree b i s) rest))
        ((λ is. rw (stands_tree st SA is) (in_head_lem _ EXPRESSION tt st ih SA is 1 tt refl, d))
        also (λ is. rw (stands_tree st SE is) (in_head_lem _ EXPRESSION tt st ih SE is 0 tt refl, d))
        also tt)
        (mark b i s) (stands_mark st (among (SA ∷ SE ∷ [])) tt tt) refl

  -- an expression's record, over those before it
  module _ {b i : List ℕ} {n r : ℕ} (g : Grounds b i n) (o : r < n) (s : Stands b i r EXPRESSION) (ih : Expressions b i r) (fs : Functions b i r) where
    abbrev x : ℕ → ℕ
    x = field b i r

    abbrev a : ℕ → Tree
    a k = tree b i (field b i r k)

    -- its tree by its mark
    expr_at : (m : ℕ) → mark b i r ≡ m → expr_of b i r ≡ as_expr (maker m r x a)
    expr_at m is = ap as_expr (stands_tree s m is)

    -- what its fields name
    part : (m : ℕ) (is : mark b i r ≡ m) (k : ℕ) → T (ltb k (layout m).heads) → get_or (layout m).head k 0 ≡ EXPRESSION → Sound C W M (as_expr (a k))
    part = in_head_lem (λ y. Sound C W M (expr_of b i y)) EXPRESSION tt s ih

    member : (m : ℕ) (is : mark b i r ≡ m) (e : ℕ) → T (ltb e (layout m).eachs) → get_or (layout m).each e 0 ≡ EXPRESSION → (k q : ℕ) → k ≡ (layout m).heads + q * (layout m).eachs + e → q < counted m x → Sound C W M (as_expr (a k))
    member = in_group_lem (λ y. Sound C W M (expr_of b i y)) EXPRESSION tt s ih

    callee : (m : ℕ) → mark b i r ≡ m → T (ltb 1 (layout m).heads) → get_or (layout m).head 1 0 ≡ FUNCTION → SoundFun C W M (as_fun (a 1))
    callee m is = in_head_lem (λ f. SoundFun C W M (fun_of b i f)) FUNCTION tt s fs m is 1

    -- a row of expressions, of words, of arms, of statements and their end
    row : (m : ℕ) → mark b i r ≡ m → T (ltb 0 (layout m).eachs) → get_or (layout m).each 0 0 ≡ EXPRESSION → Sounds C W M (group (layout m).eachs no_exprs (λ j. more_exprs (as_expr (a j))) (layout m).heads (counted m x))
    unfolding Sound
    row m is t u = group_all (Sounds C W M) _ _ _ (layout m).heads (counted m x) tt (λ k q z l es d. (member m is 0 t u k q (omega arith) l, d))

    words_row : mark b i r ≡ CH → SoundParts C W M (parts_at x a 3 (x 2))
    unfolding Sound
    words_row is = group_all (SoundParts C W M) _ _ _ 3 (x 2) tt (λ k q z l ps d. (member CH is 1 tt refl (k + 1) q (omega arith) l, d))

    arms_row : mark b i r ≡ EH → SoundArms C W M (arms_at a 3 (x 2))
    unfolding Sound
    arms_row is = group_all (SoundArms C W M) _ _ _ 3 (x 2) tt (λ k q z l cs d. (member EH is 1 tt refl (k + 1) q (omega arith) l, d))

    run_end : mark b i r ≡ EB → (k : ℕ) → k ≡ 2 + x 1 → SoundRun C W M (last_at x a k)
    unfolding Sound
    run_end is k z = go (eqb (x k) 65535) refl
      where
        go : (t : Bool) → eqb (x k) 65535 ≡ t → SoundRun C W M (pick t no_end (end (as_expr (a k))))
        go true e = tt
        go false e = ih (x k) (tail_below s EB is k (omega arith) tt refl (eqb-false (x k) 65535 e)) (tail_stands s EB is k (omega arith) tt refl (eqb-false (x k) 65535 e))

    run_row : mark b i r ≡ EB → SoundRun C W M (stmts_at x a 2 (x 1))
    run_row is = group_all (SoundRun C W M) 1 _ _ 2 (x 1) (run_end is (2 + x 1) refl)
        (λ k q z l ss. stmt_sound (each_stands s EB is k q 0 (omega arith) l tt tt) (λ y h. ih y (omega (arith, each_below s EB is k q 0 (omega arith) l tt tt))) ss)

    -- whatever its mark
    expr_step : Sound C W M (expr_of b i r)
    unfolding as_expr Sound in_range
    expr_step = every expr_marks (λ m. mark b i r ≡ m → Sound C W M (expr_of b i r))
        ((λ is. rw (expr_at EC is) (in_head_lem (λ v. C v (value_of b i v)) VALUE tt s (λ v l. g.constants v (omega arith)) EC is 1 tt refl))
        also (λ is. rw (expr_at EW is) (g.witnesses r o s is))
        also (λ is. rw (expr_at EV is) tt)
        also (λ is. rw (expr_at ET is) (row ET is tt refl))
        also (λ is. rw (expr_at EL is) (bound_is _ (head_ranged s EL is 1 tt), rw (row_size a 3 (x 2)) (ltb→lt (x 2) (x 1) (beside s EL is 1 tt)), row EL is tt refl))
        also (λ is. rw (expr_at E0 is) (part E0 is 1 tt refl))
        also (λ is. rw (expr_at E1 is) (part E1 is 1 tt refl))
        also (λ is. rw (expr_at EN is) (ltb→lt (x 1) (x 2) (both_left (ltb (x 1) (x 2)) (leb (x 2) 256) (beside s EN is 1 tt)), row EN is tt refl))
        also (λ is. rw (expr_at EB is) (run_row is))
        also (λ is. rw (expr_at EM is) (part EM is 1 tt refl, part EM is 3 tt refl, part EM is 5 tt refl))
        also (λ is. rw (expr_at EH is) (rw (arms_size a 3 (x 2)) (from_low 1 256 _ (head_ranged s EH is 2 tt)), part EH is 1 tt refl, arms_row is))
        also (λ is. rw (expr_at CJ is) (omega (arith, leb→le (x 2) 2 (head_ranged s CJ is 2 tt)), row CJ is tt refl))
        also (λ is. rw (expr_at CL is) (part CL is 2 tt refl))
        also (λ is. rw (expr_at CR is) (part CR is 2 tt refl))
        also (λ is. rw (expr_at CD is) (part CD is 2 tt refl))
        also (λ is. rw (expr_at CA is) (part CA is 2 tt refl))
        also (λ is. rw (expr_at CP is) tt)
        also (λ is. rw (expr_at CN is) (part CN is 1 tt refl))
        also (λ is. rw (expr_at CK is) (part CK is 1 tt refl))
        also (λ is. rw (expr_at CF is) (callee CF is tt refl, row CF is tt refl))
        also (λ is. rw (expr_at CQ is) (bound_is _ (head_ranged s CQ is 2 tt), callee CQ is tt refl, part CQ is 3 tt refl, part CQ is 4 tt refl))
        also (λ is. rw (expr_at CY is) (from_low 1 256 _ (head_ranged s CY is 2 tt), callee CY is tt refl, part CY is 3 tt refl, part CY is 4 tt refl))
        also (λ is. rw (expr_at CW is) (width_is _ (head_ranged s CW is 2 tt), callee CW is tt refl, part CW is 3 tt refl, part CW is 4 tt refl))
        also (λ is. rw (expr_at CH is) (g.hashes r o s is, words_row is))
        also tt)
        (mark b i r) (stands_mark s (among expr_marks) tt tt) refl

  module _ {b i : List ℕ} {n : ℕ} (g : Grounds b i n) where
    -- an expression's record is sound, if the functions before it are
    sound_expr : {r : ℕ} → r < n → Stands b i r EXPRESSION → Functions b i r → Sound C W M (expr_of b i r)
    sound_expr {r} o s = each_before (λ x. Functions b i x → Sound C W M (expr_of b i x)) EXPRESSION (suc r)
        (λ x l k h fs. expr_step g (omega arith) k (λ y q u. h y q u (λ f z. fs f (omega arith))) fs)
        r (omega arith) s

    -- a function's record, if those before it are
    sound_fun : {f : ℕ} → f < n → Stands b i f FUNCTION → Functions b i f → SoundFun C W M (fun_of b i f)
    unfolding as_fun Sound
    sound_fun {f} o s fs =
        let is = function_mark s in
        let k = 2 + 2 * field b i f 1 in
        let z : k ≡ (layout FN).heads + counted FN (field b i f) * (layout FN).eachs = omega arith in
        let earlier : field b i f k < f = last_below s FN is k z tt tt in
        rw (stands_tree s FN is) (sound_expr (omega arith) (last_stands s FN is k z tt tt) (λ h l. fs h (omega arith)))

    -- so every function is, and every expression
    sound_funs : Functions b i n
    sound_funs = each_before (λ f. SoundFun C W M (fun_of b i f)) FUNCTION n (λ f o s fs. sound_fun o s fs)

    sound_all : Expressions b i n
    sound_all r o s = sound_expr o s (λ f l. sound_funs f (omega arith))

-- a witness that is given is of the type, where the type's test passes beside those of its entry
given_has : (p q e f : Bool) {v : Value} {a : Ty} → T (both p (both q e)) → f ≡ true → Of v a → Has (pick (both p (both q f)) (value v) missing) a
given_has true true e f t z h = rw z h
given_has true false e f t z h = absurd t
given_has false q e f t z h = absurd t

-- the records of a typed book
module _ (b : List ℕ) (n : ℕ) (ws : List ℕ) (t : TypedBook b n) where
  abbrev i : List ℕ
  i = index_of b

  abbrev book : Text
  book = text b i n

  -- a record that stands is one of the book's
  held : {kd r : ℕ} → r < n → Stands b i r kd → T (holds book kd r)
  held {kd} {r} o s = rw (lt-ltb r n o, eq-eqb (kind b i r) kd s.is) tt

  -- a witness whose entry is a value that names the type's record
  supplied_has : (x k : ℕ) → supplies (given book ws []) x k ≡ true → Has (witnesses_of book ws x (type_of b i k)) (type_of b i k)
  unfolding witnesses_of supplies
  supplied_has x k e =
      let v = entry_of ws x in
      let c : T (both (ltb (2 * x + 1) (length ws)) (both (holds book VALUE v) (eqb (field b i v 0) k))) = rw e tt in
      let h = both_right (ltb (2 * x + 1) (length ws)) (both (holds book VALUE v) (eqb (field b i v 0) k)) c in
      let l = both_left (holds book VALUE v) (eqb (field b i v 0) k) h in
      let o = ltb→lt v n (both_left (ltb v n) (eqb (kind b i v) VALUE) l) in
      let s = read_stands t.reads v o (eqb→eq (kind b i v) VALUE (both_right (ltb v n) (eqb (kind b i v) VALUE) l)) in
      let d : declared_of b i v ≡ type_of b i k = sym (value_declares s).is ∙ ap (type_of b i) (eqb→eq (field b i v 0) k (both_right (holds book VALUE v) (eqb (field b i v 0) k) h)) in
      given_has (ltb (2 * x + 1) (length ws)) (holds book VALUE v) (eqb (field b i v 0) k) _ c (is_same _ _ d) (subst (Of (value_of b i v)) d (typed_values b n t v o s.is))

  -- its constants are values of the book, and its witnesses given, where the list gives them
  typed_grounds : (M : Type 0) → Supplied b n ws → ((r : ℕ) → r < n → mark b i r ≡ CH → M) → Grounds (Constantly book) (Witnessed book ws) M b i n
  typed_grounds M given-all hashed = record {
    constants = λ v o s. (held o s, refl);
    witnesses = λ r o s is. (held (omega (arith, head_below s EW is 0 tt tt)) (head_stands s EW is 0 tt tt), refl, supplied_has (field b i r 1) (field b i r 0) (given-all r o is));
    hashes = λ r o s is. hashed r o is;
  }

-- the root's tree is sound, where the witness list gives the book's witnesses and hashes are as M says
pub sound_root : (b : List ℕ) (n : ℕ) (ws : List ℕ) (M : Type 0) → TypedBook b n → Supplied b n ws → ((r : ℕ) → r < n → mark b (index_of b) r ≡ CH → M)
    → Sound (Constantly (text b (index_of b) n)) (Witnessed (text b (index_of b) n) ws) M (expr_of b (index_of b) (n - 1))
sound_root b n ws M t given-all hashed =
    let v = answer_valid b n t.reads in
    let o : n - 1 < n = omega (arith, v.some) in
    sound_all _ _ M (typed_grounds b n ws t M given-all hashed) (n - 1) o (read_stands t.reads (n - 1) o v.root)
