-- Laws of the row of records with a name twice, which is made record by record.
-- Assumes nothing.
use Prim.Native.Nat.{ℕ, ◌+◌, ◌≤◌, ◌<◌}
use mathlib.Core.Bool.{Bool, true, false}
use mathlib.Core.List.{List}
use mathlib.Core.Path.{◌≡◌, refl, sym, ap, ◌∙◌}
use native.Mathlib.Omega.{arith}
use borrow.Author.Tests.{eqb-true, eqb-false}
use lib.Dec.{eqb}
use lib.ListN.{length, get_or, set, replicate, length-set}
use lib.Seq.{get_or-set_same, get_or-set_other}
use Rattle.book.specs.Format.{PATTERN, FUNCTION, PN, PT, FN, kind_of}
use Rattle.book.specs.Read.{kind_at}
use Rattle.book.specs.Index.{mark, kind}
use Rattle.book.specs.Stands.{Stands}
use Rattle.book.specs.Valid.{Valid}
use Rattle.book.proofs.Standing.{stands_few, function_mark}
use Rattle.pattern.proofs.Memos.{filled_at, filled_size}
use Rattle.pattern.proofs.Records.{but_row}
use Rattle.std.specs.Prelude.{Some, None}
use Rattle.binders.specs.Binders.{names, twice}
use Rattle.binders.specs.Memos.{Met, Nameless, Bears, pattern_twice, params_twice, Doubled, Repeats}
use Rattle.binders.proofs.Names.{names_none}
use Rattle.binders.proofs.Tallies.{met_next, nameless_more}
use Rattle.binders.proofs.Bearing.{bears_none, bears_some}

-- a record of a valid book stands as what it is; by its mark it is a pattern, or a function
pub stands_self : {b i : List ℕ} {n r : ℕ} → Valid b i n → r < n → Stands b i r (kind b i r)
stands_self v o = record { records = _; valid = v; inside = o; is = refl }

module _ {b i : List ℕ} {r kd m : ℕ} (s : Stands b i r kd) (is : m ≡ mark b i r) where
  pub row_stands : m ≡ PT → Stands b i r PATTERN
  unfolding kind_at kind_of
  row_stands e = record { records = s.records; valid = s.valid; inside = s.inside; is = ap kind_of (sym is ∙ e) }

  pub function_stands : m ≡ FN → Stands b i r FUNCTION
  unfolding kind_at kind_of
  function_stands e = record { records = s.records; valid = s.valid; inside = s.inside; is = ap kind_of (sym is ∙ e) }

  blank_stands : m ≡ PN → Stands b i r PATTERN
  unfolding kind_at kind_of
  blank_stands e = record { records = s.records; valid = s.valid; inside = s.inside; is = ap kind_of (sym is ∙ e) }

  -- a pattern without names
  pub blank_nameless : {ms : List Bool} → Nameless b i ms → m ≡ PN → Nameless b i (set ms r true)
  blank_nameless v e = nameless_more v r (names_none (blank_stands e) (λ z. omega arith) (λ z. omega arith))

  -- it is neither a row nor a function: no name stands twice
  pub repeats_other : {ns : List ℕ} {ms : List Bool} → (m ≡ PT → ⊥) → (m ≡ FN → ⊥) → Met r ns → Nameless b i ms → Repeats b i r false ns ms
  unfolding names twice
  repeats_other row fn w v = record {
    pattern = λ e. sym (but_row (record { records = s.records; valid = s.valid; inside = s.inside; is = e }) (λ p. twice (names p)) false (λ x. refl) refl (λ z. row (is ∙ z)));
    function = λ e. absurd (fn (is ∙ function_mark (record { records = s.records; valid = s.valid; inside = s.inside; is = e })));
    row = met_next w refl;
    nameless = v;
  }

-- what was found of a function's parameters
pub repeats_params : {b i ns : List ℕ} {ms : List Bool} {r : ℕ} {t : Bool} → Stands b i r FUNCTION → t ≡ params_twice b i r → Met (r + 1) ns → Nameless b i ms → Repeats b i r t ns ms
repeats_params s e w v = record { pattern = λ z. absurd (omega (arith, s.is)); function = λ z. e; row = w; nameless = v }

-- what was found of a row
module _ {b i : List ℕ} {p : ℕ} (s : Stands b i p PATTERN) where
  pub repeats_row : {ns : List ℕ} {ms : List Bool} {t : Bool} → t ≡ pattern_twice b i p → Met (p + 1) ns → Nameless b i ms → Repeats b i p t ns ms
  repeats_row e w v = record { pattern = λ z. e; function = λ z. absurd (omega (arith, s.is)); row = w; nameless = v }

  -- it has no names, or those of one part
  module _ {ns : List ℕ} {ms : List Bool} (w : Met p ns) (v : Nameless b i ms) where
    pub repeats_none : Bears b i p None → Repeats b i p false ns (set ms p true)
    unfolding twice
    repeats_none d = repeats_row (rw (bears_none d)) (met_next w refl) (nameless_more v p (bears_none d))

    pub repeats_part : {q : ℕ} {ds : List Bool} → Bears b i p (Some q) → Doubled b i p ds → (q ≡ p → ⊥) → Repeats b i p (get_or ds q false) ns ms
    repeats_part {q} d o f =
        let part = bears_some d in
        repeats_row (o.patterns q (omega (arith, part.1)) part.0.is ∙ ap twice part.2) (met_next w refl) v

-- a part's record has its entry
pub part_fits : {b i : List ℕ} {ds : List Bool} {p q : ℕ} → Bears b i p (Some q) → Doubled b i p ds → q < length ds
part_fits d o = omega (arith, stands_few (bears_some d).0, o.size)

-- a row tells of the records of kind kd before k whether g holds, and t is whether it holds of record k
module _ (b i : List ℕ) {k u : ℕ} (z : u ≡ k + 1) (ds : List Bool) (kd : ℕ) (g : ℕ → Bool) {t : Bool} (is : kind b i k ≡ kd → t ≡ g k) (done : (r : ℕ) → r < k → kind b i r ≡ kd → get_or ds r false ≡ g r) where
  -- it does not, and the row has false there
  tells_not : t ≡ false → get_or ds k false ≡ false → (r : ℕ) → r < u → kind b i r ≡ kd → get_or ds r false ≡ g r
  tells_not e l r o = go (eqb r k) refl
    where
      go : (v : Bool) → eqb r k ≡ v → kind b i r ≡ kd → get_or ds r false ≡ g r
      go true q h =
          let y : r ≡ k = eqb-true r k q in
          rw (y, l, ← is (rw y at h), e)
      go false q h = let y = eqb-false r k q in done r (omega arith) h

  -- it does, and true is put there
  tells_so : t ≡ true → k < length ds → (r : ℕ) → r < u → kind b i r ≡ kd → get_or (set ds k true) r false ≡ g r
  tells_so e l r o = go (eqb r k) refl
    where
      go : (v : Bool) → eqb r k ≡ v → kind b i r ≡ kd → get_or (set ds k true) r false ≡ g r
      go true q h =
          let y : r ≡ k = eqb-true r k q in
          rw (y, get_or-set_same ds k true false l, ← is (rw y at h), e)
      go false q h = let y = eqb-false r k q in get_or-set_other ds k r true false y ∙ done r (omega arith) h

-- of n records, those before k were looked at: what was found, and the names that were met
pub record Doubling (b i : List ℕ) (n k : ℕ) (ds : List Bool) (ns : List ℕ) (ms : List Bool) : Type 0 where
  pub within : k ≤ n
  pub doubled : Doubled b i k ds
  pub row : Met k ns
  pub nameless : Nameless b i ms

-- no record was looked at yet
pub doubling_none : (b i : List ℕ) {n : ℕ} {ds : List Bool} {ns : List ℕ} {ms : List Bool} → ds ≡ replicate 4096 false → Met 0 ns → Nameless b i ms → Doubling b i n 0 ds ns ms
doubling_none b i e w v = record {
  within = omega arith;
  doubled = record { size = filled_size false 4096 e; patterns = λ r o. absurd (omega arith); functions = λ r o. absurd (omega arith); beyond = λ r o. filled_at false 4096 e r };
  row = w;
  nameless = v;
}

module _ {b i : List ℕ} {n k : ℕ} {ds : List Bool} {ns : List ℕ} {ms : List Bool} (d : Doubling b i n k ds ns ms) where
  -- all were looked at
  pub doubling_all : n ≤ k → Doubled b i n ds
  doubling_all h = let y : k ≡ n = omega (arith, d.within) in rw y at d.doubled

  module _ (u : ℕ) (z : u ≡ k + 1) (next : k < n) {t : Bool} {ns₁ : List ℕ} {ms₁ : List Bool} (f : Repeats b i k t ns₁ ms₁) where
    -- the next has no name twice, or one
    pub doubling_once : t ≡ false → Doubling b i n u ds ns₁ ms₁
    doubling_once e = record {
      within = omega arith;
      doubled = record {
        size = d.doubled.size;
        patterns = tells_not b i z ds PATTERN (pattern_twice b i) f.pattern d.doubled.patterns e (d.doubled.beyond k (omega arith));
        functions = tells_not b i z ds FUNCTION (params_twice b i) f.function d.doubled.functions e (d.doubled.beyond k (omega arith));
        beyond = λ r o. d.doubled.beyond r (omega arith);
      };
      row = rw z f.row;
      nameless = f.nameless;
    }

    pub doubling_twice : k < length ds → t ≡ true → Doubling b i n u (set ds k true) ns₁ ms₁
    doubling_twice h e = record {
      within = omega arith;
      doubled = record {
        size = length-set ds k true ∙ d.doubled.size;
        patterns = tells_so b i z ds PATTERN (pattern_twice b i) f.pattern d.doubled.patterns e h;
        functions = tells_so b i z ds FUNCTION (params_twice b i) f.function d.doubled.functions e h;
        beyond = λ r o. get_or-set_other ds k r true false (λ y. omega arith) ∙ d.doubled.beyond r (omega arith);
      };
      row = rw z f.row;
      nameless = f.nameless;
    }
