-- Laws of scopes: what an entry stands for, and how a scope grows.
-- Assumes nothing.
use Rattle.std.proofs.Common.{ℕ, zero, suc, ◌+◌, ◌<◌, ◌≤◌, Bool, true, false, List, [], ◌∷◌, ◌≡◌, refl, sym, ap, ◌∙◌, arith, ne_eqb, eqb-true, eqb, length, get_or, set, replicate, length-set, get_or-set_same, get_or-set_other}
use mathlib.Core.Option.{none}
use borrow.Author.Tests.{eqb-false}
use lib.ListN.{length-replicate}
use Rattle.book.specs.Format.{PATTERN, FUNCTION, FN, kind_of}
use Rattle.book.specs.Read.{kind_at}
use Rattle.book.specs.Index.{mark, Begins}
use Rattle.book.specs.Stands.{Stands}
use Rattle.book.specs.Tree.{pattern_of, fun_of, ignore}
use Rattle.book.proofs.Standing.{stands_begins, stands_few, function_mark}
use Rattle.named.proofs.Storing.{handed}
use Rattle.pattern.specs.Find.{find, params_pattern, params_of}
use Rattle.pattern.proofs.Selectors.{absent, seeks_absent, nears_absent, nears_found, nears_full, sought_missing, sought_found, sought_full}
use Rattle.scope_bindings.specs.Scope.{IGNORED, bound, newest, scope_of, Binds, ignored, of_pattern, of_function, ScopeStands, Roots, Inserts}
use Rattle.scope_bindings.specs.declared.ScopeBindings.{ScopeBindings}

-- what an entry stands for
pub bound_ignored : (b i : List ℕ) (x : ℕ) → x ≡ IGNORED → bound b i x ≡ ignore
unfolding bound
bound_ignored b i x e = rw e

pub find_ignored : (b i : List ℕ) (x y : ℕ) → x ≡ IGNORED → find y (bound b i x) ≡ none
unfolding find
find_ignored b i x y e = ap (find y) (bound_ignored b i x e)

module _ {b i : List ℕ} {x : ℕ} where
  pub bound_pattern : Stands b i x PATTERN → bound b i x ≡ pattern_of b i x
  unfolding bound
  bound_pattern s = rw (ne_eqb x IGNORED (λ e. omega (arith, stands_few s)), s.is)

  pub bound_function : Stands b i x FUNCTION → bound b i x ≡ params_pattern (params_of (fun_of b i x))
  unfolding bound
  bound_function s = rw (ne_eqb x IGNORED (λ e. omega (arith, stands_few s)), s.is)

  -- and what it is, where it is not ignored, by its mark
  module _ (some : x ≡ IGNORED → ⊥) where
    pub binds_begins : Binds b i x → Begins b i x
    binds_begins (ignored e) = absurd (some e)
    binds_begins (of_pattern s) = stands_begins s
    binds_begins (of_function s) = stands_begins s

    module _ (v : Binds b i x) (m : ℕ) (is : m ≡ mark b i x) where
      pub binds_function : m ≡ FN → Stands b i x FUNCTION
      unfolding kind_at kind_of
      binds_function e = at v
        where
          at : Binds b i x → Stands b i x FUNCTION
          at (ignored z) = absurd (some z)
          at (of_pattern s) = absurd (let z : FUNCTION ≡ PATTERN = rw (sym is ∙ e) at s.is in omega arith)
          at (of_function s) = s

      pub binds_pattern : (m ≡ FN → ⊥) → Stands b i x PATTERN
      binds_pattern h = at v
        where
          at : Binds b i x → Stands b i x PATTERN
          at (ignored z) = absurd (some z)
          at (of_pattern s) = s
          at (of_function s) = absurd (h (is ∙ function_mark s))

      pub marked_function : m ≡ FN → bound b i x ≡ params_pattern (params_of (fun_of b i x))
      marked_function e = bound_function (binds_function e)

      pub marked_pattern : (m ≡ FN → ⊥) → bound b i x ≡ pattern_of b i x
      marked_pattern h = bound_pattern (binds_pattern h)

module _ (b i : List ℕ) where
  -- a scope has as many patterns as the row has bindings
  pub newest_length : (bs : List ℕ) (n : ℕ) → length (newest b i bs n) ≡ n
  unfolding newest
  newest_length bs zero = refl
  newest_length bs (suc n) = ap suc (newest_length bs n)

  pub scope_count : (s : ScopeBindings) → length (scope_of b i s) ≡ s.count
  scope_count s = newest_length s.bindings s.count

  -- an entry that is written at or beyond n leaves the first n as they are
  newest_set : (bs : List ℕ) (n j : ℕ) (x : ℕ) → n ≤ j → newest b i (set bs j x) n ≡ newest b i bs n
  unfolding newest
  newest_set bs zero j x h = refl
  newest_set bs (suc n) j x h = rw (get_or-set_other bs j n x 0 (λ e. omega arith), newest_set bs n j x (omega arith))

  -- the root alone
  pub scope_root : {s : ScopeBindings} {x : ℕ} → Roots x s → scope_of b i s ≡ bound b i x ∷ []
  unfolding newest
  scope_root h = rw (h.row, h.count)

module _ {b i : List ℕ} {s : ScopeBindings} {x : ℕ} where
  pub root_stands : Binds b i x → Roots x s → ScopeStands b i s
  root_stands e h = record {
    some = rw h.count (omega arith);
    most = rw h.count (omega arith);
    row = ap length h.row ∙ length-set (replicate 256 IGNORED) 0 x ∙ length-replicate 256 IGNORED;
    each = λ j o. let z : j ≡ 0 = omega (arith, h.count) in rw (z, h.row) e;
  }

  -- one more, the newest
  module _ {s' : ScopeBindings} (v : ScopeStands b i s) (room : s.count < 256) where
    pub scope_insert : Inserts s x s' → scope_of b i s' ≡ bound b i x ∷ scope_of b i s
    unfolding newest
    scope_insert h =
        let z : s.count + 1 ≡ suc s.count = omega arith in
        rw (h.row, h.count, z, get_or-set_same s.bindings s.count x 0 (omega (arith, v.row)), newest_set b i s.bindings s.count s.count x (omega arith))

    pub insert_stands : Binds b i x → Inserts s x s' → ScopeStands b i s'
    insert_stands e h = record {
      some = rw h.count (omega arith);
      most = rw h.count (omega arith);
      row = ap length h.row ∙ length-set s.bindings s.count x ∙ v.row;
      each = λ j o. rw h.row (at j (omega (arith, h.count)) (eqb j s.count) refl);
    }
      where
        at : (j : ℕ) → j < s.count + 1 → (t : Bool) → eqb j s.count ≡ t → Binds b i (get_or (set s.bindings s.count x) j 0)
        at j o true q = rw (eqb-true j s.count q, get_or-set_same s.bindings s.count x 0 (omega (arith, v.row))) e
        at j o false q =
            let n : j ≡ s.count → ⊥ = eqb-false j s.count q in
            rw (get_or-set_other s.bindings s.count j x 0 n) (v.each j (omega (arith, n)))

-- what the check is given to prove the search of one entry
pub ruleset entries = (handed, absent, nears_absent, nears_found, nears_full, sought_missing, sought_found, sought_full, seeks_absent, find_ignored, binds_function, binds_pattern, marked_function, marked_pattern)
