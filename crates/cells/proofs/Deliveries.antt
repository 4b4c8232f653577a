-- Laws of jets: from the words that are read to the cells that are stored.
-- Assumes nothing.
use Rattle.std.proofs.Common.{◌≡◌, ℕ, ◌+◌, ◌%◌, ◌<◌, eqb, ltb, List, sym, refl, ◌∙◌, arith, le-ltb, lt-ltb, eq-eqb, ne_eqb, Option, Some, None, ok_or, Result, Ok, Err, IsErr, IsErrAnd}
use Rattle.std.proofs.lemmas.Result.{err_from_is_err_and}
use Rattle.laws.specs.Order.{by_lt}
use Rattle.simplicity.specs.Values.{Value, unit, pair, bit, word}
use Rattle.simplicity.specs.Outcomes.{Outcome, value, failed, stuck}
use Rattle.simplicity.specs.Jets.{on_word, on_words, verify, eq8, add8, jet_on}
use Rattle.cells.specs.Cells.{unit_cell, shape_at, store, store_value, bind, deliver}
use Rattle.cells.specs.Keeping.{leads, Fresh, Keeps, Worded, Paired, of_word, of_words, jetted, Delivers}
use Rattle.cells.specs.declared.table.Kept.{Kept}
use Rattle.cells.specs.declared.jets.JetEnd.{JetEnd}
use Rattle.cells.specs.declared.jets.JetEnd.TheVariants as ends
use Rattle.cells.proofs.Outs.{add_none}
use Rattle.cells.proofs.Keepings.{keep_unit}

-- a value is delivered by storing it; a failure and a wrong shape store nothing
made : {t t' : List ℕ} {u : ℕ} {p q : Kept} (v : Value) → Fresh u p → Keeps t p (λ n. store_value n v) q t' → Delivers t u (value v) (Ok q) t'
unfolding jetted deliver leads bind
made v o d = record { same = λ n hs. rw (d.same n hs, o.room, o.used, add_none) }

delivers_failed : (t : List ℕ) (u : ℕ) → Delivers t u failed (Err ends.Failed) t
unfolding jetted deliver
delivers_failed t u = record { same = λ n hs. refl }

delivers_stuck : (t : List ℕ) (u : ℕ) → Delivers t u stuck (Err ends.Stuck) t
unfolding jetted deliver
delivers_stuck t u = record { same = λ n hs. refl }

-- where a word is wanted and there is none, `?` returns that the jet is stuck
pub stuck_exit : {A : Type 0} {w : Option A} {d : JetEnd} {r : Result Kept JetEnd} → w ≡ None → Err d ≡ ok_or w ends.Stuck → IsErr r × IsErrAnd r (λ e. e ≡ d) → r ≡ Err ends.Stuck
stuck_exit {A} {w} {d} {r} e f q =
    let g : ◌≡◌ {A = Result A JetEnd} (Err d) (Err ends.Stuck) = rw e at f in
    let p = err_from_is_err_and r q.1 in
    rw (p.1, p.2) grind arith

-- the word that verify reads
module _ {t : List ℕ} {x k : ℕ} {w : Option ℕ} (u : ℕ) (size : k ≡ 0) (d : Worded t k x w) where
  reads_bit : (f : ℕ → Outcome) {o : Outcome} → of_word w f ≡ o → on_word (shape_at t) 0 x f ≡ o
  reads_bit f e = rw size at (d.same f) ∙ e

  pub verify_stuck : w ≡ None → Delivers t u (on_word (shape_at t) 0 x verify) (Err ends.Stuck) t
  verify_stuck e = rw (reads_bit verify {o = stuck} (rw e)) (delivers_stuck t u)

  module _ {n : ℕ} (e : w ≡ Some n) where
    pub verify_fails : (n ≡ 1 → ⊥) → Delivers t u (on_word (shape_at t) 0 x verify) (Err ends.Failed) t
    unfolding verify
    verify_fails h = rw (reads_bit verify {o = failed} (rw (e, ne_eqb n 1 h))) (delivers_failed t u)

    pub verify_made : {t' : List ℕ} {p q : Kept} → n ≡ 1 → Fresh u p → Keeps t p (λ n. store n unit_cell 0 0) q t' → Delivers t u (on_word (shape_at t) 0 x verify) (Ok q) t'
    unfolding verify
    verify_made h o g = rw (reads_bit verify {o = value unit} (rw (e, eq-eqb n 1 h))) (made unit o (keep_unit g))

-- a carry, found by comparison
carry : (a b : ℕ) → a < 256 → b < 256 → ltb ((a + b) % 256) a ≡ ltb 255 (a + b)
carry a b h i =
    by_lt 255 (a + b)
    (λ g. lt-ltb ((a + b) % 256) a (omega arith) ∙ sym (lt-ltb 255 (a + b) g))
    (λ g. le-ltb ((a + b) % 256) a (omega arith) ∙ sym (le-ltb 255 (a + b) g))

-- the two words that eq_8 and add_8 read
module _ {t : List ℕ} {x k : ℕ} {w : Option (ℕ × ℕ)} (u : ℕ) (size : k ≡ 3) (d : Paired t k x w) where
  reads_words : (f : ℕ → ℕ → Outcome) {o : Outcome} → of_words w f ≡ o → on_words (shape_at t) 3 x f ≡ o
  reads_words f e = rw size at (d.same f) ∙ e

  pub words_stuck : (f : ℕ → ℕ → Outcome) → w ≡ None → Delivers t u (on_words (shape_at t) 3 x f) (Err ends.Stuck) t
  words_stuck f e = rw (reads_words f {o = stuck} (rw e)) (delivers_stuck t u)

  module _ {a b : ℕ} {t' : List ℕ} {p q : Kept} (e : w ≡ Some (a, b)) (o : Fresh u p) where
    pub eq_made : Keeps t p (λ n. store_value n (bit (eqb a b))) q t' → Delivers t u (on_words (shape_at t) 3 x eq8) (Ok q) t'
    unfolding eq8
    eq_made g = rw (reads_words eq8 {o = value (bit (eqb a b))} (rw e)) (made (bit (eqb a b)) o g)

    -- the sum wrapped around where it is less than a part
    pub add_made : {s : ℕ} → a < 256 → b < 256 → s ≡ (a + b) % 256 → Keeps t p (λ n. store_value n (pair (bit (ltb s a)) (word k s))) q t' → Delivers t u (on_words (shape_at t) 3 x add8) (Ok q) t'
    unfolding add8
    add_made h i z g =
        rw (reads_words add8 {o = value (pair (bit (ltb 255 (a + b))) (word 3 ((a + b) % 256)))} (rw e), ← carry a b h i)
        (made (pair (bit (ltb ((a + b) % 256) a)) (word 3 ((a + b) % 256))) o (rw (z, size) at g))

-- by the jet's number
module _ {t t' : List ℕ} {u j : ℕ} {r : Result Kept JetEnd} (x : ℕ) where
  pub jet_verify : j ≡ 0 → Delivers t u (on_word (shape_at t) 0 x verify) r t' → Delivers t u (jet_on (shape_at t) j x) r t'
  unfolding jet_on
  jet_verify e d = rw e d

  pub jet_eq : j ≡ 1 → Delivers t u (on_words (shape_at t) 3 x eq8) r t' → Delivers t u (jet_on (shape_at t) j x) r t'
  unfolding jet_on
  jet_eq e d = rw e d

  pub jet_add : j ≡ 2 → Delivers t u (on_words (shape_at t) 3 x add8) r t' → Delivers t u (jet_on (shape_at t) j x) r t'
  unfolding jet_on
  jet_add e d = rw e d

pub jet_missing : {t : List ℕ} {u j : ℕ} (x : ℕ) → (j ≡ 0 → ⊥) → (j ≡ 1 → ⊥) → (j ≡ 2 → ⊥) → Delivers t u (jet_on (shape_at t) j x) (Err ends.Unknown) t
unfolding jet_on jetted deliver
jet_missing {j = j} x f g h = record { same = λ n hs. rw (ne_eqb j 0 f, ne_eqb j 1 g, ne_eqb j 2 h) }
