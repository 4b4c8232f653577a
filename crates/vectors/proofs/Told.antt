-- The verdicts on the vectors that were replayed, and the lines that were printed of them.
-- Assumes nothing.
use Rattle.std.proofs.Common.{◌≡◌, ℕ, ◌+◌, ◌≤◌, Bool, true, false, List, [], ◌∷◌, ◌++◌, length, codes, Option, Result, Ok, Err, OnOk, refl, sym, ap, ◌∙◌, subst, arith, length-append}
use Rattle.std.proofs.KnownBytes.{Appends-nil, Appends-trans}
use Rattle.std.proofs.lemmas.List.{flat_map_more}
use Rattle.std.specs.Io.KnownBytes.{Appends}
use Rattle.console.specs.Lines.{count_line}
use Rattle.vectors.specs.Replayed.{wrongs, wrong_lines, total_lines, Replayed}

right_last : (i : ℕ) (vs : List Bool) → wrongs i (vs ++ (true ∷ [])) ≡ wrongs i vs
right_last i [] = refl
right_last i (true ∷ vs) = right_last (i + 1) vs
right_last i (false ∷ vs) = ap (λ l. i ∷ l) (right_last (i + 1) vs)

wrong_last : (i : ℕ) (vs : List Bool) → wrongs i (vs ++ (false ∷ [])) ≡ wrongs i vs ++ ((i + length vs) ∷ [])
wrong_last i [] = ap (λ n. n ∷ []) (let e : i ≡ i + 0 = omega arith in e)
wrong_last i (true ∷ vs) =
    let e : (i + 1) + length vs ≡ i + length (true ∷ vs) = omega arith in
    wrong_last (i + 1) vs ∙ ap (λ n. wrongs (i + 1) vs ++ (n ∷ [])) e
wrong_last i (false ∷ vs) =
    let e : (i + 1) + length vs ≡ i + length (false ∷ vs) = omega arith in
    ap (λ l. i ∷ l) (wrong_last (i + 1) vs ∙ ap (λ n. wrongs (i + 1) vs ++ (n ∷ [])) e)

-- so many verdicts, so many of them wrong, and a line for each of these between old and new
pub record Told (old new : Option (List ℕ)) (all wrong : ℕ) (vs : List Bool) : Type 0 where
  pub count : length vs ≡ all
  pub wrong_count : wrong ≡ length (wrongs 0 vs)
  pub lines : Appends old new (wrong_lines (wrongs 0 vs))

pub told_none : (a : Option (List ℕ)) → Told a a 0 0 []
told_none a = record { count = refl; wrong_count = refl; lines = Appends-nil a }

longer : (vs : List Bool) (v : Bool) (n : ℕ) → length vs ≡ n → length (vs ++ (v ∷ [])) ≡ n + 1
longer vs v n e = length-append vs (v ∷ []) ∙ ap (λ m. m + 1) e

pub told_right : (a b : Option (List ℕ)) (n w : ℕ) (vs : List Bool) (v : Bool) → v ≡ true → Told a b n w vs → Told a b (n + 1) w (vs ++ (v ∷ []))
told_right a b n w vs v e t =
    let same : wrongs 0 vs ≡ wrongs 0 (vs ++ (v ∷ [])) = sym (ap (λ z. wrongs 0 (vs ++ (z ∷ []))) e ∙ right_last 0 vs) in
    record {
      count = longer vs v n t.count;
      wrong_count = t.wrong_count ∙ ap length same;
      lines = subst (λ ws. Appends a b (wrong_lines ws)) same t.lines;
    }

pub told_wrong : (a b c : Option (List ℕ)) (n w : ℕ) (vs : List Bool) (v : Bool) → v ≡ false → Told a b n w vs → Appends b c (count_line (codes "wrong") n) → Told a c (n + 1) (w + 1) (vs ++ (v ∷ []))
told_wrong a b c n w vs v e t p =
    let ws = wrongs 0 vs in
    let place : n ≡ 0 + length vs = omega (arith, t.count) in
    let more : ws ++ (n ∷ []) ≡ wrongs 0 (vs ++ (v ∷ [])) = ap (λ m. ws ++ (m ∷ [])) place ∙ sym (ap (λ z. wrongs 0 (vs ++ (z ∷ []))) e ∙ wrong_last 0 vs) in
    let line = flat_map_more (λ k. count_line (codes "wrong") k) [] ws n in
    record {
      count = longer vs v n t.count;
      wrong_count = ap (λ m. m + 1) t.wrong_count ∙ sym (length-append ws (n ∷ [])) ∙ ap length more;
      lines = subst (λ l. Appends a c (wrong_lines l)) more (subst (Appends a c) line (Appends-trans a b c _ _ t.lines p));
    }

told_all : (a b c : Option (List ℕ)) (n w : ℕ) (vs : List Bool) → n ≤ 1000000 → Told a b n w vs → Appends b c (total_lines n w) → Replayed vs a c
told_all a b c n w vs most t p = (
  subst (λ m. m ≤ 1000000) (sym t.count) most,
  Appends-trans a b c _ _ t.lines (subst (λ m. Appends b c (total_lines (length vs) m)) t.wrong_count (subst (λ m. Appends b c (total_lines m w)) (sym t.count) p)),
)

-- what is printed at the end, and what else holds of the verdicts
pub told_ok : {T E : Type 0} (X : List Bool → Type 0) (r : Result T E) (a b c : Option (List ℕ)) (n all w : ℕ) (vs : List Bool) → n ≤ 1000000 → all ≡ n → Told a b n w vs → X vs → OnOk r (Appends b c (total_lines all w)) → OnOk r ((us : List Bool) × Replayed us a c × X us)
told_ok X (Ok x) a b c n all w vs most e t h p = (vs, told_all a b c n w vs most t (subst (λ m. Appends b c (total_lines m w)) e p), h)
told_ok X (Err x) a b c n all w vs most e t h p = tt
