-- The verdicts on a stream of books, from the turns of a replay.
-- Assumes nothing.
use Rattle.std.proofs.Common.{◌≡◌, ℕ, Bool, List, [], ◌∷◌, length, Option, Result, IfOk, OnOk, inr, sym, ap, subst}
use Rattle.std.proofs.lemmas.Result.{IfOk-weaker, on_ok_weaker}
use Rattle.std.specs.Borrow.{Bor}
use Rattle.std.specs.Io.KnownBytes.{Consumes}
use Rattle.std.specs.List.{FoldsTo}
use Rattle.book.specs.declared.fault.Numbers.{Numbers}
use Rattle.vectors.specs.Books.{due_in, size_in, BookTurn, IsJudged, IsVerdict}

-- a part that is as long as a book should be, and that was judged
pub judged_part : {E : Type 0} (says : Bor (List ℕ) → Numbers → Bool → Type 0) (due : Numbers) (size : ℕ) (left left' : Option (List ℕ)) (r : Result Bool E) (part : List ℕ)
    → IfOk r (λ v. IsJudged says due (length part) left v left') → length part ≡ size → IfOk r (λ v. IsVerdict says due size left v left')
judged_part says due size left left' r part told e = subst (λ n. IfOk r (λ v. IsVerdict says due n left v left')) e (IfOk-weaker r _ _ (λ v j. inr j) told)

-- the steps of a replay are steps of R over what is left of the input, where each step from f is one, and leaves f as it was
module _ {F L : Type 0} (step : F × L → Bool → F × L → Type 0) (R : L → Bool → L → Type 0) (f : F) where
  each_given : ((p : L) (v : Bool) (q : F × L) → step (f, p) v q → R p v q.1 × (q.0 ≡ f)) → (vs : List Bool) (p : L) (last : F × L) → FoldsTo step (f, p) vs last → FoldsTo R p vs last.1
  each_given gives [] p last e = ap (λ q. q.1) e
  each_given gives (v ∷ vs) p last t =
      let one = gives p v t.0 t.1 in
      (t.0.1, one.0, each_given gives vs t.0.1 last (subst (λ (g : F). FoldsTo step (g, t.0.1) vs last) one.1 t.2))

  pub told_each : {T E : Type 0} (X : List Bool → Type 0) (Y : List Bool → L → Type 0) (r : Result T E) (p : L)
      → OnOk r ((vs : List Bool) × X vs × ((last : F) × (rest : L) × FoldsTo step (f, p) vs (last, rest) × Y vs rest))
      → ((p : L) (v : Bool) (q : F × L) → step (f, p) v q → R p v q.1 × (q.0 ≡ f))
      → OnOk r ((vs : List Bool) × X vs × ((rest : L) × FoldsTo R p vs rest × Y vs rest))
  told_each X Y r p told gives = on_ok_weaker r (λ t. (t.0, t.1, (t.2.1, each_given gives t.0 p (t.2.0, t.2.1) t.2.2, t.2.3))) told

-- a turn whose call judged the book that its head tells of
pub judged_turn : (says : Bor (List ℕ) → Numbers → Bool → Type 0) (head : List ℕ) (due : Numbers) (size : ℕ) (left mid end left' : Option (List ℕ)) (v : Bool)
    → length head ≡ 8 → Consumes left mid head → (due ≡ due_in head) × (size ≡ size_in head) → left' ≡ end → IsVerdict says due size mid v end → BookTurn says left v left'
judged_turn says head due size left mid end left' v n came made e j =
    (head, mid, n, came, subst (λ d. IsVerdict says d (size_in head) mid v left') made.0 (subst (λ s. IsVerdict says due s mid v left') made.1 (subst (IsVerdict says due size mid v) (sym e) j)))
