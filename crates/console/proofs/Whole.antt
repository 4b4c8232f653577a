-- What `read_full` put into a part is the whole input, or fills the part.
-- Assumes nothing.
use Rattle.std.proofs.Common.{◌≡◌, ℕ, ◌+◌, ◌<◌, ◌≤◌, List, ◌++◌, Option, None, Some, IfSome, Result, Ok, Err, OnOk, sym, ap, ◌∙◌, subst, ⊎_elim, arith, length, take, append-nil, length-append, length-take-le}
use Rattle.std.proofs.lemmas.Bool.{cases_lt}
use Rattle.std.specs.Io.KnownBytes.{Consumes, IsAtEnd}

pub whole_or_full : (A B : Option (List ℕ)) (part : List ℕ) (n : ℕ) (P : List ℕ → Type 0) → n ≤ length part → Consumes A B (take n part) → (n < length part → IsAtEnd B) → P (take n part) → ((xs : List ℕ) → n ≡ length part → n ≤ length xs → P xs) → IfSome A P
whole_or_full None B part n P fits bytes end whole full = tt
whole_or_full (Some xs) None part n P fits bytes end whole full = absurd bytes
whole_or_full (Some xs) (Some ys) part n P fits bytes end whole full =
    ⊎_elim
    (λ (short : n < length part). subst P (sym (bytes ∙ ap (λ l. take n part ++ l) (end short) ∙ append-nil (take n part))) whole)
    (λ (long : length part ≤ n).
    let is : length xs ≡ length (take n part) + length ys = ap length bytes ∙ length-append (take n part) ys in
    let came : length (take n part) ≡ n = length-take-le n part fits in
    full xs (omega arith) (omega arith))
    (cases_lt n (length part))

-- what holds of an answer to the bytes that came holds of the answer to the whole input, if they are the same
pub answered : {T E A : Type 0} (f : List ℕ → A) (r : Result T E) (known : Option (List ℕ)) (a : A) (Q : A → Type 0) → OnOk r (Q a) → IfSome known (λ xs. f xs ≡ a) → OnOk r (IfSome known (λ xs. Q (f xs)))
answered f (Ok x) None a Q q e = tt
answered f (Ok x) (Some xs) a Q q e = subst Q (sym e) q
answered f (Err x) known a Q q e = tt
