-- The short bodies of calls, and how statements and matches are tied: for record r, of nodes that are there.
-- Assumes nothing.
use Rattle.std.specs.Prelude.{ℕ, true, false, [], ◌∷◌}
use Rattle.named.specs.Trace.{Run, bind}
use Rattle.named.specs.Combinators.{TAKE, DROP, iden, unit, drop, comp, case, pair, assertl, assertr, bit, select}

-- document 01, Stored order: the input beside a unit: iden, unit, pair
unfoldable pub beside_unit : ℕ → Run ℕ
beside_unit r = bind (iden r) (λ a. bind (unit r) (λ b. pair r a b))

-- document 01, Stored order: unwraps: iden, unit, pair, iden, take, assertl or assertr (symbol 0), comp
unfoldable pub unwrap_left : ℕ → Run ℕ
unwrap_left r = bind (beside_unit r) (λ p. bind (select r (TAKE ∷ [])) (λ a. bind (assertl r a 0) (λ b. comp r p b)))

unfoldable pub unwrap_right : ℕ → Run ℕ
unwrap_right r = bind (beside_unit r) (λ p. bind (select r (TAKE ∷ [])) (λ a. bind (assertr r 0 a) (λ b. comp r p b)))

-- document 01, Stored order: IsNone: iden, unit, pair, case of bit true, bit false, comp
unfoldable pub is_none : ℕ → Run ℕ
is_none r = bind (beside_unit r) (λ p. bind (bit r true) (λ y. bind (bit r false) (λ n. bind (case r y n) (λ b. comp r p b))))

-- document 01, Stored order: symbol s with arguments a and body b: bit false, args paired after it, drop body, assertl with s, comp
unfoldable pub with_symbol : ℕ → ℕ → ℕ → ℕ → Run ℕ
with_symbol r s a b = bind (bit r false) (λ z. bind (pair r z a) (λ p. bind (drop r b) (λ d. bind (assertl r d s) (λ h. comp r p h))))

-- document 01, Stored order: node a beside the environment, as an assignment's value and a scrutinee: iden, pair
unfoldable pub paired : ℕ → ℕ → Run ℕ
paired r a = bind (iden r) (λ e. pair r a e)

-- document 01, Stored order: statement e with node a and the rest b: pair, iden, drop, comp
unfoldable pub followed : ℕ → ℕ → ℕ → Run ℕ
followed r a b = bind (pair r a b) (λ p. bind (select r (DROP ∷ [])) (λ s. comp r p s))
