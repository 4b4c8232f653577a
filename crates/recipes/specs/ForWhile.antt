-- The loop over a counter by a function's node f: the original's recipe in its order of construction.
-- Assumes nothing.
use Rattle.std.specs.Prelude.{ℕ, zero, suc, ◌+◌, ◌*◌, Bool, true, false, ◌≡◌, List, [], ◌∷◌, ◌++◌, length, take}
use Rattle.named.specs.Trace.{Run, pure, bind}
use Rattle.named.specs.Combinators.{TAKE, DROP, injl, comp, case, pair, bit, select}
use Rattle.recipes.specs.declared.for_while.Task.{Task}
use Rattle.recipes.specs.declared.for_while.Task.TheVariants.{ForWhile0, Adapt}

-- f of the accumulator, the context and a counter of one bit
unfoldable pub turn : ℕ → Bool → ℕ → Run ℕ
turn r b f =
    bind (select r (TAKE ∷ [])) (λ accumulator.
    bind (select r (DROP ∷ [])) (λ context.
    bind (bit r b) (λ counter.
    bind (pair r context counter) (λ rest.
    bind (pair r accumulator rest) (λ input.
    comp r input f)))))

-- the loop over one bit: the turn with false; left stops, else the turn with true
unfoldable pub for_while0 : ℕ → ℕ → Run ℕ
for_while0 r f =
    bind (turn r false f) (λ first.
    bind (select r (DROP ∷ [])) (λ context.
    bind (pair r first context) (λ input.
    bind (select r (TAKE ∷ [])) (λ result.
    bind (injl r result) (λ stopped.
    bind (turn r true f) (λ second.
    bind (case r stopped second) (λ choice.
    comp r input choice)))))))

-- f where the counter's high half stands in the context
unfoldable pub adapt : ℕ → ℕ → Run ℕ
adapt r f =
    bind (select r (TAKE ∷ [])) (λ accumulator.
    bind (select r (DROP ∷ TAKE ∷ TAKE ∷ [])) (λ context.
    bind (select r (DROP ∷ TAKE ∷ DROP ∷ [])) (λ high.
    bind (select r (DROP ∷ DROP ∷ [])) (λ low.
    bind (pair r high low) (λ counter.
    bind (pair r context counter) (λ rest.
    bind (pair r accumulator rest) (λ input.
    comp r input f)))))))

-- document 01, Stored order: for-while of width 2 ^ k: two loops of half the width, the one inside the other
unfoldable pub for_while : ℕ → ℕ → ℕ → Run ℕ
for_while r zero f = for_while0 r f
for_while r (suc k) f = bind (adapt r f) (λ g. bind (for_while r k g) (λ h. for_while r k h))

-- what a task makes of node f
unfoldable pub task : ℕ → Task → ℕ → Run ℕ
task r ForWhile0 f = for_while0 r f
task r Adapt f = adapt r f

-- a row of tasks, done from its end on
unfoldable pub done_from : ℕ → List Task → ℕ → Run ℕ
done_from r [] f = pure f
done_from r (x ∷ xs) f = bind (done_from r xs f) (λ g. task r x g)

-- the tasks of a loop of width 2 ^ k: those of half the width twice, and then an adapt
unfoldable pub tasks : ℕ → List Task
tasks zero = ForWhile0 ∷ []
tasks (suc k) = tasks k ++ tasks k ++ (Adapt ∷ [])

-- the row t with its first n tasks once more behind themselves, and then an adapt
pub record Twice (n : ℕ) (t t' : List Task) : Type 0 where
  pub kept : length t' ≡ length t
  pub row : take (2 * n + 1) t' ≡ take n t ++ take n t ++ (Adapt ∷ [])
