-- The fold of a list by a function's node f: the original's recipe in its order of construction.
-- Assumes nothing.
use Rattle.std.specs.Prelude.{ℕ, zero, suc, ◌-◌, [], ◌∷◌}
use Rattle.array.specs.Split.{top_of}
use Rattle.named.specs.Trace.{Run, pure, bind}
use Rattle.named.specs.Combinators.{TAKE, DROP, drop, comp, case, pair, select, applied}

-- the fold of twice as many elements as f folds: the first half from the start, the second from what that gives
unfoldable pub next_array : ℕ → ℕ → Run ℕ
next_array r f =
    bind (select r (TAKE ∷ TAKE ∷ [])) (λ first.
    bind (select r (DROP ∷ [])) (λ start.
    bind (applied r f first start) (λ middle.
    bind (select r (TAKE ∷ DROP ∷ [])) (λ second.
    applied r f second middle))))

-- the arm with a block: f folds it from the start, g the rest from what that gives
unfoldable pub with_block : ℕ → ℕ → ℕ → Run ℕ
with_block r f g =
    bind (select r (TAKE ∷ [])) (λ block.
    bind (select r (DROP ∷ DROP ∷ [])) (λ start.
    bind (applied r f block start) (λ middle.
    bind (select r (DROP ∷ TAKE ∷ [])) (λ rest.
    applied r g rest middle))))

-- the fold of a list of twice the bound that g folds: without a block g alone goes on
unfoldable pub next_fold : ℕ → ℕ → ℕ → Run ℕ
next_fold r f g =
    bind (select r (TAKE ∷ TAKE ∷ [])) (λ block.
    bind (select r (TAKE ∷ DROP ∷ [])) (λ rest.
    bind (select r (DROP ∷ [])) (λ start.
    bind (pair r rest start) (λ kept.
    bind (pair r block kept) (λ input.
    bind (drop r g) (λ without.
    bind (with_block r f g) (λ with.
    bind (case r without with) (λ choice.
    comp r input choice))))))))

-- k doublings of the bound, from the fold f of a block and the fold g of a list
unfoldable pub doubled : ℕ → ℕ → ℕ → ℕ → Run ℕ
doubled r zero f g = pure g
doubled r (suc k) f g = bind (next_array r f) (λ f'. bind (next_fold r f' g) (λ g'. doubled r k f' g'))

-- document 01, Stored order: the list fold of bound n; a list of bound 2 is none, or the one element that f folds
unfoldable pub list_fold : ℕ → ℕ → ℕ → Run ℕ
list_fold r n f = bind (select r (DROP ∷ [])) (λ keep. bind (case r keep f) (λ g. doubled r (top_of n - 1) f g))
