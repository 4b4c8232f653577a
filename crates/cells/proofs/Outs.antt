-- Laws on outcomes: nodes entered before, and one thing after another.
-- Assumes nothing.
use Rattle.std.proofs.Common.{◌≡◌, ℕ, ◌+◌, sym, refl, add_assoc, zero-add}
use Rattle.cells.specs.Cells.{World, Out, got, halt, add, bind}

pub add_none : (o : Out) → add 0 o ≡ o
unfolding add
add_none (got s v w) = rw zero-add
add_none (halt s e n) = rw zero-add

pub add_add : (t s : ℕ) (o : Out) → add t (add s o) ≡ add (t + s) o
unfolding add
add_add t s (got r v w) = rw add_assoc
add_add t s (halt r e n) = rw add_assoc

pub bind_add : (t : ℕ) (o : Out) (f : ℕ → World → Out) → bind (add t o) f ≡ add t (bind o f)
unfolding add bind
bind_add t (got s v w) f = sym (add_add t s (f v w))
bind_add t (halt s e n) f = refl

-- a value that is there already
pub bind_got : (v : ℕ) (w : World) (f : ℕ → World → Out) → bind (got 0 v w) f ≡ f v w
unfolding bind
bind_got v w f = add_none (f v w)

-- what is done in a row is grouped either way
pub bind_bind : (o : Out) (f g : ℕ → World → Out) → bind (bind o f) g ≡ bind o (λ v w. bind (f v w) g)
unfolding bind
bind_bind (got t v w) f g = bind_add t (f v w) g
bind_bind (halt t e n) f g = refl
