-- Laws of what ends a block: where the field after its statements has 65535 there is nothing, else the expression that it names.
-- Assumes nothing.
use Prim.Native.Nat.{ℕ, ◌+◌, ◌<◌}
use mathlib.Core.Bool.{Bool, true, false}
use mathlib.Core.List.{List}
use mathlib.Core.Path.{◌≡◌, refl, sym}
use native.Mathlib.Omega.{arith}
use borrow.Author.Tests.{eqb-true, eqb-false}
use Rattle.std.specs.Prelude.{Some, None}
use Rattle.std.proofs.lemmas.Option.{none-some}
use Rattle.laws.specs.Table.{pick}
use Rattle.book.specs.Format.{EXPRESSION, EB}
use Rattle.book.specs.Index.{field}
use Rattle.book.specs.Stands.{Stands}
use Rattle.book.specs.Tree.{tree, expr_of, end, no_end, last_at}
use Rattle.book.proofs.Standing.{tail_stands, tail_below}
use Rattle.parts.specs.Parts.{Marked, block_end}

-- what a choice between nothing and a number says of its test
nothing_then : (t : Bool) (y : ℕ) → None ≡ pick t None (Some y) → t ≡ true
nothing_then true y o = refl
nothing_then false y o = absurd (none-some _ o)

number_else : (t : Bool) (e y : ℕ) → Some e ≡ pick t None (Some y) → (t ≡ false) × (e ≡ y)
number_else true e y o = absurd (none-some _ (sym o))
number_else false e y o = (refl, cc o)

-- x is what a block's fields hold: there is no end; e is the end, and no 65535
pub unended : (x : ℕ → ℕ) → None ≡ block_end x → x (2 + x 1) ≡ 65535
unfolding block_end
unended x o = eqb-true (x (2 + x 1)) 65535 (nothing_then _ _ o)

pub ended_is : (x : ℕ → ℕ) {e : ℕ} → Some e ≡ block_end x → e ≡ x (2 + x 1)
unfolding block_end
ended_is x o = (number_else _ _ _ o).1

pub ended_some : (x : ℕ → ℕ) {e : ℕ} → Some e ≡ block_end x → x (2 + x 1) ≡ 65535 → ⊥
unfolding block_end
ended_some x o = eqb-false (x (2 + x 1)) 65535 (number_else _ _ _ o).0

module _ {b i : List ℕ} {r : ℕ} (g : Marked b i r EB) where
  pub unended_last : None ≡ block_end (field b i r) → last_at (field b i r) (λ k. tree b i (field b i r k)) (2 + field b i r 1) ≡ no_end
  unfolding block_end
  unended_last o = rw (nothing_then _ _ o)

  -- the end is an expression, which stands before the block
  module _ {e : ℕ} (o : Some e ≡ block_end (field b i r)) where
    pub ended_last : last_at (field b i r) (λ k. tree b i (field b i r k)) (2 + field b i r 1) ≡ end (expr_of b i e)
    unfolding block_end
    ended_last = rw ((number_else _ _ _ o).0, ended_is (field b i r) o)

    pub end_stands : Stands b i e EXPRESSION
    end_stands = rw (ended_is (field b i r) o) (tail_stands g.stands EB g.is (2 + field b i r 1) (omega arith) tt refl (ended_some (field b i r) o))

    pub end_below : e < r
    end_below = rw (ended_is (field b i r) o) (tail_below g.stands EB g.is (2 + field b i r 1) (omega arith) tt refl (ended_some (field b i r) o))
