-- What the trees of a book that READ accepts keep: numbers in their ranges; constants and witnesses as the book has them.
-- Assumes nothing.
use Prim.Native.Nat.{ℕ, ◌^◌, ◌<◌}
use mathlib.Core.Path.{◌≡◌}
use Rattle.array.specs.Split.{top_of}
use Rattle.simplicity.specs.Types.{Ty}
use Rattle.simplicity.specs.Values.{Value}
use Rattle.book.specs.Tree.{Expr, constant, witness, variable, tuple, list, in_left, in_right, variant, block, match, match_enum, jet, unwrap_left, unwrap_right, debug, assert, panic, is_none, cast, call, list_fold, array_fold, for_while, hash, no_expr, Exprs, no_exprs, more_exprs, Arms, no_arms, more_arms, Parts, no_parts, more_parts, Stmts, assign, does, end, no_end, Fun, fun}
use Rattle.shapes.specs.Shapes.{types}
use Rattle.typing.specs.Check.{arm_count}
use lib.ListN.{length}

-- document 01, Numbers: a power of two, 2 or more
pub record Bound (n : ℕ) : Type 0 where
  pub is : n ≡ 2 ^ top_of n
  pub two : 0 < top_of n

-- what is known of a constant's record and value, of a witness's type, type's record and name, and of a hash
module _ (C : ℕ → Value → Type 0) (W : Ty → ℕ → ℕ → Type 0) (M : Type 0) where
  unfoldable mutual
    pub Sound : Expr → Type 0
    Sound (constant r t v u w) = C v w
    Sound (witness r t k x) = W t k x
    Sound (variable r t x) = Unit {0}
    Sound (tuple r t es) = Sounds es
    Sound (list r t n es) = (Bound n) × (length (types es) < n) × (Sounds es)
    Sound (in_left r t e) = Sound e
    Sound (in_right r t e) = Sound e
    Sound (variant r t k n es) = (k < n) × (Sounds es)
    Sound (block r t ss) = SoundRun ss
    Sound (match r t e p l q g) = (Sound e) × (Sound l) × (Sound g)
    Sound (match_enum r t e cs) = (0 < arm_count cs) × (Sound e) × (SoundArms cs)
    Sound (jet r t s j es) = (j < 3) × (Sounds es)
    Sound (unwrap_left r t s e) = Sound e
    Sound (unwrap_right r t s e) = Sound e
    Sound (debug r t s e) = Sound e
    Sound (assert r t s e) = Sound e
    Sound (panic r t s) = Unit {0}
    Sound (is_none r t e) = Sound e
    Sound (cast r t e) = Sound e
    Sound (call r t f es) = (SoundFun f) × (Sounds es)
    Sound (list_fold r t f n e a) = (Bound n) × (SoundFun f) × (Sound e) × (Sound a)
    Sound (array_fold r t f n e a) = (0 < n) × (SoundFun f) × (Sound e) × (Sound a)
    Sound (for_while r t f w a x) = (w ≡ 2 ^ top_of w) × (SoundFun f) × (Sound a) × (Sound x)
    Sound (hash r t s ps) = M × (SoundParts ps)
    Sound no_expr = ⊥

    pub Sounds : Exprs → Type 0
    Sounds no_exprs = Unit {0}
    Sounds (more_exprs e es) = (Sound e) × (Sounds es)

    pub SoundParts : Parts → Type 0
    SoundParts no_parts = Unit {0}
    SoundParts (more_parts w e ps) = (Sound e) × (SoundParts ps)

    pub SoundArms : Arms → Type 0
    SoundArms no_arms = Unit {0}
    SoundArms (more_arms p e cs) = (Sound e) × (SoundArms cs)

    pub SoundRun : Stmts → Type 0
    SoundRun (assign s p e rest) = (Sound e) × (SoundRun rest)
    SoundRun (does s e rest) = (Sound e) × (SoundRun rest)
    SoundRun (end e) = Sound e
    SoundRun no_end = Unit {0}

    pub SoundFun : Fun → Type 0
    SoundFun (fun r t ps e) = Sound e
