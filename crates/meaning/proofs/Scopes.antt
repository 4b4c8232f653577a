-- What is in scope, twice: names with their values, and one input that pairs the newest binding's value with the older ones'.
-- Assumes nothing.
use mathlib.Core.List.{List, [], ◌∷◌, ◌++◌, map}
use mathlib.Core.Option.{some}
use mathlib.Core.Path.{◌≡◌}
use Rattle.simplicity.specs.Types.{Ty}
use Rattle.simplicity.specs.Values.{Value, pair, Of}
use Rattle.book.specs.Tree.{Pat}
use Rattle.binders.specs.Binders.{Binding, binding}
use Rattle.meaning.specs.Source.{Held, bound}

-- each binding's value is of its type, and has the pattern's shape
pub data Matches : List Binding → Value → List Held → Type 0 where
  at_root : {p : Pat} {t : Ty} {v : Value} {hs : List Held} → Of v t → bound p v ≡ some hs → Matches (binding p t ∷ []) v hs
  at_newer : {p : Pat} {t : Ty} {v w : Value} {hs env : List Held} {sc : List Binding} → Of v t → bound p v ≡ some hs → Matches sc w env → Matches (binding p t ∷ sc) (pair v w) (hs ++ env)

-- the scope that LOWER has
abbrev pub patterns : List Binding → List Pat
patterns = map (λ d. d.pattern)
