-- `symbol_of` meets its contract: by the marks that have a symbol.
-- Assumes nothing.
use native.Mathlib.Omega.{arith}
use Rattle.parts.specs.Parts.{symbol_at}
use Rattle.parts.proofs.Marks.{symbol_lies, has_symbol, no_symbol}
use Rattle.parts.proofs.part.symbol_of.Goals as goal
use Rattle.parts.proofs.part.symbol_of.Goals.{in-36-1, in_default+else-m-lt24+then-m-lt30}

pub field_at-requires : goal.field_at-requires
field_at-requires c =
    symbol_lies c.requires
    (elim c.in-24-1.branch [
      | in-36-1 w ↦ has_symbol c.args.m (omega arith) (omega arith) (λ h. omega arith)
      | in_default+else-m-lt24+then-m-lt30 w ↦ has_symbol c.args.m (omega arith) (omega arith) (λ h. omega arith)
    ])

pub returns-in-24 : goal.returns-in-24
unfolding symbol_at
returns-in-24 c =
    elim c.in-24-1.branch [
      | in-36-1 w ↦ rw (has_symbol c.args.m (omega arith) (omega arith) (λ h. omega arith)) c.field_at.ensures
      | in_default+else-m-lt24+then-m-lt30 w ↦ rw (has_symbol c.args.m (omega arith) (omega arith) (λ h. omega arith)) c.field_at.ensures
    ]

pub returns-in_default : goal.returns-in_default
unfolding symbol_at
returns-in_default c = rw (no_symbol c.args.m (λ h. omega arith) (λ e. omega arith))

pub returns-in_default-2 : goal.returns-in_default-2
unfolding symbol_at
returns-in_default-2 c = rw (no_symbol c.args.m (λ h. omega arith) (λ e. omega arith))
