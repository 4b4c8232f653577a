-- `format::kind_of` meets its contract: each range of marks has one kind, by the law `run`.
-- Assumes nothing.
use native.Mathlib.Omega.{arith}
use mathlib.Core.Path.{◌≡◌, sym, ap}
use Rattle.laws.specs.Table.{run}
use Rattle.book.specs.Format.{kind_of, Row}
use Rattle.book.proofs.Layouts.{beyond}
use Rattle.book.proofs.format.kind_of.Goals as goal

pub returns-in-22-to-36 : goal.returns-in-22-to-36
unfolding kind_of
returns-in-22-to-36 c = run kind_of 4 22 15 tt c.args.mark (omega arith) (omega arith)

pub returns-in_default-2 : goal.returns-in_default-2
unfolding kind_of
returns-in_default-2 c =
    let z : c.args.mark ≡ 37 → ⊥ = c.in_default.in_default-own.rest.1 in
    ap (λ (r : Row). r.kind) (sym (beyond c.args.mark (omega arith)))
