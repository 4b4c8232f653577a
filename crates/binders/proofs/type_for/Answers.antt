-- `type_for` meets its contract: what the live bindings have, or else the base.
-- Assumes nothing.
use mathlib.Core.Path.{sym, ◌∙◌}
use borrow.Author.Rules.{rules}
use Rattle.binders.proofs.Scopes.{newest_found, newest_root, newest_params}
use Rattle.binders.proofs.type_for.Goals as goal

pub returns-then-is_some : goal.returns-then-is_some
returns-then-is_some c = (newest_found c.newest_type-found.ensures.0 (sym c.is_some.ensures ∙ c.if-is_some.true), search rules)

pub returns-in_err-f : goal.returns-in_err-f
returns-in_err-f c =
    (rw c.from_residual.ensures (newest_root c.newest_type-found.ensures.0 (sym c.is_some.ensures ∙ c.if-is_some.false) c.in_err-f.was), search rules)

pub returns : goal.returns
returns c = (newest_params c.newest_type-found.ensures.0 (sym c.is_some.ensures ∙ c.if-is_some.false) c.in_ok-f.was c.type_of_param.ensures, search rules)
