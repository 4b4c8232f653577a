-- `type_of_param` meets its contract: each parameter before k has another name.
-- Assumes nothing.
use mathlib.Core.Path.{refl}
use Rattle.pattern.proofs.Records.{params_count, params_lie}
use Rattle.binders.proofs.Scopes.{type_lies, params_none, params_all, params_next, params_found}
use Rattle.binders.proofs.type_of_param.Goals as goal

pub field_at-n-requires : goal.field_at-n-requires
field_at-n-requires c = search params_count

pub loop-k-init : goal.loop-k-init
loop-k-init c = search params_none

pub field_at-requires : goal.field_at-requires
field_at-requires c = search params_lie

pub field_at-requires-then-field_at-name : goal.field_at-requires-then-field_at-name
field_at-requires-then-field_at-name c = type_lies c.requires _ _ _ c.field_at-n.ensures c.loop-k-test.true refl

pub returns-then-field_at-name : goal.returns-then-field_at-name
returns-then-field_at-name c =
    params_found c.requires c.loop-k.invariant _ _ c.field_at-n.ensures c.loop-k-test.true refl c.field_at.ensures _ _ c.if-field_at-name.true refl c.field_at-then-field_at-name.ensures

pub loop-k-preserved : goal.loop-k-preserved
loop-k-preserved c =
    params_next c.requires c.loop-k.invariant _ _ c.field_at-n.ensures c.loop-k-test.true refl c.field_at.ensures _ refl c.if-field_at-name.false

pub returns : goal.returns
returns c = params_all c.requires c.loop-k.invariant c.loop-k-test.false
