-- `function` meets its contract: its parameter names, its body, and what it gives.
-- Assumes nothing.
use Rattle.typing.proofs.Facts.{params_lie, gives_lies, body_lies, body_part}
use Rattle.typing.proofs.Judging.{handed}
use Rattle.typing.proofs.Leaves.{fun_live, no_enough, fun_twice, fun_halt, fun_then}
use Rattle.typing.proofs.cycle.Judge.function.Goals as goal

pub returns-in_err-hold : goal.returns-in_err-hold
returns-in_err-hold c = fun_twice c.requires.stands c.requires.rows c.hold.ensures (handed c.in_err-hold.was c.from_residual.ensures.1)

pub field_at-n-requires : goal.field_at-n-requires
field_at-n-requires c = params_lie c.requires.stands

pub field_at-e-requires : goal.field_at-e-requires
field_at-e-requires c = body_lies c.requires.stands _ c.field_at-n.ensures

pub expression-requires : goal.expression-requires
expression-requires c =
    let p = body_part c.requires.stands _ c.field_at-n.ensures c.field_at-e.ensures in (p.stands, (record { rows = c.requires.rows; live = fun_live c.requires.stands }, no_enough p.stands))

pub returns-in_err-expression : goal.returns-in_err-expression
returns-in_err-expression c =
    fun_halt c.requires.stands c.requires.rows c.hold.ensures c.in_ok-hold.was c.field_at-n.ensures c.field_at-e.ensures c.expression.ensures (handed c.in_err-expression.was c.from_residual-in_err-expression.ensures.1)

pub type_of-requires : goal.type_of-requires
type_of-requires c = (body_part c.requires.stands _ c.field_at-n.ensures c.field_at-e.ensures).stands

pub field_at-requires : goal.field_at-requires
field_at-requires c = gives_lies c.requires.stands

pub returns : goal.returns
returns c =
    fun_then c.requires.stands c.requires.rows c.hold.ensures c.in_ok-hold.was c.field_at-n.ensures c.field_at-e.ensures c.expression.ensures _ _ c.in_ok-expression.was c.type_of.ensures.0 c.type_of.ensures.1 c.field_at.ensures c.agree.ensures
