-- `list` meets its contract: the first block, and then the rest at half the bound.
-- Assumes nothing.
use native.Mathlib.Omega.{arith}
use Rattle.named.proofs.Storing.{then, halt, handed}
use Rattle.parts.proofs.Lists.{list_none, list_one, list_empty, list_filled, empty_halt, filled_halt}
use Rattle.parts.proofs.Numbers.{power_halved}
use Rattle.parts.proofs.part.+list.Goals as goal

pub returns-in_err-block : goal.returns-in_err-block
returns-in_err-block t c = rw (handed c.from_residual.ensures.1) (empty_halt _ _ _ c.requires.1 c.if-roots-half.true c.in_err-block.ensures)

pub returns-then-half-eq1 : goal.returns-then-half-eq1
returns-then-half-eq1 t c = rw (list_none _ _ _ c.if-half-eq1.true c.if-roots-half.true) c.in_ok-block.ensures

pub list-requires : goal.list-requires
list-requires t c =
    let h = power_halved _ c.requires.1 c.if-half-eq1.false in (omega (arith, h.less), (omega (arith, h.double), h.power))

pub returns-in_err-rest : goal.returns-in_err-rest
returns-in_err-rest t c =
    rw (list_empty _ _ _ c.requires.1 c.if-half-eq1.false c.if-roots-half.true, handed c.from_residual-in_err-rest.ensures.1)
    (then _ c.in_ok-block.ensures (halt _ c.in_err-rest.ensures))

pub returns-then-roots-half : goal.returns-then-roots-half
returns-then-roots-half t c =
    rw (list_empty _ _ _ c.requires.1 c.if-half-eq1.false c.if-roots-half.true)
    (then _ c.in_ok-block.ensures (then _ c.in_ok-rest.ensures c.put.ensures))

pub returns-in_err-block-2 : goal.returns-in_err-block-2
returns-in_err-block-2 t c =
    rw (handed c.from_residual-in_err-block-2.ensures.1)
    (filled_halt _ _ _ c.requires.1 c.if-roots-half.false c.requires.0 c.split_at.ensures.front c.in_err-block-2.ensures)

pub returns-then-half-eq1-2 : goal.returns-then-half-eq1-2
returns-then-half-eq1-2 t c = rw (list_one _ _ _ c.if-half-eq1-2.true c.if-roots-half.false c.requires.0 c.split_at.ensures.front) c.in_ok-block-2.ensures

pub list-requires-2 : goal.list-requires-2
list-requires-2 t c =
    let h = power_halved _ c.requires.1 c.if-half-eq1-2.false in (omega (arith, h.less), (omega (arith, h.double, c.split_at.ensures.back_len), h.power))

pub returns-in_err-rest-2 : goal.returns-in_err-rest-2
returns-in_err-rest-2 t c =
    rw (list_filled _ _ _ c.requires.1 c.if-half-eq1-2.false c.if-roots-half.false c.split_at.ensures.front c.split_at.ensures.back, handed c.from_residual-in_err-rest-2.ensures.1)
    (then _ c.in_ok-block-2.ensures (halt _ c.in_err-rest-2.ensures))

pub returns : goal.returns
returns t c =
    rw (list_filled _ _ _ c.requires.1 c.if-half-eq1-2.false c.if-roots-half.false c.split_at.ensures.front c.split_at.ensures.back)
    (then _ c.in_ok-block-2.ensures (then _ c.in_ok-rest-2.ensures c.put-2.ensures))
