-- `call_agrees` meets its contract: in each arm the mark is known, and nothing is asked of what is left.
-- Assumes nothing.
use Rattle.laws.specs.Table.{free}
use Rattle.shapes.proofs.Marks.{call_rest, call_marks}
use Rattle.shapes.proofs.whole.call_agrees.Goals as goal

pub returns-in_default : goal.returns-in_default
returns-in_default c = call_rest c.requires.declares.marked c.requires.m_in_range (free call_marks _ Unit c.in_default.in_default-own.rest).1
