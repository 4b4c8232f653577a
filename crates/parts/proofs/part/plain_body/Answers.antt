-- `plain_body` meets its contract: in each arm the table computes, and the mark that is left is a hash's.
-- Assumes nothing.
use Rattle.laws.specs.Table.{free}
use Rattle.book.specs.Format.{CJ, CH}
use Rattle.parts.specs.Parts.{plain_run}
use Rattle.parts.proofs.Marks.{plain_marks, lies, at_mark, plain_rest}
use Rattle.parts.proofs.part.plain_body.Goals as goal

pub field_at-jet-requires : goal.field_at-jet-requires
unfolding plain_run
field_at-jet-requires c = lies (at_mark c.requires.marked CJ c.in-24.is) 2 tt

pub hash_body-requires : goal.hash_body-requires
unfolding plain_run
hash_body-requires c =
    at_mark c.requires.marked CH (plain_rest c.requires.marked c.requires.is_call_is c.requires.is_functional_is (free plain_marks c.args.m Unit c.in_default.in_default-own.rest).1)

pub returns-in-24 : goal.returns-in-24
unfolding plain_run
returns-in-24 c = rw (c.in-24.is, ← c.field_at-jet.ensures) c.put.ensures

pub returns-in-25 : goal.returns-in-25
unfolding plain_run
returns-in-25 c = rw c.in-25.is c.unwrap_left.ensures

pub returns-in-26 : goal.returns-in-26
unfolding plain_run
returns-in-26 c = rw c.in-26.is c.unwrap_right.ensures

pub returns-in-27 : goal.returns-in-27
unfolding plain_run
returns-in-27 c = rw c.in-27.is c.put-in-27.ensures

pub returns-in-28 : goal.returns-in-28
unfolding plain_run
returns-in-28 c = rw c.in-28.is c.put-in-28.ensures

pub returns-in-29 : goal.returns-in-29
unfolding plain_run
returns-in-29 c = rw c.in-29.is c.put-in-29.ensures

pub returns-in-30 : goal.returns-in-30
unfolding plain_run
returns-in-30 c = rw c.in-30.is c.is_none.ensures

pub returns-in_default : goal.returns-in_default
unfolding plain_run
returns-in_default c =
    rw (plain_rest c.requires.marked c.requires.is_call_is c.requires.is_functional_is (free plain_marks c.args.m Unit c.in_default.in_default-own.rest).1) c.hash_body.ensures
