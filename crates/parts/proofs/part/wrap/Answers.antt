-- `wrap` meets its contract: in each arm the table computes, and the law `rest` has the default.
-- Assumes nothing.
use Rattle.named.proofs.Storing.{done_pure}
use Rattle.laws.specs.Table.{rest}
use Rattle.book.specs.Format.{EN}
use Rattle.parts.specs.Parts.{wrappings, wrap_run}
use Rattle.named.specs.Trace.{pure}
use Rattle.parts.proofs.Marks.{at_mark}
use Rattle.parts.proofs.part.wrap.Goals as goal

pub variant-requires : goal.variant-requires
unfolding wrap_run
variant-requires c = at_mark c.requires EN c.in-18.is

pub returns-in-16 : goal.returns-in-16
unfolding wrap_run
returns-in-16 c = rw c.in-16.is c.put.ensures

pub returns-in-17 : goal.returns-in-17
unfolding wrap_run
returns-in-17 c = rw c.in-17.is c.put-in-17.ensures

pub returns-in-18 : goal.returns-in-18
unfolding wrap_run
returns-in-18 c = rw c.in-18.is c.variant.ensures

pub returns-in_default : goal.returns-in_default
unfolding wrap_run
returns-in_default c =
    rw (rest (wrappings c.args.book.now.bytes c.args.book.now.index c.args.r c.args.m c.args.inner) c.args.m (pure c.args.inner) Unit c.in_default.in_default-own.rest).1 (done_pure _ _)
