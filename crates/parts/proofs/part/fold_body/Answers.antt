-- `fold_body` meets its contract: in each arm the table computes, and the law `rest` has the default.
-- Assumes nothing.
use native.Mathlib.Omega.{arith}
use Rattle.array.specs.Split.{top_of}
use Rattle.builtins.specs.ArrayFold as arrays
use Rattle.recipes.specs.ListFold as lists
use Rattle.recipes.specs.ForWhile as loops
use Rattle.named.proofs.Storing.{done_pure}
use Rattle.parts.proofs.Ends.{done_at}
use Rattle.laws.specs.Table.{rest}
use Rattle.book.specs.Format.{CQ, CY, CW}
use Rattle.parts.specs.Parts.{foldings, fold_run}
use Rattle.named.specs.Trace.{pure}
use Rattle.parts.proofs.Marks.{lies, at_mark}
use Rattle.parts.proofs.Numbers.{from_low, to_high, fold_bound, fold_size, loop_width, loop_power}
use Rattle.parts.proofs.part.fold_body.Goals as goal

pub field_at-bound-requires : goal.field_at-bound-requires
unfolding fold_run
field_at-bound-requires c = lies (at_mark c.requires CQ c.in-33.is) 2 tt

pub list_fold-requires : goal.list_fold-requires
unfolding fold_run
list_fold-requires c = omega (arith, from_low 2 256 _ (fold_bound (at_mark c.requires CQ c.in-33.is)))

pub field_at-size-requires : goal.field_at-size-requires
unfolding fold_run
field_at-size-requires c = lies (at_mark c.requires CY c.in-34.is) 2 tt

pub array_fold-requires : goal.array_fold-requires
unfolding fold_run
array_fold-requires c =
    (omega (arith, from_low 1 256 _ (fold_size (at_mark c.requires CY c.in-34.is))), omega (arith, to_high 1 256 _ (fold_size (at_mark c.requires CY c.in-34.is))))

pub field_at-width-requires : goal.field_at-width-requires
unfolding fold_run
field_at-width-requires c = lies (at_mark c.requires CW c.in-35.is) 2 tt

pub for_while-requires : goal.for_while-requires
unfolding fold_run
for_while-requires c =
    record { width_is = loop_power (at_mark c.requires CW c.in-35.is) c.field_at-width.ensures; width_in_range = omega (arith, to_high 1 16 _ (loop_width (at_mark c.requires CW c.in-35.is))) }

pub returns-in-33 : goal.returns-in-33
unfolding fold_run
returns-in-33 c =
    rw c.in-33.is (done_at (λ w. lists.list_fold c.args.r w c.args.body) c.field_at-bound.ensures c.list_fold.ensures)

pub returns-in-34 : goal.returns-in-34
unfolding fold_run
returns-in-34 c =
    rw c.in-34.is (done_at (λ w. arrays.array_fold c.args.r w c.args.body) c.field_at-size.ensures c.array_fold.ensures)

pub returns-in-35 : goal.returns-in-35
unfolding fold_run
returns-in-35 c =
    rw c.in-35.is (done_at (λ w. loops.for_while c.args.r (top_of w) c.args.body) c.field_at-width.ensures c.for_while.ensures)

pub returns-in_default : goal.returns-in_default
unfolding fold_run
returns-in_default c =
    rw (rest (foldings c.args.book.now.bytes c.args.book.now.index c.args.r c.args.m c.args.body) c.args.m (pure c.args.body) Unit c.in_default.in_default-own.rest).1 (done_pure _ _)
