-- `end_of` meets its contract: the field after the statements tells, which is the record's last.
use Rattle.std.proofs.Common.{◌+◌, arith, rules}
use Rattle.book.specs.Format.{EB}
use Rattle.book.specs.Index.{field}
use Rattle.book.proofs.Standing.{last_lies}
use Rattle.parts.specs.Parts.{block_end}
use Rattle.parts.proofs.Marks.{lies}
use Rattle.parts.proofs.view.end_of.Goals as goal

pub field_at-n-requires : goal.field_at-n-requires
field_at-n-requires c = lies c.requires 1 tt

pub field_at-end-requires : goal.field_at-end-requires
field_at-end-requires c =
    let n = field c.args.book.now.bytes c.args.book.now.index c.args.r 1 in
    rw c.field_at-n.ensures (last_lies c.requires.stands EB c.requires.is (2 + n) (omega arith) tt)

pub returns-then-end : goal.returns-then-end
unfolding block_end
returns-then-end c = search rules

pub returns : goal.returns
unfolding block_end
returns c = search rules
