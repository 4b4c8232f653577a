-- `read::index_book` meets its contract: SIZE, then record by record.
-- Assumes nothing.
use Rattle.book.proofs.Going.{unsized_answers, records_answer, refusal_answers}
use Rattle.book.proofs.Joins.{chained_start}
use Rattle.book.specs.Read.{sized}
use lib.ListN.{length}
use lib.Dec.{ltb}
use Rattle.std.proofs.lemmas.Bool.Decides.{nat_tests}
use Rattle.laws.specs.Table.{both}
use mathlib.Core.Bool.{true, false}
use mathlib.Core.Path.{◌≡◌}
use native.Mathlib.Omega.{arith}
use Rattle.book.proofs.read.index_book.Goals as goal

pub returns-then-not-contains : goal.returns-then-not-contains
unfolding sized
returns-then-not-contains c =
    let e : both (ltb 0 (length c.args.book.now)) (ltb (length c.args.book.now) 65536) ≡ false = grind (arith, nat_tests) in
    rw c.refusal.ensures (unsized_answers _ e)

pub read_records-requires-clause-chained : goal.read_records-requires-clause-chained
read_records-requires-clause-chained c = rw c.new-reader.ensures (chained_start _)

pub returns-in-Ok : goal.returns-in-Ok
unfolding sized
returns-in-Ok c =
    let e : both (ltb 0 (length c.args.book.now)) (ltb (length c.args.book.now) 65536) ≡ true = grind (arith, nat_tests) in
    records_answer _ e c.read_records.result c.read_records.new.self.index (rw c.new-reader.ensures at c.read_records.ensures) _ c.in-Ok.is

pub returns-in-Err : goal.returns-in-Err
unfolding sized
returns-in-Err c =
    let e : both (ltb 0 (length c.args.book.now)) (ltb (length c.args.book.now) 65536) ≡ true = grind (arith, nat_tests) in
    refusal_answers _ e c.read_records.result c.read_records.new.self.index (rw c.new-reader.ensures at c.read_records.ensures) _ c.in-Err.is
