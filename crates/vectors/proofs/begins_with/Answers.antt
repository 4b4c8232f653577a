-- `begins_with`: the bytes that are due are the first ones of the table.
use Rattle.std.proofs.Common.{get_or, length, sym, ap, ◌∙◌}
use Rattle.std.proofs.lemmas.Bool.Decides.{Decides-eqb}
use Rattle.std.proofs.lemmas.List.{ext_get_or, get_or-take, length-take-le}
use Rattle.std.proofs.lemmas.Slice.Eq.{slice_eq-Decides}
use Rattle.vectors.proofs.begins_with.Goals as goal

pub returns-clause-begins : goal.returns-clause-begins
returns-clause-begins c told k l =
    let same = (slice_eq-Decides Decides-eqb _ _ _ c.starts_with.ensures.value).0 told in
    sym (ap (λ s. get_or s k 0) same ∙ get_or-take _ c.args.table.now k 0 l)

pub returns-clause-seen : goal.returns-clause-seen
returns-clause-seen c fits alike =
    let t = c.args.table.now in
    let n = length c.args.due.now in
    let same = ext_get_or 0 _ _ (sym (length-take-le n t fits)) (λ k l. sym (get_or-take n t k 0 l ∙ alike k l)) in
    (slice_eq-Decides Decides-eqb _ _ _ c.starts_with.ensures.value).1 same
