-- `params_repeat` meets its contract: the names before parameter k were met, on top of none with this stamp.
-- Assumes nothing.
use mathlib.Core.Path.{refl, sym}
use native.Mathlib.Omega.{arith}
use borrow.Author.Rules.{rules}
use Rattle.pattern.proofs.Records.{params_count, params_lie}
use Rattle.binders.proofs.Names.{names_params}
use Rattle.binders.proofs.Tallies.{met_next, met_fresh, notes_twice, notes_new_all, meets_none, meets_named, meets_twice, meets_more, meets_same}
use Rattle.binders.proofs.params_repeat.Goals as goal
use Rattle.binders.proofs.params_repeat.Goals.{in-Named, in-Unnamed}

pub field_at-n-requires : goal.field_at-n-requires
field_at-n-requires c = search params_count

pub loop-k-init : goal.loop-k-init
loop-k-init c = meets_none (met_next c.requires.met refl) (search names_params)

pub field_at-name-requires : goal.field_at-name-requires
field_at-name-requires c = search params_lie

pub returns-in-Twice : goal.returns-in-Twice
returns-in-Twice c =
    let d = meets_twice c.loop-k.invariant _ (omega arith) (omega arith) (rw c.field_at-name.ensures at c.note.ensures) (search rules) in (sym (notes_twice d (met_fresh c.requires.met refl) refl), d.row)

pub loop-k-preserved : goal.loop-k-preserved
loop-k-preserved c =
    let one = rw c.field_at-name.ensures at c.note.ensures in elim c.match-note.branch [ in-Named w ↦ meets_more c.loop-k.invariant _ (omega arith) (omega arith) one _ (omega arith) w.in-Named.is refl | in-Unnamed w ↦ meets_same c.loop-k.invariant _ (omega arith) (omega arith) one _ (omega arith) w.in-Unnamed.is refl ]

pub returns : goal.returns
returns c =
    (sym (notes_new_all (meets_named c.loop-k.invariant (omega arith)) (met_fresh c.requires.met refl) refl), c.loop-k.invariant.row)
