-- `is_taken` meets its contract: the argument's type and the parameter's are one record's.
-- Assumes nothing.
use Rattle.shapes.proofs.Constructs.{is_test}
use Rattle.shapes.proofs.Functions.{argument, param_at, param_lies}
use Rattle.shapes.proofs.whole.is_taken.Goals as goal

pub part_type-requires : goal.part_type-requires
part_type-requires c =
    let both = argument c.requires.elements c.requires.k_in_range in
    record { lies = both.0; stands = both.1 }

pub field_at-requires : goal.field_at-requires
field_at-requires c = param_lies c.requires.stands _ c.requires.n_is c.requires.k_in_range

pub returns : goal.returns
returns c =
    rw (← c.field_at.ensures) (is_test c.part_type.ensures (param_at c.requires.stands _ c.requires.n_is c.requires.k_in_range c.field_at.ensures))
