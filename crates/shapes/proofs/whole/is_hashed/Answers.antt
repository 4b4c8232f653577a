-- `is_hashed` meets its contract: the word and its width by their fields.
-- Assumes nothing.
use native.Mathlib.Omega.{arith}
use Rattle.shapes.proofs.Functions.{hash_most, width_lies, width_power, word_part}
use Rattle.shapes.proofs.whole.is_hashed.Goals as goal

pub overflow_mul-k : goal.overflow_mul-k
overflow_mul-k c = omega (arith, hash_most c.requires.marked c.requires.n_is, c.requires.k_in_range)

pub overflow_add-k : goal.overflow_add-k
overflow_add-k c = omega (arith, hash_most c.requires.marked c.requires.n_is, c.requires.k_in_range)

pub field_at-bits-requires : goal.field_at-bits-requires
field_at-bits-requires c = width_lies c.requires.marked c.requires.n_is _ c.requires.k_in_range

pub overflow_mul-k-2 : goal.overflow_mul-k-2
overflow_mul-k-2 c = omega (arith, hash_most c.requires.marked c.requires.n_is, c.requires.k_in_range)

pub overflow_add-k-2 : goal.overflow_add-k-2
overflow_add-k-2 c = omega (arith, hash_most c.requires.marked c.requires.n_is, c.requires.k_in_range)

pub part_type-requires : goal.part_type-requires
part_type-requires c =
    let both = word_part c.requires.marked c.requires.n_is _ c.requires.k_in_range in
    record { lies = both.0; stands = both.1 }

pub is_word-requires : goal.is_word-requires
is_word-requires c =
    record { stands = c.part_type.ensures.0; among = width_power c.requires.marked c.requires.n_is _ c.requires.k_in_range c.field_at-bits.ensures }
