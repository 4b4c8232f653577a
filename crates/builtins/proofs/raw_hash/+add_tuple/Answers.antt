-- `add_tuple` meets its contract: the left part, the right part, and then both.
-- Assumes nothing.
use Rattle.std.proofs.Common.{arith}
use Rattle.builtins.proofs.Hashes.{widths_left, widths_right}
use Rattle.builtins.proofs.raw_hash.+add_tuple.Goals as goal

pub add_jet-requires : goal.add_jet-requires
add_jet-requires t c = c.requires.1.each 0 (omega arith)

pub add_tuple-requires : goal.add_tuple-requires
add_tuple-requires t c =
    (omega (arith, c.split.ensures.right_some), (omega arith, widths_left _ c.requires.1 c.split_at.ensures.front c.split_at.ensures.front_len (omega arith)))

pub add_tuple-requires-in_default : goal.add_tuple-requires-in_default
add_tuple-requires-in_default t c =
    (omega (arith, c.split.ensures.left_some), (omega arith, widths_right _ c.requires.1 c.split_at.ensures.back c.split_at.ensures.back_len))
