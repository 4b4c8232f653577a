-- `hash` meets its contract: words of their widths, and one of 256 bits.
-- Assumes nothing.
use Rattle.shapes.proofs.Constructs.{typed_lies, typed_stands}
use Rattle.shapes.proofs.Functions.{hash_is}
use Rattle.shapes.proofs.Walks.{passes, stops, tells, yes}
use Rattle.shapes.proofs.whole.hash.Goals as goal

pub field_at-n-requires : goal.field_at-n-requires
field_at-n-requires c = typed_lies c.requires 2 tt

pub returns-else-are_hashed : goal.returns-else-are_hashed
returns-else-are_hashed c = stops (hash_is c.requires c.field_at-n.ensures) c.are_hashed.ensures c.if-are_hashed.false

pub is_word-requires : goal.is_word-requires
is_word-requires c = record { stands = typed_stands c.requires; among = tt }

pub returns-then-are_hashed : goal.returns-then-are_hashed
returns-then-are_hashed c =
    tells (passes (hash_is c.requires c.field_at-n.ensures) (yes c.are_hashed.ensures c.if-are_hashed.true)) c.is_word.ensures
