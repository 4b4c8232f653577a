-- A book that is too long is refused by SIZE, whatever its bytes.
-- Assumes nothing.
use Rattle.std.specs.declared.result.Result.TheVariants.{Err}
use Rattle.std.proofs.Common.{◌≡◌, ℕ, ◌<◌, List, false, ap, arith, length}
use Rattle.std.proofs.lemmas.Bool.Decides.{nat_tests}
use Rattle.book.specs.Faults.{refusal}
use Rattle.book.specs.Read.{sized, reading, refused, answer_of, read_of}
use Rattle.book.specs.declared.fault.Fault.TheVariants.{Size}

unsized : (n : ℕ) → 65535 < n → sized n ≡ false
unfolding sized
unsized n h = grind (arith, nat_tests)

refused_by_size : (b : List ℕ) → sized (length b) ≡ false → reading b ≡ refused (refusal Size 0)
unfolding reading
refused_by_size b e = rw (reading, e)

pub long_refused : (b : List ℕ) → 65535 < length b → read_of b ≡ Err (refusal Size 0)
unfolding read_of
long_refused b l = ap answer_of (refused_by_size b (unsized (length b) l))
