-- CHECK refuses a book that is too long as READ does.
-- Assumes nothing.
use Rattle.std.specs.declared.result.Result.TheVariants.{Err}
use Rattle.std.proofs.Common.{◌≡◌, ℕ, ◌<◌, List, length}
use Rattle.book.specs.Faults.{refusal}
use Rattle.book.specs.Read.{read_of}
use Rattle.book.specs.declared.fault.Fault.TheVariants.{Size}
use Rattle.console.proofs.Long.{long_refused}
use Rattle.typing.specs.Whole.{check_of}

refused_as_read : (b : List ℕ) → read_of b ≡ Err (refusal Size 0) → check_of b ≡ Err (refusal Size 0)
unfolding check_of
refused_as_read b e = rw (check_of, e)

pub long_unchecked : (b : List ℕ) → 65535 < length b → check_of b ≡ Err (refusal Size 0)
long_unchecked b l = refused_as_read b (long_refused b l)
