-- `answer`: CHECK refuses by SIZE what is longer than a book may be.
use Rattle.std.proofs.Common.{rules}
use Rattle.typing.specs.Whole.{check_of}
use Rattle.checkbook.proofs.Long.{long_unchecked}
use Rattle.checkbook.proofs.answer.Goals as goal

pub returns : goal.returns
returns g c = c.answer.ensures check_of (λ b a gives. search rules) long_unchecked
