-- `answer`: READ refuses by SIZE what is longer than a book may be.
use Rattle.std.proofs.Common.{rules}
use Rattle.book.specs.Read.{read_of}
use Rattle.console.proofs.Long.{long_refused}
use Rattle.readbook.proofs.answer.Goals as goal

pub returns : goal.returns
returns g c = c.answer.ensures read_of (λ b a gives. search rules) long_refused
