-- `answer`: the call answers the bytes that came as it answers the whole input.
use Rattle.std.proofs.Common.{◌≡◌, ◌<◌, sym, ◌∙◌, arith, rules, length, take, length-take-le}
use Rattle.std.specs.Io.KnownBytes.{Appends}
use Rattle.console.specs.Lines.{answer_line}
use Rattle.console.proofs.Whole.{whole_or_full, answered}
use Rattle.console.proofs.answer.Goals as goal

pub returns : goal.returns
returns g c =
    λ f is long.
    let part = c.read_full.new.part in
    let n = c.in_ok-n.n in
    let fits = c.in_ok-n.ensures.fits in
    let room : 65535 < length part = search rules in
    let came : length (take n part) ≡ n = length-take-le n part fits in
    let gave : c.call.result ≡ f (take n part) = is (take n part) c.call.result (search rules) in
    answered f c.print_answer.result _ c.call.result (λ a. Appends (g.W.Write.contents c.args.out.now) (g.W.Write.contents c.print_answer.new.out) (answer_line c.args.word.now a)) c.print_answer.ensures
    (whole_or_full _ _ part n (λ xs. f xs ≡ c.call.result) fits c.in_ok-n.ensures.bytes c.in_ok-n.ensures.end (sym gave)
    (λ xs whole over. long xs (omega arith) ∙ sym (long (take n part) (omega arith)) ∙ sym gave))
