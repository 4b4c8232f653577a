-- `read::is_alike` meets its contract: each way by its law.
-- Assumes nothing.
use Rattle.book.proofs.Alikes.{no_fields, two_fields, alike_letters, alike_none, alike_first, alike_second}
use borrow.Author.Tests.{eq-eqb, ne_eqb}
use mathlib.Core.Path.{sym, ◌∙◌}
use Rattle.book.proofs.read.is_alike.Goals as goal

pub returns-then-frame-eq-TU : goal.returns-then-frame-eq-TU
returns-then-frame-eq-TU c =
    rw (eq-eqb _ _ c.if-frame-eq-TU.true) (alike_none _ _ _ (sym c.word.ensures ∙ (c.if-word.true ∙ c.word-2.ensures)) (no_fields _ _ _ c.requires.opens.mark c.if-frame-eq-TU.true))

pub returns-then-word-2 : goal.returns-then-word-2
returns-then-word-2 c =
    rw (c.word-then-word-2.ensures, c.word-then-word-2-2.ensures) (alike_second _ _ _ (sym c.word.ensures ∙ (c.if-word.true ∙ c.word-2.ensures)) (two_fields _ _ _ c.requires.opens.mark c.requires.kind_of_is c.if-frame-eq-TU.false) (sym c.word-else-frame-eq-TU.ensures ∙ (c.if-word-2.true ∙ c.word-else-frame-eq-TU-2.ensures)))

pub returns-else-word-2 : goal.returns-else-word-2
returns-else-word-2 c =
    rw (ne_eqb _ _ c.if-word-2.false) (alike_first _ _ _ (sym c.word.ensures ∙ (c.if-word.true ∙ c.word-2.ensures)) (two_fields _ _ _ c.requires.opens.mark c.requires.kind_of_is c.if-frame-eq-TU.false) (λ z. c.if-word-2.false (c.word-else-frame-eq-TU.ensures ∙ (z ∙ sym c.word-else-frame-eq-TU-2.ensures))))

pub returns-else-word : goal.returns-else-word
returns-else-word c = rw (ne_eqb _ _ c.if-word.false) (alike_letters _ _ _ (λ e. c.if-word.false (c.word.ensures ∙ (e ∙ sym c.word-2.ensures))))
