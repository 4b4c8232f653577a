-- `span_of` meets its contract: in each arm the table computes, and the law `rest` has the default.
-- Assumes nothing.
use native.Mathlib.Omega.{arith}
use mathlib.Core.Path.{refl}
use Rattle.laws.specs.Table.{rest}
use Rattle.book.specs.Format.{ET, EL, E0, E1, EN, EH, CJ, CL, CR, CD, CA, CN, CF, CQ, CY, CW, CH}
use Rattle.book.specs.Index.{field}
use Rattle.parts.specs.Parts.{span, spans, span_at}
use Rattle.parts.proofs.Marks.{lies, most, at_mark, spanned_as, spanned}
use Rattle.parts.proofs.Numbers.{list_most, arms_most}
use Rattle.parts.proofs.view.span_of.Goals as goal

pub counted-requires : goal.counted-requires
unfolding span_at
counted-requires c = lies (at_mark c.requires ET c.in-14.is) 1 tt

pub counted-requires-in-15 : goal.counted-requires-in-15
unfolding span_at
counted-requires-in-15 c = lies (at_mark c.requires EL c.in-15.is) 2 tt

pub counted-requires-in-18 : goal.counted-requires-in-18
unfolding span_at
counted-requires-in-18 c = lies (at_mark c.requires EN c.in-18.is) 3 tt

pub counted-requires-in-23 : goal.counted-requires-in-23
unfolding span_at
counted-requires-in-23 c = lies (at_mark c.requires EH c.in-23.is) 2 tt

pub counted-requires-in-24 : goal.counted-requires-in-24
unfolding span_at
counted-requires-in-24 c = lies (at_mark c.requires CJ c.in-24.is) 3 tt

pub counted-requires-in-32 : goal.counted-requires-in-32
unfolding span_at
counted-requires-in-32 c = lies (at_mark c.requires CF c.in-32.is) 2 tt

pub counted-requires-in-36 : goal.counted-requires-in-36
unfolding span_at
counted-requires-in-36 c = lies (at_mark c.requires CH c.in-36.is) 2 tt

pub returns-in-14 : goal.returns-in-14
unfolding span_at
returns-in-14 c = spanned c.requires ET c.in-14.is c.counted.ensures (most (at_mark c.requires ET c.in-14.is) 1 tt refl) tt

pub returns-in-15 : goal.returns-in-15
unfolding span_at
returns-in-15 c = spanned c.requires EL c.in-15.is c.counted-in-15.ensures (list_most (at_mark c.requires EL c.in-15.is)) tt

pub returns-in-16 : goal.returns-in-16
unfolding span_at
returns-in-16 c = spanned c.requires E0 c.in-16.is c.spanning.ensures (omega arith) tt

pub returns-in-17 : goal.returns-in-17
unfolding span_at
returns-in-17 c = spanned c.requires E1 c.in-17.is c.spanning-in-17.ensures (omega arith) tt

pub returns-in-18 : goal.returns-in-18
unfolding span_at
returns-in-18 c = spanned c.requires EN c.in-18.is c.counted-in-18.ensures (most (at_mark c.requires EN c.in-18.is) 3 tt refl) tt

pub returns-in-23 : goal.returns-in-23
unfolding span_at
returns-in-23 c = spanned c.requires EH c.in-23.is c.counted-in-23.ensures (arms_most (at_mark c.requires EH c.in-23.is)) tt

pub returns-in-24 : goal.returns-in-24
unfolding span_at
returns-in-24 c = spanned c.requires CJ c.in-24.is c.counted-in-24.ensures (most (at_mark c.requires CJ c.in-24.is) 3 tt refl) tt

pub returns-in-25 : goal.returns-in-25
unfolding span_at
returns-in-25 c = spanned c.requires CL c.in-25.is c.spanning-in-25.ensures (omega arith) tt

pub returns-in-26 : goal.returns-in-26
unfolding span_at
returns-in-26 c = spanned c.requires CR c.in-26.is c.spanning-in-26.ensures (omega arith) tt

pub returns-in-27 : goal.returns-in-27
unfolding span_at
returns-in-27 c = spanned c.requires CD c.in-27.is c.spanning-in-27.ensures (omega arith) tt

pub returns-in-28 : goal.returns-in-28
unfolding span_at
returns-in-28 c = spanned c.requires CA c.in-28.is c.spanning-in-28.ensures (omega arith) tt

pub returns-in-30 : goal.returns-in-30
unfolding span_at
returns-in-30 c = spanned c.requires CN c.in-30.is c.spanning-in-30.ensures (omega arith) tt

pub returns-in-32 : goal.returns-in-32
unfolding span_at
returns-in-32 c = spanned c.requires CF c.in-32.is c.counted-in-32.ensures (most (at_mark c.requires CF c.in-32.is) 2 tt refl) tt

pub returns-in-33 : goal.returns-in-33
unfolding span_at
returns-in-33 c = spanned c.requires CQ c.in-33.is c.spanning-in-33.ensures (omega arith) tt

pub returns-in-34 : goal.returns-in-34
unfolding span_at
returns-in-34 c = spanned c.requires CY c.in-34.is c.spanning-in-34.ensures (omega arith) tt

pub returns-in-35 : goal.returns-in-35
unfolding span_at
returns-in-35 c = spanned c.requires CW c.in-35.is c.spanning-in-35.ensures (omega arith) tt

pub returns-in-36 : goal.returns-in-36
unfolding span_at
returns-in-36 c = spanned c.requires CH c.in-36.is c.counted-in-36.ensures (most (at_mark c.requires CH c.in-36.is) 2 tt refl) tt

pub returns-in_default : goal.returns-in_default
unfolding span_at
returns-in_default c =
    spanned_as (span 0 1 0) (rest (spans (field c.args.book.now.bytes c.args.book.now.index c.args.r)) c.args.m (span 0 1 0) Unit c.in_default.in_default-own.rest).1 c.spanning-in_default.ensures (omega arith) tt
