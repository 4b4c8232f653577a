-- `format::layout_of` meets its contract: in each arm the table computes, and the law `arm` has the ranges.
-- Assumes nothing.
use native.Mathlib.Omega.{arith}
use Prim.Native.Nat.{ℕ, ◌≤◌}
use native.Mathlib.Decide.{dec_lt}
use mathlib.Core.Bool.{false}
use mathlib.Core.Path.{◌≡◌, refl, sym, ap, ◌∙◌}
use mathlib.Core.List.{List, [], ◌∷◌}
use mathlib.Core.Logic.{inl, inr}
use Rattle.laws.specs.Table.{arm, free, among}
use Rattle.book.specs.Format.{layout_of, layout_row}
use Rattle.book.proofs.Layouts.{beyond}
use Rattle.book.proofs.format.layout_of.Goals as goal
use Rattle.book.proofs.format.layout_of.Goals.{in_default-via-then-mark-lt2, in_default-via-else-mark-lt2+else-mark-lt4+else-mark-lt7+then-mark-lt10, in_default-via-else-mark-lt2+else-mark-lt4+else-mark-lt7+else-mark-lt10+else-mark-lt14+else-mark-lt18+else-mark-lt29+else-mark-lt32}

-- the marks that have an arm of their own
abbrev singles : List ℕ
singles = 4 ∷ 7 ∷ 8 ∷ 10 ∷ 11 ∷ 14 ∷ 15 ∷ 18 ∷ 19 ∷ 20 ∷ 21 ∷ 22 ∷ 23 ∷ 24 ∷ 29 ∷ 32 ∷ 33 ∷ 34 ∷ 35 ∷ 36 ∷ 37 ∷ []

-- past the ranges, what has no arm of its own is no mark
past : (m : ℕ) → among singles m ≡ false → 32 ≤ m → layout_of 0 ≡ layout_of m
unfolding layout_of
past m e h = elim (dec_lt m 38) [
  | yes l ↦ arm singles layout_of (layout_of 0) 32 6 (inl refl, (inl refl, (inl refl, (inl refl, (inl refl, (inl refl, tt)))))) m e h l
  | no g ↦ sym (ap layout_row (beyond m (omega arith)))
]

pub returns-in-25-to-28 : goal.returns-in-25-to-28
unfolding layout_of
returns-in-25-to-28 c =
    c.lay-in-25-to-28.ensures ∙ arm singles layout_of _ 18 11 (inr refl, (inr refl, (inr refl, (inr refl, (inl refl, (inl refl, (inl refl, (inl refl, (inl refl, (inl refl, (inl refl, tt))))))))))) c.args.mark (free singles c.args.mark Unit c.in-25-to-28.in_default-own.rest).1 (omega arith) (omega arith)

pub returns-in-30-to-31 : goal.returns-in-30-to-31
unfolding layout_of
returns-in-30-to-31 c =
    c.lay-in-30-to-31.ensures ∙ arm singles layout_of _ 29 3 (inr refl, (inr refl, (inl refl, tt))) c.args.mark (free singles c.args.mark Unit c.in-30-to-31.in_default-own.rest).1 (omega arith) (omega arith)

pub returns-in_default : goal.returns-in_default
unfolding layout_of
returns-in_default c =
    let e = (free singles c.args.mark Unit c.in_default-1.rest).1 in
    c.lay-in_default.ensures ∙
    elim c.in_default.branch [
      | in_default-via-then-mark-lt2 w ↦ arm singles layout_of _ 0 2 (inr refl, (inr refl, tt)) c.args.mark e (omega arith) (omega arith)
      | in_default-via-else-mark-lt2+else-mark-lt4+else-mark-lt7+then-mark-lt10 w ↦ arm singles layout_of _ 7 3 (inr refl, (inl refl, (inl refl, tt))) c.args.mark e (omega arith) (omega arith)
      | in_default-via-else-mark-lt2+else-mark-lt4+else-mark-lt7+else-mark-lt10+else-mark-lt14+else-mark-lt18+else-mark-lt29+else-mark-lt32 w ↦ past c.args.mark e (omega arith)
    ]
