-- `read_full`: a read adds what came to what stands at the part's start.
use Rattle.std.proofs.Common.{◌≡◌, ℕ, ◌+◌, ◌-◌, ◌≤◌, List, ◌++◌, rules, arith, length, take, slice_range, sym, ap, ◌∙◌, subst, le_refl, drop_at, length-take-le}
use Rattle.std.proofs.lemmas.Slice.{take-put_mid_below}
use Rattle.std.specs.Io.KnownBytes.{Consumes}
use Rattle.std.proofs.KnownBytes.{Consumes-trans}
use borrow.Rule.Slice.PartMut.{put_mid, post_of}
use lib.Seq.{take-add, take-append-le}
use Rattle.console.proofs.read_full.Goals as goal

-- the bytes from a on of a row whose part from a on is ys
from_put_mid : (a k n : ℕ) (xs ys : List ℕ) → a ≤ length xs → n ≤ length ys → slice_range (put_mid a k xs ys) a (a + n) ≡ take n ys
from_put_mid a k n xs ys within fits =
    let same : (a + n) - a ≡ n = omega arith in
    let after = post_of a k xs in
    ap (take ((a + n) - a)) (drop_at (take a xs) (ys ++ after) a (length-take-le a xs within)) ∙ ap (λ m. take m (ys ++ after)) same ∙ take-append-le n ys after fits

take-put_mid_part : (a k n : ℕ) (xs ys : List ℕ) → a ≤ length xs → n ≤ length ys → take a xs ++ take n ys ≡ take (a + n) (put_mid a k xs ys)
take-put_mid_part a k n xs ys within fits =
    let new = put_mid a k xs ys in
    let same : a + ((a + n) - a) ≡ a + n = omega arith in
    ap (λ l. take a xs ++ l) (sym (from_put_mid a k n xs ys within fits)) ∙ ap (λ l. l ++ slice_range new a (a + n)) (sym (take-put_mid_below a k xs ys a (le_refl a) within)) ∙ sym (take-add a ((a + n) - a) new) ∙ ap (λ m. take m new) same

pub loop-done-preserved : goal.loop-done-preserved
loop-done-preserved g c =
    record {
      fits = search rules;
      bytes = subst (Consumes _ _) (take-put_mid_part c.loop-done.done _ c.in_ok-more.more c.loop-done.part c.read.new.buf c.loop-done.invariant.fits (search rules)) (Consumes-trans _ _ _ _ _ c.loop-done.invariant.bytes c.in_ok-more.ensures.bytes.0);
    }
