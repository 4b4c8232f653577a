-- What LOWER stores fits its table.
-- Assumes nothing.
use Rattle.book.specs.declared.fault.Refusal.{Refusal}
use Rattle.std.specs.declared.result.Result.{Result}
use Rattle.std.specs.declared.result.Result.TheVariants.{Ok, Err}
use Prim.Native.Nat.{ℕ, ◌*◌, ◌-◌, ◌≤◌}
use mathlib.Core.Bool.{Bool}
use mathlib.Core.Path.{◌≡◌, refl, ap}
use mathlib.Core.List.{List}
use native.Mathlib.Omega.{arith}
use Rattle.book.specs.Read.{read_of, index_of}
use Rattle.named.specs.Trace.{Trace}
use Rattle.named.specs.Cut.{Out, made, refused, cut, room}
use Rattle.named.proofs.Images.{cut_fits}
use Rattle.compile.specs.Whole.{trace_of, lowering, answer_of, lower_of}

-- how many nodes an answer counts
abbrev count_of : Result ℕ Refusal → ℕ
count_of (Ok k) = k
count_of (Err w) = 0

cut_counts : (l : ℕ) (o : Out ℕ) (t : Trace ℕ) → cut l t ≡ o → count_of (answer_of o) ≤ l
cut_counts l (made a xs) t e = cut_fits l t a xs e
cut_counts l (refused w) t e = omega arith

read_counts : (b : List ℕ) (y : Bool) (n : ℕ) (a : Result ℕ Refusal) → count_of (answer_of (elim a [ Ok k ↦ cut (room n) (trace_of y b (index_of b) (k - 1)) | Err w ↦ refused w ])) ≤ room n
read_counts b y n (Ok k) = cut_counts (room n) _ (trace_of y b (index_of b) (k - 1)) refl
read_counts b y n (Err w) = omega arith

pub lower_fits : (b : List ℕ) (y : Bool) (n k : ℕ) → lower_of b y n ≡ Ok k → 5 * k ≤ n
unfolding lower_of lowering room
lower_fits b y n k e =
    let counted : count_of (answer_of (lowering b y n)) ≤ room n = read_counts b y n (read_of b) in
    let is : count_of (answer_of (lowering b y n)) ≡ k = ap count_of e in
    omega (arith, counted, is)
