-- Laws of the loop's tasks: a row filled by doubling, and that the tasks from the end on are the loop.
-- Assumes nothing.
use Prim.Native.Nat.{ℕ, zero, suc, ◌+◌, ◌-◌, ◌*◌, ◌%◌, ◌^◌, ◌≤◌, ◌<◌}
use mathlib.Core.Path.{◌≡◌, sym, ap, ap₂, ◌∙◌}
use mathlib.Core.List.{List, [], ◌∷◌, ◌++◌}
use native.Mathlib.Nat.{two-pow-succ}
use native.Mathlib.Numerals.{add-one}
use native.Mathlib.Omega.{arith}
use lib.Pow.{pow_pos, pow_mono}
use lib.ListN.{length, get_or, take, drop}
use lib.Seq.{get_or-take, length-take-le, drop-cons, drop-length}
use Rattle.laws.specs.Order.{pow_less}
use Rattle.std.specs.Prelude.{Result, Ok, Err}
use Rattle.book.specs.declared.fault.Refusal.{Refusal}
use Rattle.array.specs.Split.{top_of}
use Rattle.named.specs.Trace.{Run, bind}
use Rattle.named.specs.Stores.{Done}
use Rattle.named.specs.Table.{Table}
use Rattle.named.proofs.Runs.{bind_bind, bind_pure, bind_done}
use Rattle.named.proofs.Storing.{then, halt, done_pure}
use Rattle.recipes.specs.ForWhile.{for_while0, adapt, for_while, task, done_from, tasks, Twice}
use Rattle.recipes.specs.declared.for_while.Task.{Task}
use Rattle.recipes.specs.declared.for_while.Task.TheVariants.{ForWhile0, Adapt}

-- a width that is a power of two is not 0, and up to 16 its place is at most 4
pub width_some : {w : ℕ} → w ≡ 2 ^ top_of w → 0 < w
width_some {w} e = omega (arith, pow_pos (top_of w))

pub width_few : {w k : ℕ} → w ≡ 2 ^ top_of w → w ≤ 16 → k ≡ top_of w → k ≤ 4
width_few {w} e h z = omega (arith, pow_less (top_of w) 5 (omega arith))

-- how many tasks a loop has and one more, where its width is 2 ^ k
pub record Few (k : ℕ) : Type 0 where
  pub is : 2 * 2 ^ k % 18446744073709551616 ≡ 2 * 2 ^ k
  pub some : 0 < 2 ^ k
  pub few : 2 ^ k ≤ 8

pub few_tasks : (k : ℕ) → k < 4 → Few k
few_tasks k h = let l : 2 ^ k ≤ 8 = pow_mono {i = k} {j = 3} (omega arith) in record { is = omega arith; some = pow_pos k; few = l }

-- a row that begins with the tasks of a width begins, once it is doubled, with those of twice the width
pub tasks_again : {xs ys : List Task} (k : ℕ) → k < 4 → take (2 * 2 ^ k - 1) xs ≡ tasks k → Twice (2 * 2 ^ k % 18446744073709551616 - 1) xs ys → take (2 * 2 ^ (k + 1) - 1) ys ≡ tasks (k + 1)
unfolding tasks
tasks_again {xs} {ys} k h o t =
    let f = few_tasks k h in
    let d : 2 ^ suc k ≡ 2 ^ k + 2 ^ k = two-pow-succ k in
    let n : 2 * 2 ^ suc k - 1 ≡ 2 * (2 * 2 ^ k - 1) + 1 = omega (arith, f.some) in
    let g : Twice (2 * 2 ^ k - 1) xs ys = rw f.is at t in
    rw (add-one k, n, g.row, o)

module _ (r : ℕ) where
  -- tasks behind others are done before them
  done_append : (xs ys : List Task) (f : ℕ) → done_from r (xs ++ ys) f ≡ bind (done_from r ys f) (done_from r xs)
  unfolding done_from
  done_append [] ys f = sym (bind_done (done_from r ys f))
  done_append (x ∷ xs) ys f = ap (λ (m : Run ℕ). bind m (task r x)) (done_append xs ys f) ∙ bind_bind (done_from r ys f) (done_from r xs) (task r x)

  -- the tasks of a width are its loop
  pub done_all : (k : ℕ) → done_from r (tasks k) ≡ for_while r k
  unfolding done_from tasks for_while task
  done_all zero = λ i f. bind_pure f (for_while0 r) i
  done_all (suc k) = λ i f. (done_append (tasks k ++ tasks k) (Adapt ∷ []) f
      ∙ ap₂ (λ (m : Run ℕ) (l : ℕ → Run ℕ). bind m l) (bind_pure f (adapt r)) (λ j g. (done_append (tasks k) (tasks k) g ∙ ap (λ (w : ℕ → Run ℕ). bind (w g) w) (done_all k)) j)) i

-- the first n tasks of a row from the last on, around a node
module _ (r f : ℕ) {d : Table} (xs : List Task) (n : ℕ) (fits : n ≤ length xs) where
  pub done_none : Done d (done_from r (drop n (take n xs)) f) (Ok f) d
  unfolding done_from
  done_none =
      let e : drop n (take n xs) ≡ [] = ap (λ (k : ℕ). drop k (take n xs)) (sym (length-take-le n xs fits)) ∙ drop-length (take n xs) in
      rw e (done_pure d f)

  pub done_next : {d₁ d₂ : Table} {g : ℕ} {s : Result ℕ Refusal} (j k : ℕ) → k ≤ n → 0 < k → j ≡ k - 1 → Done d (done_from r (drop k (take n xs)) f) (Ok g) d₁ → Done d₁ (task r (get_or xs j ForWhile0) g) s d₂ → Done d (done_from r (drop j (take n xs)) f) s d₂
  unfolding done_from
  done_next j k h o e p q =
      let z : k ≡ suc j = omega arith in
      rw (drop-cons (take n xs) j ForWhile0 (omega (arith, length-take-le n xs fits)), get_or-take n xs j ForWhile0 (omega arith)) (then _ (rw z at p) q)

  -- where one is refused, so are all
  pub done_stop : {d₁ : Table} {w : Refusal} (k : ℕ) → k ≤ n → Done d (done_from r (drop k (take n xs)) f) (Err w) d₁ → Done d (done_from r (take n xs) f) (Err w) d₁
  unfolding done_from
  done_stop zero h p = p
  done_stop (suc k) h p =
      done_stop k (omega arith) (rw (drop-cons (take n xs) k ForWhile0 (omega (arith, length-take-le n xs fits))) (halt (task r (get_or (take n xs) k ForWhile0)) p))

-- all of them, from the node f on
pub loop_all : {d d' : Table} {s : Result ℕ Refusal} (r f k w : ℕ) (ts : List Task) → k ≤ 0 → ts ≡ tasks w → Done d (done_from r (drop k ts) f) s d' → Done d (for_while r w f) s d'
loop_all r f zero w ts h e p =
    let a : done_from r ts f ≡ for_while r w f = ap (λ (xs : List Task). done_from r xs f) e ∙ ap (λ (g : ℕ → Run ℕ). g f) (done_all r w) in
    rw a at p
loop_all r f (suc k) w ts h e p = absurd (omega arith)
