-- Laws of the row of what was sought in vain, and of the answers that leave it.
-- Assumes nothing.
use Prim.Native.Nat.{ℕ, ◌<◌}
use mathlib.Core.Bool.{Bool, true, false}
use mathlib.Core.List.{List}
use mathlib.Core.Option.{Option, none}
use mathlib.Core.Path.{◌≡◌, refl, sym, ap, ◌∙◌}
use native.Mathlib.Omega.{arith}
use borrow.Author.Tests.{eqb-true, eqb-false}
use lib.Dec.{eqb}
use lib.ListN.{length, get_or, set, replicate, length-set, length-replicate}
use lib.Seq.{get_or-set_other}
use Rattle.std.specs.Prelude.{None, Ok}
use Rattle.laws.specs.Table.{true_false}
use Rattle.array.specs.Path.{Side}
use Rattle.book.specs.Stands.{Stands}
use Rattle.book.specs.Tree.{pattern_of}
use Rattle.book.proofs.Course.{alone}
use Rattle.book.proofs.Standing.{stands_few}
use Rattle.named.specs.Table.{Table}
use Rattle.pattern.specs.Find.{find}
use Rattle.pattern.specs.Seeks.{Sought, Memo, Seeks, Searches}
use Rattle.pattern.proofs.Selectors.{seeks_missing}

-- a row that was filled has the one entry everywhere
pub filled_at : {A : Type 0} {ms : List A} (a : A) (n : ℕ) → ms ≡ replicate n a → (r : ℕ) → get_or ms r a ≡ a
filled_at a n e r = ap (λ l. get_or l r a) e ∙ alone a n r

pub filled_size : {A : Type 0} {ms : List A} (a : A) (n : ℕ) → ms ≡ replicate n a → length ms ≡ n
filled_size a n e = ap length e ∙ length-replicate n a

pub memo_none : (b i : List ℕ) (x : ℕ) (ms : List Bool) → ms ≡ replicate 4096 false → Memo b i x ms
memo_none b i x ms e = record {
  size = filled_size false 4096 e;
  sound = λ r z. absurd (true_false (sym z ∙ filled_at false 4096 e r));
}

-- one more record in which the name was sought in vain
pub memo_more : {b i : List ℕ} {x : ℕ} {ms : List Bool} (p : ℕ) → Memo b i x ms → find x (pattern_of b i p) ≡ none → Memo b i x (set ms p true)
memo_more {b} {i} {x} {ms} p m e = record { size = length-set ms p true ∙ m.size; sound = λ r z. go r z (eqb r p) refl }
  where
    go : (r : ℕ) → get_or (set ms p true) r false ≡ true → (t : Bool) → eqb r p ≡ t → find x (pattern_of b i r) ≡ none
    go r z true q = rw (eqb-true r p q) e
    go r z false q = m.sound r (sym (get_or-set_other ms p r true false (eqb-false r p q)) ∙ z)

-- the row of what was sought in vain has an entry for a record that stands
pub memo_fits : {b i : List ℕ} {p kd x : ℕ} {ms : List Bool} → Stands b i p kd → Memo b i x ms → p < length ms
memo_fits s m = omega (arith, stands_few s, m.size)

-- answers of a search: the name is missing, or as a part of the search says
module _ {b i : List ℕ} {x : ℕ} {w : Option (List Side)} {r : ℕ} {d : Table} {ms : List Bool} (m : Memo b i x ms) where
  pub searched_none : w ≡ none → Searches b i x w r d (Ok None) d ms
  searched_none e = record { memo = m; sought = seeks_missing e }

  pub searched_on : {d' : Table} {s : Sought} → Seeks r d w s d' → Searches b i x w r d s d' ms
  searched_on h = record { memo = m; sought = h }

-- a record that was searched before is not entered
pub known_missing : {b i : List ℕ} {x : ℕ} {ms : List Bool} {r : ℕ} {d : Table} (p : ℕ) → Memo b i x ms → get_or ms p false ≡ true → Searches b i x (find x (pattern_of b i p)) r d (Ok None) d ms
known_missing p m e = searched_none m (m.sound p e)
