-- READ accepts every book whose records lie end to end and of which the validity record holds.
-- Assumes nothing.
use Prim.Native.Nat.{ℕ, zero, suc, ◌+◌, ◌-◌, ◌≤◌, ◌<◌}
use mathlib.Core.Bool.{true, false}
use mathlib.Core.Path.{◌≡◌, refl, sym, ◌∙◌}
use mathlib.Core.List.{List}
use mathlib.Core.Logic.{◌↔◌}
use native.Mathlib.Omega.{arith}
use native.Mathlib.Nat.{zero-add}
use native.Mathlib.Numerals.{add-one}
use native.Mathlib.Decide.{dec_lt}
use lib.ListN.{length, get_or, length-set}
use lib.Seq.{get_or-set_other, ext_get_or}
use borrow.Author.Tests.{lt-ltb, eqb-true}
use Rattle.std.proofs.lemmas.Bool.{false_from_ne_true, not-true}
use Rattle.laws.specs.Table.{true_false}
use Rattle.book.specs.Format.{TYPE}
use Rattle.book.specs.Read.{kind_at, total_at, end_at, alike, repeats, State, on, step, done, is_unnamed, loose, records, start, sized, reading}
use Rattle.book.specs.Ready.{Framed}
use Rattle.book.specs.Index.{depth}
use Rattle.book.specs.Valid.{Uses, Tiles, Valid}
use Rattle.book.proofs.Picks.{both_false}
use Rattle.book.proofs.Judging.{Fits}
use Rattle.book.proofs.Moves.{verdict, after, step_can}
use Rattle.book.proofs.Loose.{loosened}
use Rattle.book.proofs.Course.{alone, length_unnamed, over, onward, zeros, length_start}
use Rattle.book.proofs.Established.{read_valid}
use Rattle.book.proofs.Tiles.{read_tiles}
use Rattle.book.proofs.Extends.{Extends, set_row, fits_sound}
use Rattle.book.proofs.Names.{Names, Before, earlier, here, roll_start}
use Rattle.book.proofs.Fields.{Tracks, tracks_fields, Good, fields_can}
use Rattle.book.proofs.Unlike.{some_false}
use Rattle.book.proofs.Depths.{depth_before, deep_new}

-- READ has come to its record of that number in a book whose n records are at i, or to the book's end
record At (b i : List ℕ) (n : ℕ) (s : State) : Type 0 where
  place : s.number < n → s.place ≡ get_or i s.number 0
  whole : s.number ≡ n → s.place ≡ length b
  indexed : length s.index ≡ 4096
  before : (j : ℕ) → j < s.number → get_or s.index j 0 ≡ get_or i j 0
  beyond : (j : ℕ) → s.number ≤ j → get_or s.index j 0 ≡ 0
  named : Tracks b i s.number 0 s.named
  deep : length s.depths ≡ 4096
  depths : (j : ℕ) → j < s.number → get_or s.depths j 0 ≡ depth b i j

-- a field does not stand before itself
not_self : (s j r k : ℕ) → Before s j r k → s ≡ r → j ≡ k → ⊥
not_self s j r k (earlier h) p q = omega arith
not_self s j r k (here e h) p q = omega arith

-- what stands before a field is of its record or an earlier one
not_after : (s j r k : ℕ) → Before s j r k → s ≤ r
not_after s j r k (earlier h) = omega arith
not_after s j r k (here e h) = omega arith

-- a record begins inside the book
framed_lt : (b : List ℕ) (p : ℕ) → Framed b p → p < length b
unfolding end_at
framed_lt b p f = let e = f.ends in omega arith

module _ (b i : List ℕ) (n : ℕ) (tiles : Tiles b i n) (valid : Valid b i n) where
  module _ (s : State) (h : s.number < n) (a : At b i n s) where
    -- the index so far goes on to this record's place
    extended : Extends s.index i s.number s.place
    extended = record { before = λ k l. sym (a.before k l); new = sym (a.place h) }

    -- its fields fit
    fitting : (k : ℕ) → k < total_at b s.place → Fits b s.index s.number s.place k
    fitting = fits_sound b s.index i s.number s.place extended (valid.sound s.number h)

    -- none of them names what an earlier field does
    lone : (k q l y : ℕ) → Names b i s.number k q l y → Uses b i s.number k y → ⊥
    lone k q l y m u =
        let z = not_after q l s.number k m.before in
        let e = valid.once q l s.number k y (omega arith) h m.uses u in
        not_self q l s.number k m.before e.0 e.1

    -- there is room for it
    few : s.number < 4096
    few = let m = valid.rows.few in omega arith

    -- so its fields are judged good
    judged : Good (verdict b s)
    judged = fields_can b s.index i s.depths s.number s.place extended few fitting lone s.named a.named

    -- and come to its depth
    deep_is : judged.deep + 1 ≡ depth b i s.number
    deep_is = deep_new b s.index i s.number s.place extended s.depths (λ y l. a.depths y l ∙ depth_before b s.index i s.number s.place extended y l) s.named _ _ judged.is

    -- it is no type that is alike an earlier record
    differs : (j : ℕ) → j < s.number → kind_at b s.place ≡ TYPE → alike b s.place (get_or s.index j 0) ≡ true → ⊥
    differs j l e z = let q = valid.unlike s.number j h (omega arith) (rw extended.new e) (rw (extended.new, extended.before j l) z) in omega arith

    -- so it is new
    fresh : repeats b s.index s.number s.place ≡ false
    unfolding repeats
    fresh = both_false _ _ (λ e t. true_false (sym t ∙ some_false _ s.number (λ j l. false_from_ne_true _ (differs j l (eqb-true _ _ e)))))

    -- it lies in the book
    framed : Framed b s.place
    framed = rw extended.new at (valid.rows.inside s.number h)

    -- READ takes it
    next : State
    next = after b s judged.named judged.deep

    -- in one step
    steps : step b s ≡ on next
    unfolding next
    steps = step_can b s judged.named judged.deep framed judged.is fresh (let z = deep_is in let m = valid.shallow s.number h in omega arith)

    -- and has come to the next record
    come : At b i n next
    unfolding next
    come = record {
      place = λ l. rw (a.place h, add-one) (sym (tiles.joins s.number (omega arith)));
      whole = λ e. let q : n - 1 ≡ s.number = omega arith in rw (a.place h) (rw q at tiles.ends);
      indexed = simp length-set a.indexed;
      before = set_row (λ j. get_or i j 0) s.index s.number s.place (let z = few in omega arith) a.before (a.place h);
      beyond = λ j l. get_or-set_other s.index s.number j s.place 0 (omega arith) ∙ a.beyond j (omega arith);
      named = tracks_fields b s.index i s.depths s.number s.place extended few s.named _ _ a.named judged.is;
      deep = simp length-set a.deep;
      depths = set_row (λ j. depth b i j) s.depths s.number (judged.deep + 1) (let z = few in omega arith) a.depths deep_is;
    }

  -- after the last record the index is whole
  index_is : (s : State) → s.number ≡ n → At b i n s → s.index ≡ i
  index_is s e a = ext_get_or 0 s.index i (a.indexed ∙ sym valid.rows.indexed) (λ j l. go j (dec_lt j n))
    where
      go : (j : ℕ) → Dec (j < n) → get_or s.index j 0 ≡ get_or i j 0
      go j (yes h) = a.before j (omega arith)
      go j (no h) = a.beyond j (omega arith) ∙ sym (tiles.beyond j (omega arith))

  -- no record before the last is loose
  not_loose : (s : State) → s.number ≡ n → At b i n s → (x : ℕ) → suc x < n → is_unnamed b (get_or s.index x 0) (get_or s.named x false) ≡ false
  unfolding is_unnamed
  not_loose s e a x l = both_false _ _ (λ z o.
      let u = valid.all x l (rw (index_is s e a) at o) in
      a.named.roll.marked u.by u.at x (record { before = earlier (let m = u.before in omega arith); uses = u.uses }) (not-true _ z))

  -- so READ is done
  ended : (s : State) → s.number ≡ n → At b i n s → loose b s 0 (s.number - 1) ≡ done n i
  ended s e a = loosened b s 0 (s.number - 1) n i (record {
    number = e;
    index = index_is s e a;
    named = λ x l u. not_loose s e a x (omega arith);
    root = rw (index_is s e a, zero-add, e) valid.root;
  })

  -- however many records might follow
  finishes : (more : ℕ) (s : State) → s.number ≡ n → At b i n s → records more b s ≡ done n i
  finishes more s e a = over b s more (let w = a.whole e in omega arith) ∙ ended s e a

  -- READ comes there from each record on
  comes : (more : ℕ) (s : State) → s.number + more ≡ 4096 → s.number ≤ n → At b i n s → records more b s ≡ done n i
  unfolding next
  comes zero s z l a = finishes zero s (let m = valid.rows.few in omega arith) a
  comes (suc more) s z l a = go (λ h. comes more (next s h a) (omega arith) (omega arith) (come s h a)) (dec_lt s.number n)
    where
      go : ((h : s.number < n) → records more b (next s h a) ≡ done n i) → Dec (s.number < n) → records (suc more) b s ≡ done n i
      go rest (yes h) = onward b s more (next s h a) (framed_lt b _ (framed s h a)) (steps s h a) ∙ rest h
      go rest (no h) = finishes (suc more) s (omega arith) a

  -- READ begins at the first record
  begun : At b i n start
  begun = record {
    place = λ l. sym tiles.begins;
    whole = λ e. absurd (let m = valid.some in omega arith);
    indexed = length_start;
    before = λ j l. absurd (omega arith);
    beyond = λ j l. zeros 4096 j;
    named = record { long = length_unnamed; roll = roll_start b i _ (alone false 4096) };
    deep = length_start;
    depths = λ j l. absurd (omega arith);
  }

-- a valid book whose records lie end to end is accepted
pub valid_read : (b i : List ℕ) (n : ℕ) → Tiles b i n → Valid b i n → reading b ≡ done n i
unfolding reading sized
valid_read b i n t v =
    let h = framed_lt b _ (v.rows.inside 0 v.some) in
    rw (lt-ltb 0 (length b) (omega arith), lt-ltb (length b) 65536 v.rows.size, reading, sized) (comes b i n t v 4096 start refl (omega arith) (begun b i n t v))

-- READ accepts exactly the books whose records lie end to end and are valid
pub accepts_exactly : (b i : List ℕ) (n : ℕ) → reading b ≡ done n i ↔ (Tiles b i n × Valid b i n)
accepts_exactly b i n = ((λ e. (read_tiles b i n e, read_valid b i n e)), (λ w. valid_read b i n w.0 w.1))
