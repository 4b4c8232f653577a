-- What READ's parts ask of the rows that they are lent, and how their answers say what READ does.
-- Assumes nothing.
use Rattle.std.specs.Prelude.{ℕ, ◌+◌, ◌*◌, ◌-◌, ◌%◌, ◌≤◌, ◌<◌, ◌≡◌, Bool, false, List, length, get_or, set, replicate, eqb, ltb, Option, Some, None, Result, Ok, Err}
use Rattle.laws.specs.Table.{pick}
use Rattle.book.specs.Format.{word_at, TYPE, TU}
use Rattle.book.specs.Read.{mark_at, kind_at, count_at, end_at, Verdict, good, bad, state, Moved, on, stop, Outcome, done, refused}
use Rattle.book.specs.declared.fault.Fault.TheVariants.{Cut, Mark}
use Rattle.book.specs.declared.fault.Fault.{Fault}
use Rattle.book.specs.declared.fault.Refusal.{Refusal}
use Rattle.book.specs.declared.read.Frame.{Frame}
use Rattle.book.specs.declared.read.Reader.{Reader}

-- a record with a known mark begins at p and ends inside the book
pub record Framed (b : List ℕ) (p : ℕ) : Type 0 where
  pub known : 0 < mark_at b p
  pub ends : end_at b p ≤ length b

-- the frame f is that of a record with a known mark that ends inside the book, and READ takes a book of that size
pub record Opens (b : List ℕ) (f : Frame) : Type 0 where
  pub size : length b < 65536
  pub framed : Framed b f.at
  pub mark : f.mark ≡ mark_at b f.at
  pub count : f.count ≡ count_at b f.at
  pub short : f.count < 65536
  pub end : f.end ≡ end_at b f.at

-- the first r records, whose places the index has, lie in the book
pub record Rows (b i : List ℕ) (r : ℕ) : Type 0 where
  pub size : length b < 65536
  pub few : r ≤ 4096
  pub indexed : length i ≡ 4096
  pub inside : (j : ℕ) → j < r → Framed b (get_or i j 0)

-- and each other row has an entry for every record there may be
pub record Ready (b i : List ℕ) (nm : List Bool) (ds : List ℕ) (r : ℕ) : Type 0 where
  pub rows : Rows b i r
  pub noted : length nm ≡ 4096
  pub deep : length ds ≡ 4096

-- which of the 1,024 chains the type at p is in: its mark and fields say it
unfoldable pub chain_of : List ℕ → ℕ → ℕ
chain_of b p = pick (eqb (mark_at b p) TU) 0 ((67 * word_at b (p + 2) + 2 * word_at b (p + 4) + mark_at b p) % 1024)

-- a chain that goes on at n comes to record j: n is a record's number and one more, that record's link is the next n, and 0 ends it
pub data Reaches (ls : List ℕ) (j : ℕ) : ℕ → Type 0 where
  here : {n : ℕ} → n ≡ j + 1 → Reaches ls j n
  later : {n : ℕ} → 0 < n → Reaches ls j (get_or ls (n - 1) 0) → Reaches ls j n

-- each type among the first r records is in its chain, and chains lead to earlier records only
pub record Chained (b : List ℕ) (s : Reader) (r : ℕ) : Type 0 where
  pub headed : length s.heads ≡ 1024
  pub linked : length s.links ≡ 4096
  pub begins : (h : ℕ) → get_or s.heads h 0 ≤ r
  pub falls : (j : ℕ) → get_or s.links j 0 ≤ j
  pub reached : (j : ℕ) → j < r → kind_at b (get_or s.index j 0) ≡ TYPE → Reaches s.links j (get_or s.heads (chain_of b (get_or s.index j 0)) 0)

-- READ's rows; before the first record they are zero
abbrev pub reader : List ℕ → List Bool → List ℕ → List ℕ → List ℕ → Reader
reader i nm ds hs ls = record { index = i; named = nm; depths = ds; heads = hs; links = ls }

abbrev pub nothing : Reader
nothing = reader (replicate 4096 0) (replicate 4096 false) (replicate 4096 0) (replicate 1024 0) (replicate 4096 0)

-- the heads and the links of chains once record r, at p, has its place: a type is the newest of its chain, and leads on to the one that was
unfoldable pub heads_with : List ℕ → List ℕ → ℕ → ℕ → List ℕ
heads_with b hs r p = pick (eqb (kind_at b p) TYPE) (set hs (chain_of b p) (r + 1)) hs

unfoldable pub links_with : List ℕ → List ℕ → List ℕ → ℕ → ℕ → List ℕ
links_with b hs ls r p = pick (eqb (kind_at b p) TYPE) (set ls r (get_or hs (chain_of b p) 0)) ls

abbrev pub joined : List ℕ → Reader → ℕ → ℕ → Reader
joined b s r p = reader s.index s.named s.depths (heads_with b s.heads r p) (links_with b s.heads s.links r p)

-- judging a field changes no row but the one of what was named
pub record OthersKept (s t : Reader) : Type 0 where
  pub index : t.index ≡ s.index
  pub depths : t.depths ≡ s.depths
  pub heads : t.heads ≡ s.heads
  pub links : t.links ≡ s.links
  pub named : length t.named ≡ length s.named

-- an answer that goes on leaves record r in the chains too
abbrev pub Carried : Result ℕ Fault → List ℕ → Reader → ℕ → Type 0
Carried (Ok p) b s r = Chained b s (r + 1)
Carried (Err f) b s r = Unit {0}

-- the frame of the record at p: where it stands, its mark, how often its group stands and where it ends
abbrev pub frame_at : List ℕ → ℕ → Frame
frame_at b p = record { at = p; mark = mark_at b p; count = count_at b p; end = end_at b p }

-- what is known of the record at p once its mark is known; once its letters are read
unfoldable pub frame_from : List ℕ → ℕ → Result Frame Fault
frame_from b p = pick (ltb (length b) (end_at b p)) (Err Cut) (Ok (frame_at b p))

unfoldable pub frame_of : List ℕ → ℕ → Result Frame Fault
frame_of b p = pick (ltb (length b) (p + 2)) (Err Cut) (pick (eqb (mark_at b p) 0) (Err Mark) (frame_from b p))

-- the kind that is named, where 0 is none
abbrev pub named_of : ℕ → Option ℕ
named_of kd = pick (eqb kd 0) None (Some kd)

-- an answer beside the row of names that it left
abbrev pub verdict_of : Result ℕ Fault → List Bool → Verdict
verdict_of (Ok d) nm = good nm d
verdict_of (Err f) nm = bad f

-- an answer beside the rows that it left, for record r
abbrev pub moved_of : Result ℕ Fault → ℕ → List ℕ → List Bool → List ℕ → Moved
moved_of (Ok p) r i nm ds = on (state p (r + 1) i nm ds)
moved_of (Err f) r i nm ds = stop f

-- an answer beside the index that it left
abbrev pub outcome_of : Result ℕ Refusal → List ℕ → Outcome
outcome_of (Ok n) i = done n i
outcome_of (Err w) i = refused w
