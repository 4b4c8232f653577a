-- The eleven jets: how many arguments each takes, and how many bits wide its input and its output are.
-- Assumes nothing.
use Rattle.std.specs.Prelude.{List, [], ◌∷◌, ◌≡◌, ℕ, ◌+◌, ◌-◌, ◌*◌, ◌^◌, ◌<◌, ◌≤◌, get_or}
use Rattle.laws.specs.Table.{Case, at, choose}
use Rattle.jet.specs.declared.Jet.{Jet}

-- a hash context: fewer than 64 bytes that wait, as a list of bound 64 (a bit for each of its six blocks, and the 63 bytes that they
-- hold); a count of 64 bits; a midstate of 256 bits
abbrev pub context : ℕ
context = (6 + 8 * 63) + 64 + 256

-- a jet of n arguments, from i bits to o bits
abbrev pub jet_on : ℕ → ℕ → ℕ → Jet
jet_on n i o = record { arguments = n; input = i; output = o }

-- a hash add of k bytes: a context and the bytes give a context
abbrev pub add_on : ℕ → Jet
add_on k = jet_on 2 (context + 8 * k) context

-- document 01, Stored order: verify, eq_8 and add_8 (which gives a carry beside the byte); hash init; adds of 1, 2, 4, 8, 16 and 32
-- bytes; finalize, which gives the hash
abbrev pub jets : List Jet
jets = jet_on 1 1 0 ∷ jet_on 2 16 1 ∷ jet_on 2 16 9 ∷ jet_on 0 0 context ∷ add_on 1 ∷ add_on 2 ∷ add_on 4 ∷ add_on 8 ∷ add_on 16 ∷ add_on 32 ∷ jet_on 1 context 256 ∷ []

-- the jet of a number below 11
abbrev pub jet_of : ℕ → Jet
jet_of j = get_or jets j (jet_on 0 0 0)

-- document 01, Stored order: for each hash width, in bits, the number of the jet that adds a word of it
abbrev pub adders : List (Case ℕ)
adders = at 8 4 ∷ at 16 5 ∷ at 32 6 ∷ at 64 7 ∷ at 128 8 ∷ at 256 9 ∷ []

-- the jet that adds a word of so many bits; 0 for a number that is no hash width
unfoldable pub add_of : ℕ → ℕ
add_of bits = choose adders bits 0

-- document 01, Stored order: how many bits the jets 4 to 9 add, which is 1, 2, 4, .. bytes
abbrev pub word_of : ℕ → ℕ
word_of j = 8 * 2 ^ (j - 4)

-- what callers learn of r, the jet that adds a word of so many bits
pub record Adds (bits r : ℕ) : Type 0 where
  pub is : r ≡ add_of bits
  pub from : 4 ≤ r
  pub to : r < 10
  pub word : word_of r ≡ bits
  pub input : (jet_of r).input ≡ context + bits
