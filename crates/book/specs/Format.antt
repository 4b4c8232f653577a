-- The format of a book: its marks, the fields of each, and the range of each number.
-- Assumes nothing.
use Rattle.std.specs.Prelude.{ℕ, ◌+◌, ◌*◌, ◌-◌, ◌%◌, ◌≤◌, Bool, true, List, [], ◌∷◌, length, get_or, eqb, leb, ltb}
use Rattle.laws.specs.Table.{pick, both, Case, at, choose, among}
use Rattle.book.specs.declared.format.Layout.{Layout}

-- document 01, The book: a 16-bit number, low byte first
unfoldable pub word_at : List ℕ → ℕ → ℕ
word_at b p = get_or b p 0 + 256 * get_or b (p + 1) 0

-- the kinds of records; a field with one of these roles names a record of that kind
abbrev pub TYPE : ℕ
TYPE = 1

abbrev pub VALUE : ℕ
VALUE = 2

abbrev pub PATTERN : ℕ
PATTERN = 3

abbrev pub EXPRESSION : ℕ
EXPRESSION = 4

abbrev pub STATEMENT : ℕ
STATEMENT = 5

abbrev pub FUNCTION : ℕ
FUNCTION = 6

-- the roles of a field that is no such name: a name or symbol, a count, a size, variants, a bound, a count below it, a jet, a loop's width, a hash's width, a block's end
abbrev pub NAME : ℕ
NAME = 7

abbrev pub COUNT : ℕ
COUNT = 8

abbrev pub SOME : ℕ
SOME = 9

abbrev pub VARIANTS : ℕ
VARIANTS = 10

abbrev pub BOUND : ℕ
BOUND = 11

abbrev pub UNDER : ℕ
UNDER = 12

abbrev pub JET : ℕ
JET = 13

abbrev pub WIDTH : ℕ
WIDTH = 14

abbrev pub BITS : ℕ
BITS = 15

abbrev pub END : ℕ
END = 16

-- a row of document 01's table, The book: a mark's two letters (their ASCII codes), its records' kind, the roles of its first fields, of the group that stands as often as the last of them says, and of its last field (0: none)
pub record Row : Type 0 where
  pub letters : ℕ
  pub kind : ℕ
  pub head : List ℕ
  pub each : List ℕ
  pub last : ℕ

abbrev pub row : ℕ → ℕ → ℕ → List ℕ → List ℕ → ℕ → Row
row a b k h e l = record { letters = a + 256 * b; kind = k; head = h; each = e; last = l }

-- document 01, The book: the table of marks, in its order
abbrev pub marks : List Row
marks =
    -- tu, ts, tp
    row 116 117 TYPE [] [] 0
    ∷ row 116 115 TYPE (TYPE ∷ TYPE ∷ []) [] 0
    ∷ row 116 112 TYPE (TYPE ∷ TYPE ∷ []) [] 0
    -- vu, vl, vr, vp
    ∷ row 118 117 VALUE (TYPE ∷ []) [] 0
    ∷ row 118 108 VALUE (TYPE ∷ VALUE ∷ []) [] 0
    ∷ row 118 114 VALUE (TYPE ∷ VALUE ∷ []) [] 0
    ∷ row 118 112 VALUE (TYPE ∷ VALUE ∷ VALUE ∷ []) [] 0
    -- pi, pn, pt
    ∷ row 112 105 PATTERN (NAME ∷ []) [] 0
    ∷ row 112 110 PATTERN [] [] 0
    ∷ row 112 116 PATTERN (COUNT ∷ []) (PATTERN ∷ []) 0
    -- ec, ew, ev, et, el, e0, e1, en, eb
    ∷ row 101 99 EXPRESSION (TYPE ∷ VALUE ∷ []) [] 0
    ∷ row 101 119 EXPRESSION (TYPE ∷ NAME ∷ []) [] 0
    ∷ row 101 118 EXPRESSION (TYPE ∷ NAME ∷ []) [] 0
    ∷ row 101 116 EXPRESSION (TYPE ∷ COUNT ∷ []) (EXPRESSION ∷ []) 0
    ∷ row 101 108 EXPRESSION (TYPE ∷ BOUND ∷ UNDER ∷ []) (EXPRESSION ∷ []) 0
    ∷ row 101 48 EXPRESSION (TYPE ∷ EXPRESSION ∷ []) [] 0
    ∷ row 101 49 EXPRESSION (TYPE ∷ EXPRESSION ∷ []) [] 0
    ∷ row 101 110 EXPRESSION (TYPE ∷ NAME ∷ VARIANTS ∷ COUNT ∷ []) (EXPRESSION ∷ []) 0
    ∷ row 101 98 EXPRESSION (TYPE ∷ COUNT ∷ []) (STATEMENT ∷ []) END
    -- sa, se
    ∷ row 115 97 STATEMENT (PATTERN ∷ EXPRESSION ∷ []) [] 0
    ∷ row 115 101 STATEMENT (EXPRESSION ∷ []) [] 0
    -- em, eh
    ∷ row 101 109 EXPRESSION (TYPE ∷ EXPRESSION ∷ PATTERN ∷ EXPRESSION ∷ PATTERN ∷ EXPRESSION ∷ []) [] 0
    ∷ row 101 104 EXPRESSION (TYPE ∷ EXPRESSION ∷ SOME ∷ []) (PATTERN ∷ EXPRESSION ∷ []) 0
    -- cj; cl, cr, cd, ca; cp; cn, ck
    ∷ row 99 106 EXPRESSION (TYPE ∷ NAME ∷ JET ∷ COUNT ∷ []) (EXPRESSION ∷ []) 0
    ∷ row 99 108 EXPRESSION (TYPE ∷ NAME ∷ EXPRESSION ∷ []) [] 0
    ∷ row 99 114 EXPRESSION (TYPE ∷ NAME ∷ EXPRESSION ∷ []) [] 0
    ∷ row 99 100 EXPRESSION (TYPE ∷ NAME ∷ EXPRESSION ∷ []) [] 0
    ∷ row 99 97 EXPRESSION (TYPE ∷ NAME ∷ EXPRESSION ∷ []) [] 0
    ∷ row 99 112 EXPRESSION (TYPE ∷ NAME ∷ []) [] 0
    ∷ row 99 110 EXPRESSION (TYPE ∷ EXPRESSION ∷ []) [] 0
    ∷ row 99 107 EXPRESSION (TYPE ∷ EXPRESSION ∷ []) [] 0
    -- cf, cq, cy, cw, ch
    ∷ row 99 102 EXPRESSION (TYPE ∷ FUNCTION ∷ COUNT ∷ []) (EXPRESSION ∷ []) 0
    ∷ row 99 113 EXPRESSION (TYPE ∷ FUNCTION ∷ BOUND ∷ EXPRESSION ∷ EXPRESSION ∷ []) [] 0
    ∷ row 99 121 EXPRESSION (TYPE ∷ FUNCTION ∷ SOME ∷ EXPRESSION ∷ EXPRESSION ∷ []) [] 0
    ∷ row 99 119 EXPRESSION (TYPE ∷ FUNCTION ∷ WIDTH ∷ EXPRESSION ∷ EXPRESSION ∷ []) [] 0
    ∷ row 99 104 EXPRESSION (TYPE ∷ NAME ∷ COUNT ∷ []) (BITS ∷ EXPRESSION ∷ []) 0
    -- fn
    ∷ row 102 110 FUNCTION (TYPE ∷ COUNT ∷ []) (NAME ∷ TYPE ∷ []) EXPRESSION
    ∷ []

-- the marks by number, in the order of the table
abbrev pub TU : ℕ
TU = 1

abbrev pub TS : ℕ
TS = 2

abbrev pub TP : ℕ
TP = 3

abbrev pub VU : ℕ
VU = 4

abbrev pub VL : ℕ
VL = 5

abbrev pub VR : ℕ
VR = 6

abbrev pub VP : ℕ
VP = 7

abbrev pub PI : ℕ
PI = 8

abbrev pub PN : ℕ
PN = 9

abbrev pub PT : ℕ
PT = 10

abbrev pub EC : ℕ
EC = 11

abbrev pub EW : ℕ
EW = 12

abbrev pub EV : ℕ
EV = 13

abbrev pub ET : ℕ
ET = 14

abbrev pub EL : ℕ
EL = 15

abbrev pub E0 : ℕ
E0 = 16

abbrev pub E1 : ℕ
E1 = 17

abbrev pub EN : ℕ
EN = 18

abbrev pub EB : ℕ
EB = 19

abbrev pub SA : ℕ
SA = 20

abbrev pub SE : ℕ
SE = 21

abbrev pub EM : ℕ
EM = 22

abbrev pub EH : ℕ
EH = 23

abbrev pub CJ : ℕ
CJ = 24

abbrev pub CL : ℕ
CL = 25

abbrev pub CR : ℕ
CR = 26

abbrev pub CD : ℕ
CD = 27

abbrev pub CA : ℕ
CA = 28

abbrev pub CP : ℕ
CP = 29

abbrev pub CN : ℕ
CN = 30

abbrev pub CK : ℕ
CK = 31

abbrev pub CF : ℕ
CF = 32

abbrev pub CQ : ℕ
CQ = 33

abbrev pub CY : ℕ
CY = 34

abbrev pub CW : ℕ
CW = 35

abbrev pub CH : ℕ
CH = 36

abbrev pub FN : ℕ
FN = 37

-- the rows from k on, each beside its number
abbrev pub numbered : ℕ → List Row → List (Case ℕ)
numbered k [] = []
numbered k (r ∷ rs) = at r.letters k ∷ numbered (k + 1) rs

-- a mark's number, from 1 in the table's order; 0 where no mark has these letters
unfoldable pub mark_of : ℕ → ℕ
mark_of w = choose (numbered 1 marks) w 0

-- the row of a mark's number
abbrev pub row_of : ℕ → Row
row_of m = get_or (row 0 0 0 [] [] 0 ∷ marks) m (row 0 0 0 [] [] 0)

unfoldable pub kind_of : ℕ → ℕ
kind_of m = (row_of m).kind

-- a mark's fields: the roles of the first ones, of the group that stands as often as the last of them says, how many these are, and the role of the last field (0: none)
pub record Fields : Type 0 where
  pub heads : ℕ
  pub head : List ℕ
  pub eachs : ℕ
  pub each : List ℕ
  pub last : ℕ

abbrev pub plan : List ℕ → List ℕ → ℕ → Fields
plan h e l = record { heads = length h; head = h; eachs = length e; each = e; last = l }

-- those of a row, and those that the code has
abbrev pub layout_row : Row → Fields
layout_row r = plan r.head r.each r.last

abbrev pub laid : Layout → Fields
laid l = plan l.head.now l.each.now l.last

unfoldable pub layout_of : ℕ → Fields
layout_of m = layout_row (row_of m)

-- the role of field k, where the group stands n times
unfoldable pub role_of : Fields → ℕ → ℕ → ℕ
role_of l n k =
    pick (ltb k l.heads) (get_or l.head k 0)
    (pick (ltb (k - l.heads) (n * l.eachs)) (get_or l.each ((k - l.heads) % l.eachs) 0) l.last)

-- how many fields there are, where the group stands n times
unfoldable pub total_of : Fields → ℕ → ℕ
total_of l n = l.heads + n * l.eachs + pick (eqb l.last 0) 0 1

-- what every mark's layout keeps
pub record Small (l : Fields) : Type 0 where
  pub heads : l.heads ≤ 6
  pub eachs : l.eachs ≤ 2

-- document 01, Numbers: between two ends, both counted in; a power of two between them
unfoldable pub within : ℕ → ℕ → ℕ → Bool
within lo hi x = both (leb lo x) (leb x hi)

abbrev pub powers : List ℕ
powers = 1 ∷ 2 ∷ 4 ∷ 8 ∷ 16 ∷ 32 ∷ 64 ∷ 128 ∷ 256 ∷ []

unfoldable pub power_in : ℕ → ℕ → ℕ → Bool
power_in lo hi x = both (within lo hi x) (among powers x)

-- document 01, Numbers: the range of each role, where the field before holds p; any number elsewhere
abbrev pub ranges : ℕ → ℕ → List (Case Bool)
ranges p x =
    at COUNT (leb x 256)
    ∷ at SOME (within 1 256 x)
    ∷ at VARIANTS (both (ltb p x) (leb x 256))
    ∷ at BOUND (power_in 2 256 x)
    ∷ at UNDER (ltb x p)
    ∷ at JET (leb x 2)
    ∷ at WIDTH (power_in 1 16 x)
    ∷ at BITS (power_in 8 256 x)
    ∷ []

unfoldable pub in_range : ℕ → ℕ → ℕ → Bool
in_range r p x = choose (ranges p x) r true
