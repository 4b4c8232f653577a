-- Tables of five bytes an entry: a kind, then two numbers of two bytes, low byte first. Nodes and cells are both held so.
-- Assumes nothing.
use Rattle.std.specs.Prelude.{ℕ, ◌+◌, ◌*◌, ◌/◌, ◌%◌, List, set, slice_set}

-- the table whose entry n is made of the kind k and the numbers a and b
unfoldable pub put : List ℕ → ℕ → ℕ → ℕ → ℕ → List ℕ
put t n k a b =
    set
    (slice_set (slice_set (slice_set (slice_set t (5 * n) k) (5 * n + 1) (a % 256)) (5 * n + 2) (a / 256)) (5 * n + 3) (b % 256))
    (5 * n + 4)
    (b / 256)
