-- Tables of five bytes an entry: a kind, then two numbers of two bytes, low byte first. Nodes and cells are both held so.
-- Past a table's end a byte reads as 0. Assumes nothing.
use Rattle.std.specs.Prelude.{ℕ, ◌+◌, ◌*◌, List, slice_index}
unfoldable pub use Rattle.named.specs.Entry.{put}

-- document 01, Stored order: entry n's kind, and its two numbers
unfoldable pub kind_at : List ℕ → ℕ → ℕ
kind_at t n = slice_index t (5 * n)

unfoldable pub left_at : List ℕ → ℕ → ℕ
left_at t n = slice_index t (5 * n + 1) + 256 * slice_index t (5 * n + 2)

unfoldable pub right_at : List ℕ → ℕ → ℕ
right_at t n = slice_index t (5 * n + 3) + 256 * slice_index t (5 * n + 4)
