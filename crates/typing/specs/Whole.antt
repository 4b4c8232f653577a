-- CHECK: its answer for every list of bytes.
-- Assumes nothing.
use Rattle.book.specs.declared.fault.Refusal.{Refusal}
use Rattle.std.specs.Prelude.{ℕ, zero, suc, ◌-◌, List, eqb, Ok, Err, Result, Ok, Err}
use Rattle.std.specs.Result.{result_and}
use Rattle.laws.specs.Table.{pick}
use Rattle.book.specs.Format.{VALUE, FUNCTION}
use Rattle.book.specs.Index.{kind}
use Rattle.book.specs.Read.{read_of, index_of}
use Rattle.book.specs.Text.{Text}
use Rattle.book.specs.Tree.{expr_of, fun_of}
use Rattle.shapes.specs.Wholes.{value_agrees}
use Rattle.binders.specs.Binders.{root_scope}
use Rattle.typing.specs.Check.{Checked, agree, check, check_fun}

-- what is judged of the records from r on, of which so many are left, in their order
unfoldable pub in_order : (ℕ → Checked) → ℕ → ℕ → Checked
in_order f r zero = Ok tt
in_order f r (suc left) = result_and (f r) (in_order f (suc r) left)

module _ (b i : List ℕ) where
  -- document 01, CHECK and the meanings: a value's declared type is the one that its parts give
  unfoldable pub value_at : ℕ → Checked
  value_at r = pick (eqb (kind b i r) VALUE) (agree (value_agrees b i r) r) (Ok tt)

  -- a function, called or not
  unfoldable pub function_at : ℕ → Checked
  function_at r = pick (eqb (kind b i r) FUNCTION) (check_fun (fun_of b i r)) (Ok tt)

  -- document 01, Refusals by number: value records, then functions, both in record order, then the root
  unfoldable pub checking : ℕ → Checked
  checking n = result_and (in_order value_at 0 n) (result_and (in_order function_at 0 n) (check (expr_of b i (n - 1)) root_scope))

-- a success has the number of records
unfoldable pub answer_of : ℕ → Checked → Result ℕ Refusal
answer_of n (Ok u) = Ok n
answer_of n (Err w) = Err w

-- document 01, Refusals by number: READ's refusal, or what is judged of the records
unfoldable pub check_of : List ℕ → Result ℕ Refusal
check_of b = elim (read_of b) [ Ok n ↦ answer_of n (checking b (index_of b) n) | Err w ↦ Err w ]

-- of a book that was read: the functions of its n records, and then the root
abbrev pub after_values : Text → ℕ → Checked
after_values t n = result_and (in_order (function_at t.bytes t.index) 0 n) (check (expr_of t.bytes t.index (n - 1)) root_scope)
