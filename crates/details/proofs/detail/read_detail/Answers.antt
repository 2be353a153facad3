-- `details::detail::read_detail` meets its contract.
-- Assumes nothing.
use mathlib.Core.Path.{◌≡◌, ◌∙◌}
use mathlib.Core.List.{[], ◌++◌, append-nil}
use Prim.Native.Nat.{ℕ}
use Rattle.text.specs.Byte.{Bytes, ascii}
use Rattle.text.specs.Number.{digits_of}
use Rattle.report.proofs.Passing.{says-exit}
use Rattle.details.specs.Detail.{detail_code, four_of, detail_of, row_detail}
use Rattle.details.proofs.detail.read_detail.Goals as goal

-- the code as the digits put into it leave it
code_put : (digits : Bytes) (k : ℕ) → digits ≡ digits_of 2 k → ascii "100000" ++ (digits ++ []) ≡ detail_code k
code_put digits k e = rw (append-nil digits, e)

pub returns-in_err-fields : goal.returns-in_err-fields
unfolding row_detail
returns-in_err-fields c = says-exit _ _ c.from_residual.ensures.1 ∙ rw (← code_put _ _ c.put_digits.ensures, ← c.in_err-fields.ensures)

pub returns-in_err-first : goal.returns-in_err-first
unfolding four_of detail_of row_detail
returns-in_err-first c =
    says-exit _ _ c.from_residual-in_err-first.ensures.1
    ∙ rw (← code_put _ _ c.put_digits.ensures, ← c.in_ok-fields.ensures, c.next.ensures.taken, ← c.in_err-first.ensures.says)

pub returns-in_err-second : goal.returns-in_err-second
unfolding four_of detail_of row_detail
returns-in_err-second c =
    says-exit _ _ c.from_residual-in_err-second.ensures.1
    ∙ rw (← code_put _ _ c.put_digits.ensures, ← c.in_ok-fields.ensures, c.next.ensures.taken, ← c.in_ok-first.ensures.says, c.read_interval.ensures.taken, ← c.in_err-second.ensures.says)

pub returns-in_err-third : goal.returns-in_err-third
unfolding four_of detail_of row_detail
returns-in_err-third c =
    says-exit _ _ c.from_residual-in_err-third.ensures.1
    ∙ rw (← code_put _ _ c.put_digits.ensures, ← c.in_ok-fields.ensures, c.next.ensures.taken, ← c.in_ok-first.ensures.says, c.read_interval.ensures.taken, ← c.in_ok-second.ensures.says, c.read_interval-2.ensures.taken, ← c.in_err-third.ensures.says)

pub returns-in_err-fourth : goal.returns-in_err-fourth
unfolding four_of detail_of row_detail
returns-in_err-fourth c =
    says-exit _ _ c.from_residual-in_err-fourth.ensures.1
    ∙ rw (← code_put _ _ c.put_digits.ensures, ← c.in_ok-fields.ensures, c.next.ensures.taken, ← c.in_ok-first.ensures.says, c.read_interval.ensures.taken, ← c.in_ok-second.ensures.says, c.read_interval-2.ensures.taken, ← c.in_ok-third.ensures.says, c.read_interval-3.ensures.taken, ← c.in_err-fourth.ensures.says)

pub returns-in_err-require : goal.returns-in_err-require
unfolding four_of detail_of row_detail
returns-in_err-require c =
    says-exit _ _ c.from_residual-in_err-require.ensures.1
    ∙ rw (← code_put _ _ c.put_digits.ensures, ← c.in_ok-fields.ensures, c.next.ensures.taken, ← c.in_ok-first.ensures.says, c.read_interval.ensures.taken, ← c.in_ok-second.ensures.says, c.read_interval-2.ensures.taken, ← c.in_ok-third.ensures.says, c.read_interval-3.ensures.taken, ← c.in_ok-fourth.ensures.says, c.read_interval-4.ensures.taken, c.next-2.ensures.taken, ← c.is_empty.ensures, ← c.in_err-require.ensures)

pub returns : goal.returns
unfolding four_of detail_of row_detail
returns c =
    rw (← code_put _ _ c.put_digits.ensures, ← c.in_ok-fields.ensures, c.next.ensures.taken, ← c.in_ok-first.ensures.says, c.read_interval.ensures.taken, ← c.in_ok-second.ensures.says, c.read_interval-2.ensures.taken, ← c.in_ok-third.ensures.says, c.read_interval-3.ensures.taken, ← c.in_ok-fourth.ensures.says, c.read_interval-4.ensures.taken, c.next-2.ensures.taken, ← c.is_empty.ensures, ← c.in_ok-require.ensures)
