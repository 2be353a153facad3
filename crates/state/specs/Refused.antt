-- What a call returns: refusal 1 by what the state holds, 2 to 5 by the registry and the lengths.
-- Assumes nothing.
use Rattle.std.specs.Prelude.{cond, ℕ}
use Rattle.text.specs.Byte.{Bytes}
use Rattle.report.specs.Refusal.{bad_state}
use Rattle.plain.specs.Rows.{rules_of}
use Rattle.plain.specs.Call.{refused_at}
use Rattle.plain.specs.Promise.{overfull}
use Rattle.state.specs.declared.State.{State}
use Rattle.state.specs.View.{view_of}

-- by its state, its registry, its table's and its report's length, and the piece's
unfoldable pub number_for : State → Bytes → ℕ → ℕ → ℕ → ℕ
number_for s reg size room n = cond (overfull (view_of s)) bad_state (refused_at (rules_of reg) size s.taken room n)
