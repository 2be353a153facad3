-- The header readers' answers, where they hold parts of the line, as what document 01 says of the row.
-- Assumes nothing.
use Rattle.std.specs.Prelude.{Result}
use denote.Ref.{Bor}
use Rattle.text.specs.Byte.{Bytes}
use Rattle.report.specs.Outcome.{Outcome, passed, says, ◌>>=◌}
use Rattle.report.specs.declared.verdict.Verdict.{Verdict}
use Rattle.headers.specs.One.{RowOne}
use Rattle.headers.specs.declared.one.One.{One}

abbrev pub one_says : Result One Verdict → Outcome RowOne
one_says r = says r >>= (λ one. passed (record { esi_id = one.id.now; channel = one.channel; day = one.day }))

-- the Sender's number
abbrev pub thirty_says : Result (Bor Bytes) Verdict → Outcome Bytes
thirty_says r = says r >>= (λ sender. passed sender.now)
