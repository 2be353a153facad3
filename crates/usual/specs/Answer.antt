-- The usual rows: where a line is taken for one, its row's rule gives the same; where it is not, nothing is said of it.
-- Assumes nothing.
use Rattle.std.specs.Prelude.{◌≡◌, IfSome, Ok}
use Rattle.std.specs.declared.option.Option.{Option}
use denote.Ref.{Bor}
use Rattle.text.specs.Byte.{Bytes}
use Rattle.lines.specs.Line.{Line}
use Rattle.report.specs.Outcome.{passed}
use Rattle.headers.specs.One.{row_one}
use Rattle.headers.specs.Four.{row_four}
use Rattle.headers.specs.Thirty.{row_thirty}
use Rattle.headers.specs.Answer.{one_says, thirty_says}
use Rattle.headers.specs.declared.one.One.{One}
use Rattle.headers.specs.declared.time.Stamp.{Stamp}

abbrev pub UsualOneSays : Option One → Line → Type 0
UsualOneSays usual line = IfSome usual (λ one. one_says (Ok one) ≡ row_one line)

abbrev pub UsualFourSays : Option Stamp → Line → Type 0
UsualFourSays usual line = IfSome usual (λ stamp. passed stamp ≡ row_four line)

abbrev pub UsualThirtySays : Option (Bor Bytes) → Line → Type 0
UsualThirtySays usual line = IfSome usual (λ sender. thirty_says (Ok sender) ≡ row_thirty line)
