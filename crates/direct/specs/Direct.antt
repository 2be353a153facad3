-- What the direct reader owes where it accepts: a whole detail line at the front of the bytes, which the row's own rule reads so.
-- Assumes nothing.
use Rattle.std.specs.Prelude.{◌≡◌, ℕ, ◌<◌, List, Option, IfSome, length, take, slice_index_or}
use Rattle.text.specs.Byte.{Bytes}
use Rattle.lines.specs.Line.{LF, NoLf, ended_line, kind_of}
use Rattle.report.specs.Outcome.{passed}
use Rattle.details.specs.Detail.{row_detail}
use Rattle.lines.specs.declared.line.Kind.TheVariants.{Detail}
use Rattle.details.specs.declared.detail.Interval.{Interval}
use Rattle.direct.specs.declared.Line.{Line}

-- the bytes begin with a line of n bytes and its LF, which is detail row k and gives these intervals
pub record DetailLine (k : ℕ) (s : Bytes) (intervals : List Interval) (n : ℕ) : Type 0 where
  pub within : n < length s
  pub ends : slice_index_or s n 0 ≡ LF
  pub clean : NoLf (take n s)
  pub kind : kind_of (take n s) ≡ Detail
  pub row : row_detail k (ended_line (take n s)) ≡ passed intervals

-- where it accepts, that; where it does not, nothing: the line is for the plain reader
abbrev pub direct_says : Option Line → ℕ → Bytes → Type 0
direct_says r k s = IfSome r (λ line. DetailLine k s line.row line.size)
