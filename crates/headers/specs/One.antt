-- Row one: ESI ID, channel, start and stop of the day. Document 01, "Rows".
-- Assumes nothing.
use Rattle.std.specs.Prelude.{List, cond, ℕ}
use Rattle.text.specs.Byte.{Bytes, ascii, equals}
use Rattle.text.specs.Identifier.{is_esi_id}
use Rattle.lines.specs.Line.{Line}
use Rattle.report.specs.Outcome.{Outcome, passed, refused, require, ◌>>=◌, ◌>>◌}
use Rattle.lines.specs.Row.{fields_of, ◌!◌}
use Rattle.report.specs.Verdict.{misfit, not_below, not_one_day}
use Rattle.headers.specs.Time.{time_of, is_below, is_whole_day}
use Rattle.headers.specs.declared.one.Channel.{Channel}
use Rattle.headers.specs.declared.one.Channel.TheVariants.{Load, Generation}

-- Document 01, "Registry and cells": load 0, generation 1.
unfoldable pub channel_number : Channel → ℕ
channel_number Load = 0
channel_number Generation = 1

-- what row one gives
pub record RowOne : Type 0 where
  pub esi_id : Bytes
  pub channel : Channel
  pub day : ℕ

-- `1` is generation, `4` is load
unfoldable pub channel_of : Bytes → Outcome Channel
channel_of f = cond (equals f (ascii "1")) (passed Generation) (cond (equals f (ascii "4")) (passed Load) (refused misfit))

-- fields 4 to 7: the day that start and stop span, `Y`, `N`
unfoldable pub day_of : Bytes → Bytes → Bytes → Bytes → Outcome ℕ
day_of start stop y n = do
  from ← time_of start
  to ← time_of stop
  require (equals y (ascii "Y")) misfit
  require (equals n (ascii "N")) misfit
  require (is_below from to) not_below
  require (is_whole_day from to) not_one_day
  passed from.date

unfoldable pub one_of : List Bytes → Outcome RowOne
one_of fields = do
  require (is_esi_id (fields ! 2)) misfit
  channel ← channel_of (fields ! 3)
  day ← day_of (fields ! 4) (fields ! 5) (fields ! 6) (fields ! 7)
  passed (record { esi_id = fields ! 2; channel = channel; day = day })

unfoldable pub row_one : Line → Outcome RowOne
row_one line = do
  fields ← fields_of (ascii "00000001") 7 line
  one_of fields
