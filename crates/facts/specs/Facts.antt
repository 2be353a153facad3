-- Document 01, "Proved together, as one table of facts": values, days, row one and row two.
-- Assumes nothing.
use Rattle.std.specs.Prelude.{◌≡◌}
use Rattle.calendar.specs.Day.{day_number}
use Rattle.calendar.specs.Intervals.{intervals_on}
use Rattle.text.specs.Byte.{ascii}
use Rattle.report.specs.Outcome.{passed, refused}
use Rattle.lines.specs.Line.{last_line}
use Rattle.headers.specs.One.{row_one}
use Rattle.headers.specs.Two.{row_two}
use Rattle.details.specs.Value.{value_of}

pub record Facts : Type 0 where
  pub thousandths : value_of (ascii ".999") ≡ passed 999
  pub hundredths : value_of (ascii "68.29") ≡ passed 68290
  pub zero : value_of (ascii "0") ≡ passed 0
  pub largest : value_of (ascii "999999.999") ≡ passed 999999999
  pub seven_digits : value_of (ascii "1000000") ≡ refused 21
  pub four_decimals : value_of (ascii ".2948") ≡ refused 20
  pub below_zero : value_of (ascii "-1.5") ≡ refused 19
  pub point_alone : value_of (ascii ".") ≡ refused 21
  pub day_numbered : day_number 20080510 ≡ 495
  pub usual_day : intervals_on 20080510 ≡ 96
  pub spring_day : intervals_on 20080309 ≡ 92
  pub fall_day : intervals_on 20081102 ≡ 100
  pub stop_before_start : row_one (last_line (ascii "00000001,100000000000000,4,20080510000000,20080509235900,Y,N")) ≡ refused 16
  pub row_two_of_write : row_two (last_line (ascii "00000002,,,,,,,900,01,,,,,CST")) ≡ passed tt
