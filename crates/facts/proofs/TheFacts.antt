-- Document 01's table of facts holds: each by computing its definitions.
-- Assumes nothing.
use mathlib.Core.Path.{refl}
use Rattle.calendar.specs.Date.{month_length, is_date}
use Rattle.calendar.specs.Clock.{is_clock}
use Rattle.calendar.specs.Day.{first_day, day_number}
use Rattle.calendar.specs.Intervals.{intervals_on}
use Rattle.text.specs.Byte.{is_empty, every, equals}
use Rattle.text.specs.Field.{cut}
use Rattle.text.specs.Identifier.{is_name}
use Rattle.text.specs.Number.{number_from, leading, behind}
use Rattle.lines.specs.Line.{last_line, is_long}
use Rattle.lines.specs.Row.{fields_of}
use Rattle.headers.specs.Time.{is_time, time_of, is_below}
use Rattle.headers.specs.One.{channel_of, day_of, one_of, row_one}
use Rattle.headers.specs.Two.{decimal_parts, is_decimal, fits_form, fit_all, two_of, row_two}
use Rattle.details.specs.Value.{is_negative, watt_hours, with_point, value_parts, value_of}
use Rattle.facts.specs.Facts.{Facts}

pub facts : Facts
unfolding month_length is_date is_clock first_day day_number intervals_on every equals cut is_name number_from leading behind last_line is_long fields_of is_time time_of is_below channel_of day_of one_of row_one is_empty decimal_parts is_decimal fits_form fit_all two_of row_two is_negative watt_hours with_point value_parts value_of
facts =
    record {
      thousandths = refl;
      hundredths = refl;
      zero = refl;
      largest = refl;
      seven_digits = refl;
      four_decimals = refl;
      below_zero = refl;
      point_alone = refl;
      day_numbered = refl;
      usual_day = refl;
      spring_day = refl;
      fall_day = refl;
      stop_before_start = refl;
      row_two_of_write = refl;
    }
