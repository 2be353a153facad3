-- Small files as the plain loader reads them, by computation: that the definitions are read right.
-- Assumes nothing.
use mathlib.Core.Path.{◌≡◌, refl}
use mathlib.Core.List.{[], ◌∷◌, ◌++◌}
use Prim.Native.Nat.{ℕ, zero, suc, ◌+◌, ◌*◌}
use lib.ListN.{replicate}
use Rattle.report.specs.Words.{entry_of}
use Rattle.calendar.specs.Clock.{is_clock}
use Rattle.calendar.specs.Date.{is_date, month_length}
use Rattle.calendar.specs.Day.{day_number, first_day}
use Rattle.calendar.specs.Intervals.{intervals_on}
use Rattle.text.specs.Byte.{Bytes, ascii, is_empty, every, equals, starts_with}
use Rattle.text.specs.Field.{cut}
use Rattle.text.specs.Identifier.{esi_id_size, is_name, is_duns}
use Rattle.text.specs.Number.{number_from, digits_of, leading, behind}
use Rattle.lines.specs.Line.{LF, CR, drop_cr, ends_with_cr, ended_line, is_long, kind_of}
use Rattle.lines.specs.Row.{fields_of}
use Rattle.headers.specs.Time.{is_time, time_of, stamp_of, is_below, stops_day, is_whole_day}
use Rattle.headers.specs.One.{channel_number, channel_of, day_of, one_of, row_one}
use Rattle.headers.specs.Two.{fits_form, fit_all, two_of, row_two}
use Rattle.headers.specs.Three.{row_three}
use Rattle.headers.specs.Four.{four_of as stamp_from, row_four}
use Rattle.headers.specs.Thirty.{has_duns, ends_thirty, is_thirty, thirty_of, row_thirty}
use Rattle.details.specs.Value.{is_negative, watt_hours, with_point, value_parts, value_of}
use Rattle.details.specs.Detail.{detail_code, status_of, with_empty, interval_of, four_of, detail_of, row_detail}
use Rattle.padded.specs.Order.{order}
use Rattle.padded.specs.Padding.{pad, unpad}
use Rattle.registry.specs.Entry.{owner_size, is_window, window_of, is_meter, start_of, entry_kind as entry_kind}
use Rattle.registry.specs.Registry.{in_order, entries, registry_of, is_registry, meters_of, window_is}
use Rattle.registry.specs.Index.{find_meter}
use Rattle.cell.specs.Layout.{Words, width}
use Rattle.cell.specs.Read.{cleared, begun, with_stamp, with_interval, with_intervals}
use Rattle.reads.specs.Load.{cell_at, put_cell, holds_none, merge, loaded}
use Rattle.checks.specs.Check.{interval_flag, idr_flag, has_flag, in_window, flag_checks, day_in, meter_checks, judge}
use Rattle.cells.specs.Number.{cell_count, cell_number}
use Rattle.cells.specs.Address.{is_address}
use Rattle.plain.specs.Rows.{begins, first_row, with_row, checked, after_detail, detail_row, due_row, next_row, rules_of}
use Rattle.plain.specs.Table.{load_one, load_all}
use Rattle.plain.specs.Loader.{close, settle, entries_of, loads_of, step_kind, step_line}
use Rattle.plain.specs.Loader.{byte_to, byte_events, scan_to, scan_events, end_at, end_events}
use Rattle.plain.specs.Call.{fresh, refused_at, done_call, by_number, plain_call, plain_answers, plain_table}
use Rattle.plain.specs.Claim.{joined, one_file, alone, alone_table}

-- a window of one day, 20080510, and no meter
unfoldable pub no_meters : Bytes
no_meters = 1 ∷ ascii "2008051001"

-- document 01's sample: `hello`, and an opener with too few fields
unfoldable pub hello : Bytes
hello = ascii "hello" ++ (LF ∷ ascii "00000001,7") ++ (LF ∷ [])

-- empty lines, with and without a CR, and lines that are skipped: behind a stray run's first, line 2, and behind that of a refused record, line 5
unfoldable pub skipped : Bytes
skipped = LF ∷ ascii "hello" ++ (LF ∷ CR ∷ LF ∷ ascii "100000") ++ (LF ∷ ascii "00000001,7") ++ (LF ∷ LF ∷ hello)

-- the same window, an owner, and a meter of theirs that is set up for interval data and has profile IDR
unfoldable pub one_meter : Bytes
one_meter =
    no_meters ++ (2 ∷ pad owner_size (ascii "123456789")) ++ (3 ∷ pad esi_id_size (ascii "ESIID")) ++ ((interval_flag + idr_flag) ∷ [])

-- n detail rows from row k upward, each of four times 1 kWh
unfoldable pub detail_text : ℕ → ℕ → Bytes
detail_text zero k = []
detail_text (suc n) k = detail_code k ++ ascii ",1.000,A,,1.000,A,,1.000,A,,1.000,A,," ++ (LF ∷ detail_text n (suc k))

-- a record for that meter and day: 5 header rows, and n detail rows, of which the day has 24
unfoldable pub record_text : ℕ → Bytes
record_text n =
    ascii "00000001,ESIID,4,20080510000000,20080510235900,Y,N" ++ (LF ∷ [])
    ++ ascii "00000002,,,,,,,900,01,,,,,CST" ++ (LF ∷ [])
    ++ ascii "00000003,DESC" ++ (LF ∷ [])
    ++ ascii "00000004,20080511010203,M" ++ (LF ∷ [])
    ++ ascii "00000030,ATTRIBUTE_VALUE_PAIRS,MRE=123456789,Sender=123456789,Receiver=183529049,REP=" ++ (LF ∷ [])
    ++ detail_text n 0

-- a table for it, of two cells
abbrev pub empty_table : Words
empty_table = replicate (2 * width) 0

pub record Samples : Type 0 where
  -- a stray run at line 1; a record refused 14 at line 2
  pub hello-report : alone (rules_of no_meters) [] hello ≡ entry_of 1 10 1 0 0 ∷ entry_of 2 14 2 0 0 ∷ []
  -- both fall in the feed, none at finish
  pub hello-answers : plain_answers (rules_of no_meters) [] fresh (one_file hello)
      ≡ record { number = 0; count = 2; entries = entry_of 1 10 1 0 0 ∷ entry_of 2 14 2 0 0 ∷ [] } ∷ record { number = 0; count = 0; entries = [] } ∷ []
  -- every line is counted; the runs and records begin at lines 2, 5 and 8, and no other line says anything
  pub skipped-report : alone (rules_of no_meters) [] skipped ≡ entry_of 2 10 2 0 0 ∷ entry_of 5 14 5 0 0 ∷ entry_of 8 14 8 0 0 ∷ []
  -- begun at line 1, loaded, its last row at line 29, meter 1
  pub record-report : alone (rules_of one_meter) empty_table (record_text 24) ≡ entry_of 1 0 29 1 20080510 ∷ []
  -- 96 intervals, the stamp, no marks, 1,000 Wh each; the generation cell stays empty
  pub record-table : alone_table (rules_of one_meter) empty_table (record_text 24)
      ≡ (96 ∷ 20080511 ∷ 10203 ∷ []) ++ replicate 4 0 ++ replicate 96 1000 ++ replicate (4 + width) 0
  -- `hello` behind it, at line 30, loads it and begins a stray run
  pub stray-report : alone (rules_of one_meter) empty_table (record_text 24 ++ hello)
      ≡ entry_of 1 0 29 1 20080510 ∷ entry_of 30 10 30 0 0 ∷ entry_of 31 14 31 0 0 ∷ []
  -- a row short of the day at finish, one past its 28 lines; and a surplus row, at line 30
  pub short-report : alone (rules_of one_meter) empty_table (record_text 23) ≡ entry_of 1 12 29 0 20080510 ∷ []
  pub surplus-report : alone (rules_of one_meter) empty_table (record_text 25) ≡ entry_of 1 22 30 1 20080510 ∷ []

pub samples : Samples
unfolding alone alone_table joined plain_answers plain_table plain_call by_number refused_at done_call
    scan_events scan_to byte_events byte_to step_line step_kind end_events end_at close settle entries_of loads_of load_all load_one
    rules_of first_row begins next_row due_row detail_row after_detail with_row checked
    ended_line drop_cr ends_with_cr is_long kind_of fields_of cut is_empty equals starts_with every number_from digits_of leading behind is_name is_duns
    is_date is_clock month_length day_number first_day intervals_on is_time time_of stamp_of is_below stops_day is_whole_day
    channel_of day_of one_of row_one fits_form fit_all two_of row_two row_three stamp_from row_four has_duns ends_thirty is_thirty thirty_of row_thirty
    is_negative watt_hours with_point value_parts value_of status_of with_empty interval_of four_of detail_of row_detail
    pad unpad order is_registry meters_of window_is registry_of entries in_order start_of entry_kind is_window window_of is_meter find_meter
    judge meter_checks flag_checks has_flag day_in in_window
    cleared begun with_stamp with_interval with_intervals cell_at put_cell holds_none merge loaded
    channel_number cell_count cell_number is_address
    no_meters hello skipped one_meter detail_text record_text
samples =
    record {
      hello-report = refl;
      hello-answers = refl;
      skipped-report = refl;
      record-report = refl;
      record-table = refl;
      stray-report = refl;
      short-report = refl;
      surplus-report = refl;
    }
