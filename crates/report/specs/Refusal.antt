-- What a call returns, by document 01's numbers ("What a call returns"); from 11 on by document 02's.
-- Assumes nothing.
use Rattle.std.specs.Prelude.{ℕ}
use Rattle.report.specs.declared.refusal.Refusal.{Refusal}
use Rattle.report.specs.declared.refusal.Refusal.TheVariants.{BadState, BadRegistry, ShortTable, ShortReport, TooManyBytes, NoCell, EmptyCell, UnsoundCell, BadDescriptor, ShortOutput, ShortPages, TooManyPages}

abbrev pub done : ℕ
done = 0

-- the state holds too much
abbrev pub bad_state : ℕ
bad_state = 1

-- the registry breaks a rule
abbrev pub bad_registry : ℕ
bad_registry = 2

-- the table is shorter than its cells
abbrev pub short_table : ℕ
short_table = 3

-- the report holds too few entries
abbrev pub short_report : ℕ
short_report = 4

-- too many bytes taken
abbrev pub too_many_bytes : ℕ
too_many_bytes = 5

-- the cell address is outside the registry or the window, or the channel is over 1
abbrev pub no_cell : ℕ
no_cell = 6

-- the cell is empty
abbrev pub empty_cell : ℕ
empty_cell = 7

-- the cell is not sound
abbrev pub unsound_cell : ℕ
unsound_cell = 8

-- the descriptor is not as in row three
abbrev pub bad_descriptor : ℕ
bad_descriptor = 9

-- the output is shorter than the record
abbrev pub short_output : ℕ
short_output = 10

-- the output is shorter than the pages
abbrev pub short_pages : ℕ
short_pages = 11

-- the report takes over 99,999 pages
abbrev pub too_many_pages : ℕ
too_many_pages = 12

-- a refusal's number
abbrev pub refusal_number : Refusal → ℕ
refusal_number BadState = bad_state
refusal_number BadRegistry = bad_registry
refusal_number ShortTable = short_table
refusal_number ShortReport = short_report
refusal_number TooManyBytes = too_many_bytes
refusal_number NoCell = no_cell
refusal_number EmptyCell = empty_cell
refusal_number UnsoundCell = unsound_cell
refusal_number BadDescriptor = bad_descriptor
refusal_number ShortOutput = short_output
refusal_number ShortPages = short_pages
refusal_number TooManyPages = too_many_pages
