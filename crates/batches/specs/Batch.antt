-- The batch that a finish works in: the end of the file, with its entries held as words. It says only how the call works; what a caller must believe is in
-- loader/specs/Keeps.
-- Assumes nothing.
use Rattle.std.specs.Prelude.{List, ℕ, zero, suc}
use Rattle.report.specs.declared.Entry.{Entry}
use Rattle.text.specs.Byte.{Bytes}
use Rattle.cell.specs.Layout.{Words}
use Rattle.plain.specs.Rows.{rules_of}
use Rattle.plain.specs.Loader.{Scan, end_events}
use Rattle.units.specs.Answer.{Tells}

-- how many lines a file has, of whose last so many bytes are held
abbrev pub lines_in : ℕ → ℕ → ℕ
lines_in lines zero = lines
lines_in lines (suc held) = suc lines

-- the file has ended
abbrev pub Last : Bytes → Scan → List Entry → Words → Words → Type 0
Last reg from batch before after = Tells (rules_of reg) (end_events (rules_of reg) from) batch before after
