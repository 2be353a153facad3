-- What demand 3 asks of the rules: a read fills its cell, which the table has; a record holds no more detail rows than a cell has room for;
-- a long line is refused 11 whatever it says. Rules.antt shows it of `rules_of`.
-- Assumes nothing.
use mathlib.Core.Path.{◌≡◌}
use mathlib.Core.Bool.{true, false}
use Prim.Native.Nat.{◌<◌, ◌≤◌}
use lib.ListN.{length}
use Rattle.lines.specs.Line.{Line, is_long}
use Rattle.report.specs.Verdict.{long}
use Rattle.cell.specs.Layout.{width}
use Rattle.reads.specs.Load.{holds_none}
use Rattle.plain.specs.Rows.{Load, Rows, Row, refused_with, goes_on, complete, Rules, details_of, max_details}

module _ (R : Rules) where
  pub record GoodLoad (l : Load) : Type 0 where
    pub wide : length l.words ≡ width
    pub held : holds_none l.words ≡ false
    pub has : R.has_cell l ≡ true

  pub record GoodRows (rows : Rows) : Type 0 where
    pub few : details_of rows ≤ max_details
    pub wide : length rows.words ≡ width
    pub held : holds_none rows.words ≡ false

  abbrev pub GoodRow : Row → Type 0
  GoodRow (refused_with verdict meter day) = Unit {0}
  GoodRow (goes_on rows) = GoodRows rows
  GoodRow (complete r) = GoodLoad r.load

  pub record Lawful : Type 0 where
    pub one : (l : Line) → GoodRow (R.row_one l)
    pub next : (rows : Rows) (l : Line) → GoodRows rows → GoodRow (R.row_next rows l)
    pub long_one : (l : Line) → is_long l ≡ true → R.row_one l ≡ refused_with long 0 0
    pub long_next : (rows : Rows) (l : Line) → is_long l ≡ true → R.row_next rows l ≡ refused_with long 0 rows.day
    pub within : (l : Load) → R.has_cell l ≡ true → R.cell_of l < R.cells
