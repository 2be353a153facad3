-- `pieces::line::next_line` meets its contract.
-- Assumes nothing.
use mathlib.Core.Path.{refl}
use native.Mathlib.Numerals.{add-one}
use Rattle.pieces.proofs.PlainLine.{no_end, kept_moves, line_moves}
use Rattle.pieces.proofs.line.next_line.Goals as goal

pub returns-in_default : goal.returns-in_default
returns-in_default c = kept_moves _ c.args.scan.now _ c.args.at _ c.requires.holds _ (no_end _ _ c.in_default.ensures) c.keep-scan.result _ refl c.keep-scan.ensures.0 c.keep-scan.ensures.1 c.keep-scan.ensures.2

pub returns : goal.returns
returns c = line_moves _ c.args.scan.now _ c.args.at _ c.requires.holds _ c.in-Some.ensures.1 c.read_line-read.result _ _ _ _ c.in-Some.ensures.0 (rw (← add-one c.args.scan.now.lines, ← c.ended.ensures) c.read_line-read.ensures) c.keep_end-n.result c.line_of-raw.ensures c.keep_end-n.ensures.1
