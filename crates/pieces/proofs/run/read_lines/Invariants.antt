-- The loop of `pieces::run::read_lines`.
-- Assumes nothing.
use Rattle.std.proofs.Common.{◌≡◌, ◌-◌, ◌*◌, ◌≤◌, length}
use Rattle.pieces.specs.Ran.{scan_of, most_said}
use Rattle.pieces.proofs.Moving.{Comes}
use Rattle.pieces.proofs.run.read_lines.Given as goal

abbrev pub invariant-loop-scan : goal.invariant-loop-scan
invariant-loop-scan l =
    Comes l.index.registry.now (scan_of l.initial.scan) l.piece l.at l.e l.scan l.initial.table l.table l.batch
    × (length l.table ≡ length l.initial.table) × (length l.batch ≤ most_said * (l.e - l.at)) × (l.index.registry.now ≡ l.initial.index.registry.now)

abbrev pub decreases-loop-scan : goal.decreases-loop-scan
decreases-loop-scan l = length l.piece - l.e
