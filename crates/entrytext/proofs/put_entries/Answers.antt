-- `entrytext::put_entries` meets its contract.
-- Assumes nothing.
use native.Mathlib.Omega.{arith}
use Rattle.entrytext.proofs.Listing.{no_lines, next-line, some-line}
use Rattle.entrytext.proofs.put_entries.Goals as goal

pub loop-n-init : goal.loop-n-init
loop-n-init g c = no_lines _ _ _ _ (omega arith)

pub returns-then-room-lt-LONGEST-clause-some : goal.returns-then-room-lt-LONGEST-clause-some
returns-then-room-lt-LONGEST-clause-some g c = λ more. some-line _ _ _ _ _ c.loop-n.invariant (omega (arith, c.room.ensures))

pub loop-n-preserved : goal.loop-n-preserved
loop-n-preserved g c = next-line _ _ _ _ _ _ c.loop-n.n _ (omega arith) c.entry_at.ensures c.loop-n.invariant c.put_line.ensures _ (omega arith)
