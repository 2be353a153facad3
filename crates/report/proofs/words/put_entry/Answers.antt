-- `report::words::put_entry` meets its contract.
-- Assumes nothing.
use native.Mathlib.Omega.{arith}
use borrow.Author.Rules.{rules}
use Rattle.std.proofs.lemmas.List.{places}
use Rattle.report.proofs.Puts.{put-entry}
use Rattle.report.proofs.words.put_entry.Goals as goal

pub returns : goal.returns
returns c = (put-entry _ _ c.args.n _ c.args.e c.requires (omega arith) (search rules), search (rules, places))
