-- `registry::entry::read_start` meets its contract.
-- Assumes nothing.
use Rattle.std.proofs.Common.{refl, ◌∙◌}
use borrow.Author.Rules.{rules}
use Rattle.registry.proofs.Opening.{start_empty, start_other, start-short, start_whole}
use Rattle.registry.proofs.entry.read_start.Goals as goal

pub returns-in_err-first_chunk-in-1 : goal.returns-in_err-first_chunk-in-1
returns-in_err-first_chunk-in-1 c = c.from_residual.ensures ∙ start-short _ c.in-1.len_at_least (search rules) _ refl c.in_err-first_chunk-in-1.ensures.cases

pub returns-in_ok-first_chunk-in-1 : goal.returns-in_ok-first_chunk-in-1
returns-in_ok-first_chunk-in-1 c = start_whole _ c.in-1.len_at_least (search rules) _ refl c.in_ok-first_chunk-in-1.ensures.cases.enough _ c.in_ok-first_chunk-in-1.ensures.cases.same _ c.read_window.ensures

pub returns-in_default : goal.returns-in_default
returns-in_default c = start_empty _ c.in_default.len_below

pub returns-in_default-2 : goal.returns-in_default-2
returns-in_default-2 c = search (start_other, rules)
