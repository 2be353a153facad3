-- `registry::entry::kind_at` meets its contract.
-- Assumes nothing.
use mathlib.Core.Path.{refl, ◌∙◌}
use borrow.Author.Rules.{rules}
use Rattle.registry.proofs.Entries.{kind_other, owner-short, owner_whole, meter-short, meter_whole}
use Rattle.registry.proofs.entry.kind_at.Goals as goal

pub returns-in_err-first_chunk-in-2 : goal.returns-in_err-first_chunk-in-2
returns-in_err-first_chunk-in-2 c = c.from_residual.ensures ∙ owner-short _ _ c.requires _ refl c.in-2.is c.in_err-first_chunk-in-2.ensures.cases

pub returns-in_ok-first_chunk-in-2 : goal.returns-in_ok-first_chunk-in-2
returns-in_ok-first_chunk-in-2 c = c.then_some.ensures ∙ owner_whole _ _ c.requires _ refl c.in-2.is c.in_ok-first_chunk-in-2.ensures.cases.enough _ c.in_ok-first_chunk-in-2.ensures.cases.same _ c.is_padded_duns.ensures

pub returns-in_err-first_chunk-in-3 : goal.returns-in_err-first_chunk-in-3
returns-in_err-first_chunk-in-3 c = c.from_residual-in_err-first_chunk-in-3.ensures ∙ meter-short _ _ c.requires _ refl c.in-3.is c.in_err-first_chunk-in-3.ensures.cases

pub returns-in_ok-first_chunk-in-3 : goal.returns-in_ok-first_chunk-in-3
returns-in_ok-first_chunk-in-3 c = c.then_some-in-3.ensures ∙ meter_whole _ _ c.requires _ refl c.in-3.is c.in_ok-first_chunk-in-3.ensures.cases.enough _ c.in_ok-first_chunk-in-3.ensures.cases.same _ c.is_meter.ensures

pub returns-in_default : goal.returns-in_default
returns-in_default c = search (kind_other, rules)
