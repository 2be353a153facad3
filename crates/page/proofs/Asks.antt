-- Page asks nothing of a caller, whether the report is of entries or of words.
-- Assumes nothing.
use mathlib.Core.Path.{refl}
use denote.Builtin.{u32}
use mir.Syntax.{Dict}
use Rattle.calls.specs.RealCall.{AsksOnly}
use Rattle.calls.proofs.Asked.{names_none}
use Rattle.report.specs.contracts.Entry as entry
use Rattle.report.specs.contracts.listed.EntryListed.TheImpl as entries
use Rattle.report.specs.contracts.listed.U32Listed.TheImpl as words
use Rattle.page.specs.Contract.{page_contract, page_bounds}
use Rattle.page.specs.contracts.page

pub page_entries_asks : (i j : Dict) → AsksOnly (page.ended entry.the_row entries.ghosts i j) (page_contract entry.the_row entries.ghosts i j) page_bounds
page_entries_asks i j = record { outlives = refl; requires = λ κs a w. (tt, names_none w _) }

pub page_words_asks : (i j : Dict) → AsksOnly (page.ended u32 words.ghosts i j) (page_contract u32 words.ghosts i j) page_bounds
page_words_asks i j = record { outlives = refl; requires = λ κs a w. (tt, names_none w _) }
