-- Feed and finish ask nothing of a caller, whether the report is of entries or of words.
-- Assumes nothing.
use mathlib.Core.Path.{refl}
use denote.Builtin.{u32}
use mir.Syntax.{Dict}
use Rattle.calls.specs.RealCall.{AsksOnly}
use Rattle.calls.proofs.Asked.{names_none}
use Rattle.report.specs.contracts.Entry as entry
use Rattle.loader.specs.Contract.{feed_contract, finish_contract, feed_bounds, finish_bounds}
use Rattle.loader.specs.contracts.slot.EntrySlot.TheImpl as entries
use Rattle.loader.specs.contracts.slot.U32Slot.TheImpl as words
use Rattle.loader.specs.contracts.feed
use Rattle.loader.specs.contracts.finish

pub feed_entries_asks : (i j : Dict) → AsksOnly (feed.ended entry.the_row entries.ghosts i j) (feed_contract entry.the_row entries.ghosts i j) feed_bounds
feed_entries_asks i j = record { outlives = refl; requires = λ κs a w. (tt, names_none w _) }

pub feed_words_asks : (i j : Dict) → AsksOnly (feed.ended u32 words.ghosts i j) (feed_contract u32 words.ghosts i j) feed_bounds
feed_words_asks i j = record { outlives = refl; requires = λ κs a w. (tt, names_none w _) }

pub finish_entries_asks : (i j : Dict) → AsksOnly (finish.ended entry.the_row entries.ghosts i j) (finish_contract entry.the_row entries.ghosts i j) finish_bounds
finish_entries_asks i j = record { outlives = refl; requires = λ κs a w. (tt, names_none w _) }

pub finish_words_asks : (i j : Dict) → AsksOnly (finish.ended u32 words.ghosts i j) (finish_contract u32 words.ghosts i j) finish_bounds
finish_words_asks i j = record { outlives = refl; requires = λ κs a w. (tt, names_none w _) }
