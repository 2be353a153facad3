-- The contracts of the calls, as the toolchain makes them of the source.
-- Assumes nothing.
use Rattle.calls.specs.RealCall.{Contract}
use Rattle.border.specs.contracts.fresh as freshes
use Rattle.border.specs.contracts.feed as feeds
use Rattle.border.specs.contracts.feed_entries as feeds-entries
use Rattle.border.specs.contracts.finish as finishes
use Rattle.border.specs.contracts.finish_entries as finishes-entries
use Rattle.border.specs.contracts.estimates as counts
use Rattle.border.specs.contracts.write as writes
use Rattle.border.specs.contracts.page as pages

abbrev pub fresh_contract : Contract freshes.ended
fresh_contract w = freshes.clauses w.𝓛 w.𝓜.mem w.𝓡.run

abbrev pub feed_contract : Contract feeds.ended
feed_contract w = feeds.clauses w.𝓛 w.𝓜.mem w.𝓡.run

abbrev pub feed_entries_contract : Contract feeds-entries.ended
feed_entries_contract w = feeds-entries.clauses w.𝓛 w.𝓜.mem w.𝓡.run

abbrev pub finish_contract : Contract finishes.ended
finish_contract w = finishes.clauses w.𝓛 w.𝓜.mem w.𝓡.run

abbrev pub finish_entries_contract : Contract finishes-entries.ended
finish_entries_contract w = finishes-entries.clauses w.𝓛 w.𝓜.mem w.𝓡.run

abbrev pub estimates_contract : Contract counts.ended
estimates_contract w = counts.clauses w.𝓛 w.𝓜.mem w.𝓡.run

abbrev pub write_contract : Contract writes.ended
write_contract w = writes.clauses w.𝓛 w.𝓜.mem w.𝓡.run

abbrev pub page_contract : Contract pages.ended
page_contract w = pages.clauses w.𝓛 w.𝓜.mem w.𝓡.run
