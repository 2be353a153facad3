-- No call asks anything of its caller.
-- Assumes nothing.
use mathlib.Core.Path.{refl}
use base.Logic.{emp, id⊢}
use Rattle.calls.specs.RealCall.{AsksNothing}
use Rattle.border.specs.Contract.{fresh_contract, feed_contract, feed_entries_contract, finish_contract, finish_entries_contract, estimates_contract, write_contract, page_contract}
use Rattle.border.specs.contracts.fresh as freshes
use Rattle.border.specs.contracts.feed as feeds
use Rattle.border.specs.contracts.feed_entries as feeds-entries
use Rattle.border.specs.contracts.finish as finishes
use Rattle.border.specs.contracts.finish_entries as finishes-entries
use Rattle.border.specs.contracts.estimates as counts
use Rattle.border.specs.contracts.write as writes
use Rattle.border.specs.contracts.page as pages

pub fresh_asks : AsksNothing freshes.ended fresh_contract
fresh_asks = record { outlives = refl; requires = λ κs a w. (tt, id⊢ w.𝓤 (emp w.𝓤)) }

pub feed_asks : AsksNothing feeds.ended feed_contract
feed_asks = record { outlives = refl; requires = λ κs a w. (tt, id⊢ w.𝓤 (emp w.𝓤)) }

pub feed_entries_asks : AsksNothing feeds-entries.ended feed_entries_contract
feed_entries_asks = record { outlives = refl; requires = λ κs a w. (tt, id⊢ w.𝓤 (emp w.𝓤)) }

pub finish_asks : AsksNothing finishes.ended finish_contract
finish_asks = record { outlives = refl; requires = λ κs a w. (tt, id⊢ w.𝓤 (emp w.𝓤)) }

pub finish_entries_asks : AsksNothing finishes-entries.ended finish_entries_contract
finish_entries_asks = record { outlives = refl; requires = λ κs a w. (tt, id⊢ w.𝓤 (emp w.𝓤)) }

pub estimates_asks : AsksNothing counts.ended estimates_contract
estimates_asks = record { outlives = refl; requires = λ κs a w. (tt, id⊢ w.𝓤 (emp w.𝓤)) }

pub write_asks : AsksNothing writes.ended write_contract
write_asks = record { outlives = refl; requires = λ κs a w. (tt, id⊢ w.𝓤 (emp w.𝓤)) }

pub page_asks : AsksNothing pages.ended page_contract
page_asks = record { outlives = refl; requires = λ κs a w. (tt, id⊢ w.𝓤 (emp w.𝓤)) }
