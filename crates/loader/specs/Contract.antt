-- The contracts of feed and finish, as the toolchain makes them of the source.
-- Assumes nothing.
use Rattle.std.specs.Prelude.{List, [], ◌∷◌, ℕ}
use denote.RattleType.{RattleType}
use mir.Syntax.{Dict}
use Rattle.calls.specs.RealCall.{Contract}
use Rattle.loader.specs.declared.slot.Slot.{Ghosts}
use Rattle.loader.specs.contracts.feed
use Rattle.loader.specs.contracts.finish

-- with a report of what T is, by what it says of itself as a slot; where its functions are found is no matter of the contract
module _ (T : RattleType) (slot : Ghosts T.Denot) (slot_found drop_found : Dict) where
  abbrev pub feed_contract : Contract (feed.ended T slot slot_found drop_found)
  feed_contract w = feed.clauses T slot slot_found drop_found w.𝓛 w.𝓜.mem w.𝓡.run

  abbrev pub finish_contract : Contract (finish.ended T slot slot_found drop_found)
  finish_contract w = finish.clauses T slot slot_found drop_found w.𝓛 w.𝓜.mem w.𝓡.run

-- what T names outlives the report, which is lent; by the lifetimes' numbers, state's first and T's last
abbrev pub feed_bounds : List (ℕ × ℕ)
feed_bounds = (5, 4) ∷ []

abbrev pub finish_bounds : List (ℕ × ℕ)
finish_bounds = (4, 3) ∷ []
