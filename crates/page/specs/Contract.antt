-- The contract of page, as the toolchain makes it of the source.
-- Assumes nothing.
use Rattle.std.specs.Prelude.{List, [], ◌∷◌, ℕ}
use denote.RattleType.{RattleType}
use mir.Syntax.{Dict}
use Rattle.calls.specs.RealCall.{Contract}
use Rattle.report.specs.declared.listed.Listed.{Ghosts}
use Rattle.page.specs.contracts.page

-- of a report of what T is, by what it says of itself; where its functions are found is no matter of the contract
module _ (T : RattleType) (listed : Ghosts T.Denot) (listed_found drop_found : Dict) where
  abbrev pub page_contract : Contract (page.ended T listed listed_found drop_found)
  page_contract w = page.clauses T listed listed_found drop_found w.𝓛 w.𝓜.mem w.𝓡.run

-- what T names outlives the report, which is lent; by the lifetimes' numbers, the report's first and T's last
abbrev pub page_bounds : List (ℕ × ℕ)
page_bounds = (2, 0) ∷ []
