-- The contract of Estimates, as the toolchain makes it of the source.
-- Assumes nothing.
use Rattle.calls.specs.RealCall.{Contract}
use Rattle.estimates.specs.contracts.estimates

abbrev pub estimates_contract : Contract estimates.ended
estimates_contract w = estimates.clauses w.𝓛 w.𝓜.mem w.𝓡.run
