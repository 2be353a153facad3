-- The contract of fresh, as the toolchain makes it of the source.
-- Assumes nothing.
use Rattle.calls.specs.RealCall.{Contract}
use Rattle.state.specs.contracts.fresh

abbrev pub fresh_contract : Contract fresh.ended
fresh_contract w = fresh.clauses w.𝓛 w.𝓜.mem w.𝓡.run
