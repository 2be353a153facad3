-- The contract of Write, as the toolchain makes it of the source.
-- Assumes nothing.
use Rattle.calls.specs.RealCall.{Contract}
use Rattle.writer.specs.contracts.write

abbrev pub write_contract : Contract write.ended
write_contract w = write.clauses w.𝓛 w.𝓜.mem w.𝓡.run
