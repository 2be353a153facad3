-- Every claim of specs/Claims.antt, proved: of the calls of Rattle programs, and of those on numbers and slices, which kilnsorrel exports.
-- Assumes nothing.
use Rattle.claims.specs.Claims.{Claims}
use Rattle.claims.specs.Rattle.{rattle}
use Rattle.claims.specs.Border.{on_words}
use Rattle.claims.proofs.Chains.{claims}
use Rattle.claims.proofs.OfRattle as of_rattle
use Rattle.claims.proofs.OfBorder as of_border

pub claims_of_rattle : Claims rattle
claims_of_rattle = claims rattle of_rattle.keeping

pub claims_of_border : Claims (on_words of_border.border_contracts)
claims_of_border = claims (on_words of_border.border_contracts) of_border.keeping
