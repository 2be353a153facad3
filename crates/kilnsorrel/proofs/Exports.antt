-- EVERYTHING THAT IS CLAIMED holds of the exported calls: their contracts are those of crate border's calls, by computation.
-- Assumes nothing.
use mathlib.Core.Path.{◌≡◌, refl, subst}
use Rattle.claims.specs.Claims.{Claims}
use Rattle.claims.specs.Border.{on_words}
use Rattle.claims.proofs.OfBorder.{border_contracts}
use Rattle.claims.proofs.Claims.{claims_of_border}
use Rattle.kilnsorrel.specs.Exports.{exports}

same : border_contracts ≡ exports
same = refl

pub claims_of_exports : Claims (on_words exports)
claims_of_exports = subst (λ c. Claims (on_words c)) same claims_of_border
