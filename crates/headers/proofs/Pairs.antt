-- Row thirty: names with their numbers.
-- Assumes nothing.
use mathlib.Core.Path.{◌≡◌, refl, sym}
use mathlib.Core.Bool.{Bool, true, false, ◌&&◌}
use Prim.Native.Nat.{◌+◌}
use lib.Dec.{eqb}
use lib.ListN.{length, take, drop}
use lib.Pointwise.{pointwise}
use denote.Ref.{Bor}
use Rattle.std.specs.Prelude.{Option, Some, None, is_some}
use Rattle.std.specs.Bool.{then_some}
use Rattle.std.specs.Option.{MatchOption, ok_or}
use Rattle.std.proofs.lemmas.Slice.Eq.{starts_is, strip_prefix_is}
use Rattle.std.proofs.lemmas.Bool.Decides.{Decides-eqb}
use Rattle.text.specs.Byte.{Bytes, starts_with}
use Rattle.text.specs.Identifier.{is_duns}
use Rattle.text.proofs.Equal.{starts_whole}
use Rattle.report.specs.Outcome.{Outcome, passed, require, ◌>>◌}
use Rattle.report.specs.Verdict.{misfit}
use Rattle.report.specs.declared.verdict.Verdict.TheVariants.{Misfit}
use Rattle.headers.specs.Answer.{thirty_says}
use Rattle.headers.specs.Thirty.{behind_name, has_duns}

-- ---- THE NUMBER BEHIND A NAME

module _ (name f : Bytes) where
  begins-with : starts_with name f ≡ true → (pointwise eqb (take (length name) f) name ≡ false → ⊥)
  begins-with h m = strip_prefix_is Decides-eqb f name None m (drop (length name) f) (starts_whole name f h)

  pub no_name : pointwise eqb (take (length name) f) name ≡ false → has_duns name f ≡ false
  unfolding has_duns
  no_name m = go (starts_with name f) refl
    where
      go : (t : Bool) → starts_with name f ≡ t → (t && is_duns (behind_name name f)) ≡ false
      go true h = absurd (begins-with h m)
      go false h = refl

  module _ (x : Bor Bytes) (m : (pointwise eqb (take (length name) f) name ≡ true) × (x.now ≡ drop (length name) f) × (length x.now + length name ≡ length f)) where
    named : starts_with name f ≡ true
    unfolding starts_with
    named = (starts_is Decides-eqb f name (starts_with name f) refl).1 x.now (strip_prefix_is Decides-eqb f name (Some x) m)

    pub duns_behind : (b : Bool) → b ≡ is_duns x.now
        → MatchOption (then_some b x) (has_duns name f ≡ false) (λ n. (has_duns name f ≡ true) × (n.now ≡ behind_name name f))
    unfolding has_duns
    duns_behind true e = (rw (named, ← m.1, ← e), m.1)
    duns_behind false e = rw (named, ← m.1, ← e)

pub has_number : (name f : Bytes) (r : Option (Bor Bytes)) → MatchOption r (has_duns name f ≡ false) (λ n. (has_duns name f ≡ true) × (n.now ≡ behind_name name f))
    → is_some r ≡ has_duns name f
has_number name f None m = sym m
has_number name f (Some n) m = sym m.0

pub number-said : (name f : Bytes) (r : Option (Bor Bytes)) → MatchOption r (has_duns name f ≡ false) (λ n. (has_duns name f ≡ true) × (n.now ≡ behind_name name f))
    → thirty_says (ok_or r Misfit) ≡ (require (has_duns name f) misfit >> passed (behind_name name f))
number-said name f None m = rw m
number-said name f (Some n) m = rw (m.0, m.1)

-- a test of four, as one of three and one
pub parted : {A : Type 0} (p q s u : Bool) (o : Outcome A) → (require (p && q && s && u) misfit >> o) ≡ (require (p && q && u) misfit >> (require s misfit >> o))
parted true true true true o = refl
parted true true true false o = refl
parted true true false true o = refl
parted true true false false o = refl
parted true false s u o = refl
parted false q s u o = refl
