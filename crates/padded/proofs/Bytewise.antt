-- The order by bytes: a strict order, in which equal texts are the same. Its laws are those of std's order of lists.
-- Assumes nothing.
use mathlib.Core.Path.{◌≡◌, refl, sym, ap, ◌∙◌}
use mathlib.Core.List.{[], ◌∷◌}
use mathlib.Core.Bool.{true}
use Prim.Native.Nat.{◌<◌}
use native.Mathlib.Omega.{arith}
use lib.ListN.{length}
use Rattle.std.specs.declared.cmp.Ordering.{Ordering}
use Rattle.std.specs.declared.cmp.Ordering.TheVariants.{Less, Equal, Greater}
use Rattle.std.specs.Ordering.{is_lt, is_eq, ordering_reverse}
use Rattle.std.proofs.lemmas.Cmp.{nat_list_cmp_total}
use Rattle.std.proofs.lemmas.Map.Text.{is_eq-slice_cmp}
use Rattle.text.specs.Byte.{Bytes, equals}
use Rattle.padded.specs.Order.{order}

pub less_of : (o : Ordering) → is_lt o ≡ true → o ≡ Less
less_of Less e = refl
less_of Equal e = absurd cc
less_of Greater e = absurd cc

-- ---- EQUAL TEXTS ARE THE SAME, and no others.

module _ (s t : Bytes) (o : Ordering) (e : order s t ≡ o) where
  pub equal_by : equals s t ≡ is_eq o
  unfolding order equals
  equal_by = sym (is_eq-slice_cmp s t) ∙ ap is_eq e

  pub flipped : order t s ≡ ordering_reverse o
  unfolding order
  flipped = nat_list_cmp_total.antisymm t s ∙ ap ordering_reverse e

pub order_trans : (s t u : Bytes) → order s t ≡ Less → order t u ≡ Less → order s u ≡ Less
unfolding order
order_trans = nat_list_cmp_total.trans

-- nothing stands before every text
pub less-some : (t : Bytes) → 0 < length t → order [] t ≡ Less
unfolding order
less-some [] h = absurd (omega arith)
less-some (b ∷ t) h = refl
