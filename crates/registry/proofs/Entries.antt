-- The entry at a place: its text, its kind by what the code tests, and whether a meter comes behind the last one.
-- Assumes nothing.
use mathlib.Core.Path.{◌≡◌, refl, sym, ◌∙◌}
use mathlib.Core.Bool.{Bool, true, false, cond}
use Prim.Native.Nat.{ℕ, ◌+◌, ◌-◌, ◌≤◌, ◌<◌}
use native.Mathlib.Omega.{arith}
use lib.ListN.{length, take, drop, get_or, length-drop}
use lib.Seq.{take_all, length-take-le}
use borrow.Author.Tests.{ne_eqb, lt-leb, le-leb}
use Rattle.text.specs.Byte.{Bytes}
use Rattle.text.specs.Identifier.{esi_id_size}
use Rattle.text.proofs.Left.{left-cons}
use Rattle.padded.specs.Order.{below}
use Rattle.padded.specs.Padding.{is_padded_duns}
use Rattle.padded.proofs.Bytewise.{less-some}
use Rattle.registry.specs.Entry.{owner_size, meter_size, is_meter, entry_kind}
use Rattle.std.specs.Prelude.{Option, Some, None}
use Rattle.std.specs.Bool.{then_some}
use Rattle.registry.specs.Index.{bytes_at}
use Rattle.registry.specs.declared.entry.Kind.TheVariants.{Owner, Meter}

-- ---- the text

module _ (reg : Bytes) (place n : ℕ) where
  -- as the code cuts it
  pub text-part : take (place + 1 + n - (place + 1)) (drop (place + 1) reg) ≡ take n (drop (place + 1) reg)
  text-part =
      let e : place + 1 + n - (place + 1) ≡ n = omega arith in
      rw e

  pub text-length : place + n < length reg → length (take n (drop (place + 1) reg)) ≡ n
  text-length h = length-take-le n (drop (place + 1) reg) (rw (length-drop (place + 1) reg) (omega arith))

-- ---- THE KIND, by what stands behind its byte

pub by_test : {A : Type 0} (t : Bool) (a : A) → then_some t a ≡ cond t (Some a) None
by_test true a = refl
by_test false a = refl

module _ (reg : Bytes) (at : ℕ) (h : at < length reg) where
  pub kind_other : (get_or reg at 0 ≡ 2 → ⊥) → (get_or reg at 0 ≡ 3 → ⊥) → None ≡ entry_kind (drop at reg)
  unfolding entry_kind
  kind_other e f = rw (left-cons reg at h, ne_eqb (get_or reg at 0) 2 e, ne_eqb (get_or reg at 0) 3 f)

  module _ (s : Bytes) (cut : s ≡ take (length reg - (at + 1)) (drop (at + 1) reg)) where
    pub behind_it : s ≡ drop (at + 1) reg
    behind_it = cut ∙ take_all (length reg - (at + 1)) (drop (at + 1) reg) (rw (length-drop (at + 1) reg) (omega arith))

    module _ (e : get_or reg at 0 ≡ 2) where
      pub owner-short : length s < owner_size → None ≡ entry_kind (drop at reg)
      unfolding entry_kind
      owner-short l = rw (left-cons reg at h, e, ← behind_it, lt-leb owner_size (length s) l)

      pub owner_whole : owner_size ≤ length s → (t : Bytes) → t ≡ take owner_size s → (r : Bool) → r ≡ is_padded_duns t → then_some r Owner ≡ entry_kind (drop at reg)
      unfolding entry_kind
      owner_whole l t et r er = rw (left-cons reg at h, e, ← behind_it, le-leb owner_size (length s) l, ← et, ← er) (by_test r Owner)

    module _ (e : get_or reg at 0 ≡ 3) where
      pub meter-short : length s < meter_size → None ≡ entry_kind (drop at reg)
      unfolding entry_kind
      meter-short l = rw (left-cons reg at h, e, ← behind_it, lt-leb meter_size (length s) l)

      pub meter_whole : meter_size ≤ length s → (t : Bytes) → t ≡ take meter_size s → (r : Bool) → r ≡ is_meter t → then_some r Meter ≡ entry_kind (drop at reg)
      unfolding entry_kind
      meter_whole l t et r er = rw (left-cons reg at h, e, ← behind_it, le-leb meter_size (length s) l, ← et, ← er) (by_test r Meter)

-- ---- A METER BEHIND THE LAST ONE

module _ (reg : Bytes) (at : ℕ) (ha : at + meter_size < length reg) where
  pub first-meter : (last : Option ℕ) → last ≡ None → true ≡ below (bytes_at esi_id_size reg last) (take esi_id_size (drop (at + 1) reg))
  first-meter last e =
      sym (rw (e, less-some (take esi_id_size (drop (at + 1) reg)) (rw (text-length reg at esi_id_size (omega arith)) (omega arith))))
