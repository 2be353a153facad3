-- The entries that a registry's meters were read from, one after the other, with what held at each.
-- Assumes nothing.
use mathlib.Core.Path.{◌≡◌, refl}
use mathlib.Core.List.{List, [], ◌∷◌}
use mathlib.Core.Bool.{Bool, true, false, cond, ◌&&◌}
use Rattle.std.specs.Prelude.{Option, Some, None}
use Prim.Native.Nat.{ℕ, zero, suc, ◌+◌, ◌≤◌, ◌<◌}
use native.Mathlib.Omega.{arith}
use lib.Dec.{eqb, leb, ltb}
use lib.ListN.{length, take, get_or}
use lib.Seq.{take-take, get_or-take}
use borrow.Author.Tests.{leb-true, ltb-true}
use Rattle.text.specs.Byte.{Bytes}
use Rattle.text.specs.Identifier.{esi_id_size}
use Rattle.text.proofs.Truth.{and_left, and_right}
use Rattle.padded.specs.Order.{order, below}
use Rattle.padded.specs.Padding.{is_padded_esi_id, is_padded_duns}
use Rattle.std.specs.declared.cmp.Ordering.TheVariants.{Less}
use Rattle.padded.proofs.Bytewise.{less_of}
use Rattle.registry.specs.Entry.{window_size, owner_size, meter_size, all_flags, is_meter, start_of, entry_kind}
use Rattle.registry.specs.Registry.{Meter, Seen, max_meters, none_seen, with_owner, with_meter, in_order, meter_of, before, by_kind, entries, start_with, meters_in, registry_of, meters_of}
use Rattle.registry.specs.declared.entry.Window.{Window}
use Rattle.registry.specs.declared.entry.Kind.{Kind}
use Rattle.registry.specs.declared.entry.Kind.TheVariants.{Owner, Meter as AMeter}

-- ---- an entry of a kind

picked_owner : (a b c d : Bool) → cond a (cond b (Some Owner) None) (cond c (cond d (Some AMeter) None) None) ≡ Some Owner → b ≡ true
picked_owner true true c d e = refl
picked_owner true false c d e = let n : ◌≡◌ {A = ℕ} 0 1 = cc in absurd (omega arith)
picked_owner false b true true e = let n : ◌≡◌ {A = ℕ} 0 1 = cc in absurd (omega arith)
picked_owner false b true false e = let n : ◌≡◌ {A = ℕ} 0 1 = cc in absurd (omega arith)
picked_owner false b false d e = let n : ◌≡◌ {A = ℕ} 0 1 = cc in absurd (omega arith)

picked_meter : (a b c d : Bool) → cond a (cond b (Some Owner) None) (cond c (cond d (Some AMeter) None) None) ≡ Some AMeter → d ≡ true
picked_meter true true c d e = let n : ◌≡◌ {A = ℕ} 0 1 = cc in absurd (omega arith)
picked_meter true false c d e = let n : ◌≡◌ {A = ℕ} 0 1 = cc in absurd (omega arith)
picked_meter false b true true e = refl
picked_meter false b true false e = let n : ◌≡◌ {A = ℕ} 0 1 = cc in absurd (omega arith)
picked_meter false b false d e = let n : ◌≡◌ {A = ℕ} 0 1 = cc in absurd (omega arith)

-- the bytes behind the kind byte of an owner, of a meter
pub record OwnerBody (b : Bytes) : Type 0 where
  pub whole : owner_size ≤ length b
  pub duns : is_padded_duns (take owner_size b) ≡ true

pub record MeterBody (b : Bytes) : Type 0 where
  pub whole : meter_size ≤ length b
  pub id : is_padded_esi_id (take esi_id_size b) ≡ true
  pub flags : get_or b esi_id_size 0 ≤ all_flags

module _ (k : ℕ) (b : Bytes) where
  owner_test : Bool
  owner_test = leb owner_size (length b) && is_padded_duns (take owner_size b)

  meter_test : Bool
  meter_test = leb meter_size (length b) && is_meter (take meter_size b)

  pub owner-body : entry_kind (k ∷ b) ≡ Some Owner → OwnerBody b
  unfolding entry_kind owner_test meter_test
  owner-body e =
      let t : owner_test ≡ true = picked_owner (eqb k 2) owner_test (eqb k 3) meter_test e in
      record {
        whole = leb-true owner_size (length b) (and_left (leb owner_size (length b)) (is_padded_duns (take owner_size b)) t);
        duns = and_right (leb owner_size (length b)) (is_padded_duns (take owner_size b)) t;
      }

  pub meter-body : entry_kind (k ∷ b) ≡ Some AMeter → MeterBody b
  unfolding entry_kind is_meter owner_test meter_test
  meter-body e =
      let t : meter_test ≡ true = picked_meter (eqb k 2) owner_test (eqb k 3) meter_test e in
      let body : Bytes = take meter_size b in
      let m : is_meter body ≡ true = and_right (leb meter_size (length b)) (is_meter body) t in
      let i : is_padded_esi_id (take esi_id_size body) ≡ true = and_left (is_padded_esi_id (take esi_id_size body)) (leb (get_or body esi_id_size 0) all_flags) m in
      let f : leb (get_or body esi_id_size 0) all_flags ≡ true = and_right (is_padded_esi_id (take esi_id_size body)) (leb (get_or body esi_id_size 0) all_flags) m in
      record {
        whole = leb-true meter_size (length b) (and_left (leb meter_size (length b)) (is_meter body) t);
        id = rw (take-take esi_id_size meter_size b (omega arith)) at i;
        flags = rw (get_or-take meter_size b esi_id_size 0 (omega arith)) at (leb-true (get_or body esi_id_size 0) all_flags f);
      }

-- what a meter's place in the order says
pub record Ordered (s : Seen) (b : Bytes) : Type 0 where
  pub owned : 0 < length s.owner
  pub room : s.count < max_meters
  pub later : order s.last (take esi_id_size b) ≡ Less

pub ordered : (s : Seen) (b : Bytes) → in_order s b ≡ true → Ordered s b
unfolding in_order
ordered s b e =
    let x : Bool = ltb 0 (length s.owner) in
    let y : Bool = ltb s.count max_meters in
    let z : Bool = below s.last (take esi_id_size b) in
    let xy : (x && y) ≡ true = and_left (x && y) z e in
    record {
      owned = ltb-true 0 (length s.owner) (and_left x y xy);
      room = ltb-true s.count max_meters (and_right x y xy);
      later = less_of (order s.last (take esi_id_size b)) (and_right (x && y) z e);
    }

-- ---- THE ENTRIES READ

pub data Read : Seen → List Meter → Type 0 where
  end : {s : Seen} → Read s []
  owner : {s : Seen} {ms : List Meter} (b : Bytes) → OwnerBody b → Read (with_owner b s) ms → Read s ms
  meter : {s : Seen} {ms : List Meter} (b : Bytes) → MeterBody b → Ordered s b → Read (with_meter b s) ms → Read s (meter_of s b ∷ ms)

read-before : (s : Seen) (b : Bytes) (x : Option (List Meter)) (ms : List Meter) → MeterBody b → Ordered s b → before (meter_of s b) x ≡ Some ms
    → ((l : List Meter) → x ≡ Some l → Read (with_meter b s) l) → Read s ms
read-before s b None ms m o e ih = let n : ◌≡◌ {A = ℕ} 0 1 = cc in absurd (omega arith)
read-before s b (Some l) ms m o e ih = let f : ms ≡ meter_of s b ∷ l = cc in rw f (meter b m o (ih l refl))

read-meter : (s : Seen) (b : Bytes) (x : Option (List Meter)) (ms : List Meter) (t : Bool) → in_order s b ≡ t → MeterBody b
    → cond t (before (meter_of s b) x) None ≡ Some ms → ((l : List Meter) → x ≡ Some l → Read (with_meter b s) l) → Read s ms
read-meter s b x ms true o m e ih = read-before s b x ms m (ordered s b o) e ih
read-meter s b x ms false o m e ih = let n : ◌≡◌ {A = ℕ} 0 1 = cc in absurd (omega arith)

read-kind : (s : Seen) (k : Option Kind) (x y : Option (List Meter)) (ms : List Meter) → by_kind k x y ≡ Some ms
    → (k ≡ Some Owner → x ≡ Some ms → Read s ms) → (k ≡ Some AMeter → y ≡ Some ms → Read s ms) → Read s ms
read-kind s (Some Owner) x y ms e f g = f refl e
read-kind s (Some AMeter) x y ms e f g = g refl e
read-kind s None x y ms e f g = let n : ◌≡◌ {A = ℕ} 0 1 = cc in absurd (omega arith)

read : (n : ℕ) (s : Seen) (b : Bytes) (ms : List Meter) → entries n s b ≡ Some ms → Read s ms
unfolding entries
read zero s [] ms e = let f : ms ≡ [] = cc in rw f end
read (suc n) s [] ms e = let n : ◌≡◌ {A = ℕ} 0 1 = cc in absurd (omega arith)
read (suc n) s (x ∷ b) ms e = read n s b ms e
read zero s (k ∷ b) ms e =
    read-kind s (entry_kind (k ∷ b)) _ _ ms e (λ h f. owner b (owner-body k b h) (read owner_size (with_owner b s) b ms f))
    (λ h f. read-meter s b (entries meter_size (with_meter b s) b) ms (in_order s b) refl (meter-body k b h) f (read meter_size (with_meter b s) b))

-- the meters of a registry were read so; of one that breaks a rule there are None
pub meters-read : (reg : Bytes) → Read none_seen (meters_of reg)
unfolding meters_of registry_of
meters-read reg = go (start_of reg) (entries (window_size + 1) none_seen reg) refl
  where
    go : (s : Option Window) (x : Option (List Meter)) → entries (window_size + 1) none_seen reg ≡ x → Read none_seen (meters_in (start_with s x))
    go None x e = end
    go (Some w) None e = end
    go (Some w) (Some ms) e = read (window_size + 1) none_seen reg ms e
