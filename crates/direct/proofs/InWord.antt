-- The bytes of a word: what shifts, remainders and sums of the word do to them, and how a text and a value's digits stand in them.
-- Assumes nothing.
use Rattle.std.proofs.Common.{◌≡◌, ℕ, zero, suc, ◌+◌, ◌-◌, ◌*◌, ◌/◌, ◌%◌, ◌^◌, ◌<◌, ◌≤◌, ◌∷◌, ◌++◌, length, get_or, take, drop, refl, sym, ap, ◌∙◌, length-take, length-take-le, get_or-take, get_or-drop, Bool, true, false, lt_of_lt_of_le, mod-lt, div-one, arith, take_at, drop_at, pow_pos, pow_mono, shr-shr}
use native.Mathlib.Nat.{div-eq_of_lt}
use Rattle.std.specs.Int.{w64, to_le_bytes, from_le_bytes}
use Rattle.std.proofs.lemmas.Nat.{le_bytes_8}
use Rattle.std.proofs.lemmas.List.{get_or_past}
use borrow.Author.Tests.{ltb-true, ltb-false}
use lib.Dec.{ltb}
use lib.Pow.{shl-shr, field, mod-mod-pow, high, low}
use Rattle.text.specs.Byte.{Bytes}
use Rattle.direct.specs.Guess.{triple_size, bytes_of, Layout, Aligned}

pub bytes-length : (k w : ℕ) → length (bytes_of k w) ≡ k
unfolding bytes_of
bytes-length zero w = refl
bytes-length (suc k) w = ap suc (bytes-length k (w / 256))

-- the j lowest, and those above them
bytes-add : (j k w : ℕ) → bytes_of (j + k) w ≡ bytes_of j w ++ bytes_of k (w / 2 ^ (8 * j))
unfolding bytes_of
bytes-add zero k w =
    let e : 0 + k ≡ k = omega arith in
    rw (e, div-one w)
bytes-add (suc j) k w =
    let e : suc j + k ≡ suc (j + k) = omega arith in
    let g : 8 * suc j ≡ 8 + 8 * j = omega arith in
    rw (e, g, ← shr-shr w 8 (8 * j)) (ap (λ r. w % 256 ∷ r) (bytes-add j k (w / 256)))

-- the bytes above do not count
pub bytes_low : (j w : ℕ) → bytes_of j (w % 2 ^ (8 * j)) ≡ bytes_of j w
unfolding bytes_of
bytes_low zero w = refl
bytes_low (suc j) w =
    let g : 8 * suc j ≡ 8 * j + 8 = omega arith in
    rw (g, mod-mod-pow w (8 * j) 8, field w (8 * j) 8) (ap (λ r. w % 256 ∷ r) (bytes_low j (w / 256)))

-- two words joined, r below
bytes-join : (j k q r : ℕ) → r < 2 ^ (8 * j) → bytes_of (j + k) (q * 2 ^ (8 * j) + r) ≡ bytes_of j r ++ bytes_of k q
bytes-join j k q r h =
    bytes-add j k (q * 2 ^ (8 * j) + r)
    ∙ rw (← bytes_low j (q * 2 ^ (8 * j) + r), low q (8 * j) h, high q (8 * j) h)

-- m bytes from place i on
bytes-part : (i m k w : ℕ) → i + m ≤ k → take m (drop i (bytes_of k w)) ≡ bytes_of m (w / 2 ^ (8 * i))
bytes-part i m k w h =
    let e : k ≡ i + (m + (k - i - m)) = omega arith in
    rw (
      e,
      bytes-add i (m + (k - i - m)) w,
      drop_at (bytes_of i w) (bytes_of (m + (k - i - m)) (w / 2 ^ (8 * i))) i (bytes-length i w),
      bytes-add m (k - i - m) (w / 2 ^ (8 * i)),
    )
    (take_at (bytes_of m (w / 2 ^ (8 * i))) _ m (bytes-length m (w / 2 ^ (8 * i))))

bytes-front : (m k w : ℕ) → m ≤ k → take m (bytes_of k w) ≡ bytes_of m w
bytes-front m k w h = bytes-part 0 m k w (omega arith) ∙ rw (div-one w)

-- zeros below
bytes_up : (j k w : ℕ) → bytes_of (j + k) (w * 2 ^ (8 * j)) ≡ bytes_of j 0 ++ bytes_of k w
bytes_up j k w =
    let z : w * 2 ^ (8 * j) ≡ w * 2 ^ (8 * j) + 0 = omega arith in
    rw z (bytes-join j k w 0 (pow_pos (8 * j)))

-- zeros above
bytes_cut : (j k w : ℕ) → bytes_of (j + k) (w % 2 ^ (8 * j)) ≡ bytes_of j w ++ bytes_of k 0
bytes_cut j k w =
    bytes-add j k (w % 2 ^ (8 * j))
    ∙ rw (bytes_low j w, div-eq_of_lt (mod-lt w (pow_pos (8 * j))))

-- BYTES READ into a word
eight-low : (n : ℕ) → to_le_bytes w64 n ≡ bytes_of 8 n
unfolding bytes_of
eight-low n = rw (shr-shr n 8 8, shr-shr n 16 8, shr-shr n 24 8, shr-shr n 32 8, shr-shr n 40 8, shr-shr n 48 8)

-- a part of bytes that are small
pub small-part : (t : Bytes) (at m i : ℕ) → ((i : ℕ) → get_or t i 0 < 256) → get_or (take m (drop at t)) i 0 < 256
small-part t at m i small = go (ltb i m) refl
  where
    go : (b : Bool) → ltb i m ≡ b → get_or (take m (drop at t)) i 0 < 256
    go true e = rw (get_or-take m (drop at t) i 0 (ltb-true i m e), get_or-drop at t i 0) (small (at + i))
    go false e = rw (get_or_past (take m (drop at t)) i 0 (omega (arith, ltb-false i m e, length-take m (drop at t)))) (omega arith)

pub eight-bytes : (t chunk : Bytes) (n : ℕ) → length t ≡ triple_size → chunk ≡ take 8 t → ((i : ℕ) → get_or t i 0 < 256)
    → n ≡ from_le_bytes w64 chunk → bytes_of 8 n ≡ take 8 t
eight-bytes t chunk n room same small e =
    let long : length chunk ≡ 8 = ap length same ∙ length-take-le 8 t (omega (arith, room)) in
    sym (eight-low n) ∙ le_bytes_8 chunk n long (λ i. rw same (small-part t 0 8 i small)) e ∙ same

-- A VALUE'S DIGITS: the shifts that set them in line
module _ (x n d : ℕ) (y : Layout n d) where
  whole-bytes : bytes_of 5 (x * 2 ^ (40 - 8 * d) % 2 ^ 64 % 2 ^ 40) ≡ bytes_of (5 - d) 0 ++ take d (bytes_of 8 x)
  whole-bytes =
      let e : 40 - 8 * d ≡ 8 * (5 - d) = omega (arith, y.whole) in
      let f : 5 ≡ 5 - d + d = omega (arith, y.whole) in
      rw (e, mod-mod-pow (x * 2 ^ (8 * (5 - d))) 24 40, bytes_low 5 (x * 2 ^ (8 * (5 - d))), bytes-front d 8 x (omega (arith, y.whole)))
      (ap (λ k. bytes_of k (x * 2 ^ (8 * (5 - d)))) f ∙ bytes_up (5 - d) d x)

  cut-part : x * 2 ^ (64 - 8 * n) % 2 ^ 64 / 2 ^ (64 - 8 * n) ≡ x % 2 ^ (8 * n)
  cut-part =
      let e : 64 ≡ 8 * n + (64 - 8 * n) = omega (arith, y.whole, y.part) in
      ap (λ k. x * 2 ^ (64 - 8 * n) % 2 ^ k / 2 ^ (64 - 8 * n)) e
      ∙ rw (field (x * 2 ^ (64 - 8 * n)) (8 * n) (64 - 8 * n), shl-shr x (64 - 8 * n))

  part_bytes : (f : ℕ) → n ≡ d + f → bytes_of 3 (x % 2 ^ (8 * n) / 2 ^ (8 * d + 8)) ≡ take (n - d - 1) (drop (d + 1) (bytes_of 8 x)) ++ bytes_of (3 - (n - d - 1)) 0
  part_bytes zero e =
      let none : n - d - 1 ≡ 0 = omega arith in
      let small : x % 2 ^ (8 * n) < 2 ^ (8 * d + 8) = lt_of_lt_of_le (mod-lt x (pow_pos (8 * n))) (pow_mono (omega arith)) in
      rw (none, div-eq_of_lt small)
  part_bytes (suc m) e =
      let some : n - d - 1 ≡ m = omega arith in
      let g : 8 * n ≡ 8 * m + (8 * d + 8) = omega arith in
      let h : 8 * d + 8 ≡ 8 * (d + 1) = omega arith in
      let f : 3 ≡ m + (3 - m) = omega (arith, y.part) in
      rw (some, g, field x (8 * m) (8 * d + 8), h, bytes-part (d + 1) m 8 x (omega (arith, y.whole, y.part)))
      (ap (λ k. bytes_of k (x / 2 ^ (8 * (d + 1)) % 2 ^ (8 * m))) f ∙ bytes_cut m (3 - m) (x / 2 ^ (8 * (d + 1))))

  pub in_line_lem : Aligned n d x (x * 2 ^ (40 - 8 * d) % 2 ^ 64 % 2 ^ 40 + x * 2 ^ (64 - 8 * n) % 2 ^ 64 / 2 ^ (64 - 8 * n) / 2 ^ (8 * d + 8) * 2 ^ 40 % 2 ^ 64)
  in_line_lem =
      let whole : ℕ = x * 2 ^ (40 - 8 * d) % 2 ^ 64 % 2 ^ 40 in
      let part : ℕ = x % 2 ^ (8 * n) / 2 ^ (8 * d + 8) in
      let e : whole + part * 2 ^ 40 % 2 ^ 64 ≡ part % 2 ^ 24 * 2 ^ 40 + whole = omega arith in
      record {
        parts =
            rw (cut-part, e, bytes-join 5 3 (part % 2 ^ 24) whole (mod-lt (x * 2 ^ (40 - 8 * d) % 2 ^ 64) (pow_pos 40)), bytes_low 3 part, whole-bytes)
            (ap (λ r. (bytes_of (5 - d) 0 ++ take d (bytes_of 8 x)) ++ r) (part_bytes (n - d) (omega (arith, y.inside))));
      }
