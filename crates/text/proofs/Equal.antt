-- Texts compared: two texts, and a text with the beginning of another.
-- Assumes nothing.
use Rattle.std.proofs.Common.{◌≡◌, true, ℕ, length, drop, ◌++◌, ◌≤◌, arith, ap}
use Rattle.std.proofs.lemmas.Slice.Eq.{bytes_eq-Decides, starts_is}
use Rattle.std.proofs.lemmas.Bool.Decides.{Decides-eqb}
use Rattle.std.proofs.Math.ListN.{length-append}
use Rattle.text.specs.Byte.{Bytes, equals, starts_with}

-- equal texts are one text
pub equals_path : (s t : Bytes) → equals s t ≡ true → s ≡ t
unfolding equals
equals_path s t = (bytes_eq-Decides s t).0

pub equals_refl : (s : Bytes) → equals s s ≡ true
unfolding equals
equals_refl s = (bytes_eq-Decides s s).1 (λ i. s)

-- a text that begins with another is that one, and what stands behind it
pub starts_whole : (p s : Bytes) → starts_with p s ≡ true → s ≡ p ++ drop (length p) s
unfolding starts_with
starts_whole p s = (starts_is Decides-eqb s p _ (λ i. starts_with p s)).0

pub starts_long : (p s : Bytes) → starts_with p s ≡ true → length p ≤ length s
starts_long p s h = omega (arith, ap length (starts_whole p s h), length-append {A = ℕ})
