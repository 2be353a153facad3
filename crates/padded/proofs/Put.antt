-- A text put with spaces behind it.
-- Assumes nothing.
use mathlib.Core.Path.{◌≡◌, refl, ap, ◌∙◌}
use mathlib.Core.List.{◌++◌, append-nil}
use Prim.Native.Nat.{ℕ, ◌-◌, ◌≤◌}
use native.Mathlib.Omega.{arith}
use lib.ListN.{length, take, drop, replicate, length-append, length-drop, length-replicate}
use lib.Seq.{take_at, drop-length}
use borrow.Rule.Slice.PartMut.{mid_of, put_mid, Post-is, mid_len}
use Rattle.text.specs.Byte.{Bytes}
use Rattle.padded.specs.Padding.{space, pad}

pub pad-length : (n : ℕ) (s : Bytes) → length s ≤ n → length (pad n s) ≡ n
unfolding pad
pad-length n s h = length-append s (replicate (n - length s) space) ∙ omega (arith, length-replicate (n - length s) space)

-- the text comes back in the front part, the spaces in the rest
pub padded_put : (to text back spaces : Bytes) → length text ≤ length to → back ≡ text
    → spaces ≡ replicate (length (mid_of (length text) (length (back ++ drop (length text) to) - length text) (back ++ drop (length text) to))) space
    → put_mid (length text) (length (back ++ drop (length text) to) - length text) (back ++ drop (length text) to) spaces ≡ pad (length to) text
unfolding pad
padded_put to text back spaces h e f =
    let all : Bytes = back ++ drop (length text) to in
    let long : length all ≡ length to = length-append back (drop (length text) to) ∙ omega (arith, ap length e, length-drop (length text) to) in
    let rest : length (mid_of (length text) (length all - length text) all) ≡ length to - length text =
    mid_len (length text) (length all) all (omega (arith, long)) ∙ omega (arith, long) in
    let front : take (length text) all ≡ text = rw e (take_at text (drop (length text) to) (length text) refl) in
    ap (λ (s : Bytes). take (length text) all ++ (spaces ++ s)) (Post-is (length text) (length all) all (omega (arith, long)))
    ∙ ap (λ (s : Bytes). s ++ (spaces ++ drop (length all) all)) front
    ∙ ap (λ (s : Bytes). text ++ (spaces ++ s)) (drop-length all)
    ∙ ap (λ (s : Bytes). text ++ s) (append-nil spaces)
    ∙ ap (λ (s : Bytes). text ++ s) (f ∙ ap (λ (n : ℕ). replicate n space) rest)
