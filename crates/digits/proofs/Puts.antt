-- Texts put into lent bytes; texts put one right behind the other are one text put.
-- Assumes nothing.
use mathlib.Core.Path.{◌≡◌, refl, sym, ◌∙◌}
use mathlib.Core.List.{◌++◌, append_assoc}
use Prim.Native.Nat.{ℕ, ◌+◌, ◌-◌, ◌≤◌}
use native.Mathlib.Omega.{arith}
use lib.ListN.{length, take, drop, length-append}
use lib.Seq.{take_at, drop-append-add, drop-drop, length-take-le}
use borrow.Rule.Slice.PartMut.{mid_of, put_mid, Post-is, mid_len}
use Rattle.text.specs.Byte.{Bytes}
use Rattle.text.specs.Number.{digits_of}
use Rattle.text.proofs.DigitsOf.{digits-length}
use Rattle.digits.specs.Put.{Room, Put, put_at}

-- the bytes that are lent come back as the text
lent : (a text back : Bytes) (at n : ℕ) → back ≡ text → length text ≡ n → Put a at text (put_mid at (at + n - at) a back) (at + n)
unfolding put_at
lent a text back at n e l = record {
  behind = omega arith;
  bytes = rw (e, Post-is at (at + n) a (omega arith), l) (sym (append_assoc (take at a) text (drop (at + n) a)));
}

module _ (a back : Bytes) (at : ℕ) where
  pub text-put : (text : Bytes) → back ≡ text → Put a at text (put_mid at (at + length text - at) a back) (at + length text)
  text-put text e = lent a text back at (length text) e refl

  pub number_put : (size n : ℕ) → Room a at (digits_of size n) → back ≡ digits_of (length (mid_of at (at + size - at) a)) n
      → Put a at (digits_of size n) (put_mid at (at + size - at) a back) (at + size)
  number_put size n h e =
      let l : length (mid_of at (at + size - at) a) ≡ size = mid_len at (at + size) a (omega (arith, digits-length size n)) ∙ omega arith in
      lent a (digits_of size n) back at size (e ∙ rw l) (digits-length size n)

-- another text right behind one
pub put_both : {a b c s t : Bytes} {at r q : ℕ} → at ≤ length a → Put a at s b r → Put b r t c q → Put a at (s ++ t) c q
unfolding put_at
put_both {a} {b} {c} {s} {t} {at} {r} {q} h p n = record {
  behind = n.behind ∙ omega (arith, p.behind, length-append s t);
  bytes = n.bytes ∙ rw (p.bytes, before, after, length-append s t, append_assoc (take at a) s t);
}
  where
    front : length (take at a ++ s) ≡ r
    front = length-append (take at a) s ∙ omega (arith, length-take-le at a h, p.behind)

    before : take r (put_at a at s) ≡ take at a ++ s
    before = take_at (take at a ++ s) (drop (at + length s) a) r front

    after : drop (r + length t) (put_at a at s) ≡ drop (at + (length s + length t)) a
    after =
        let sum : at + length s + length t ≡ at + (length s + length t) = omega arith in
        rw (← front)
        (drop-append-add (take at a ++ s) (drop (at + length s) a) (length t) ∙ drop-drop (length t) (at + length s) a ∙ rw sum)
