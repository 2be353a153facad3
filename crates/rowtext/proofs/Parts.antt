-- Rows put into lent bytes: their sizes, and the parts of those that are put from the left, each at the place behind the one before.
-- Assumes nothing.
use mathlib.Core.Path.{◌≡◌}
use mathlib.Core.List.{[], ◌∷◌, ◌++◌, append_assoc, append-nil}
use Prim.Native.Nat.{ℕ, ◌+◌, ◌/◌, ◌%◌, ◌<◌, ◌≤◌}
use native.Mathlib.Omega.{arith}
use lib.ListN.{length, length-append}
use Rattle.text.specs.Byte.{Bytes, ascii}
use Rattle.text.specs.Field.{comma}
use Rattle.text.specs.Number.{digits_of}
use Rattle.text.proofs.DigitsOf.{digits-length}
use Rattle.lines.specs.Line.{LF}
use Rattle.lines.specs.Text.{row}
use Rattle.headers.specs.Time.{date_size, clock_size, day_stop}
use Rattle.headers.specs.declared.time.Stamp.{Stamp}
use Rattle.details.specs.Value.{part_digits, per_kwh}
use Rattle.details.specs.declared.detail.Interval.{Interval}
use Rattle.rowtext.specs.Text.{time_text, stamp_text, channel_text, value_text, status_text, line_one, line_three, line_four, line_thirty, line_detail}
use Rattle.rowtext.specs.Value.{value_end}
use Rattle.digits.specs.Decimal.{decimal}
use Rattle.digits.specs.Put.{Put}
use Rattle.digits.proofs.Puts.{put_both}
use Rattle.rowtext.proofs.Texts.{interval_text, value-is, interval_is, one-is, three-is, four_is, thirty-is, detail_is}
use Rattle.rowtext.proofs.Lengths.{channel-length, time_length, one-length, three-length, four-length, thirty-length}

-- SIZES

pub one-size : (id : Bytes) (channel date : ℕ) → length (row (line_one id channel date)) ≡ length id + 46
one-size id channel date = omega (arith, length-append (line_one id channel date) (LF ∷ []), one-length id channel date)

pub three-size : (descriptor : Bytes) → length (row (line_three descriptor)) ≡ length descriptor + 10
three-size descriptor = omega (arith, length-append (line_three descriptor) (LF ∷ []), three-length descriptor)

pub four-size : (stamp : Stamp) → length (row (line_four stamp)) ≡ 26
four-size stamp = omega (arith, length-append (line_four stamp) (LF ∷ []), four-length stamp)

pub thirty-size : (owner : Bytes) → length (row (line_thirty owner)) ≡ length owner + length owner + 68
thirty-size owner = omega (arith, length-append (line_thirty owner) (LF ∷ []), thirty-length owner)

pub ruleset row_sizes = (one-size, three-size, four-size, thirty-size, channel-length, time_length, digits-length)

-- PARTS

detail-parts : (x n a b c d t : Bytes) → x ++ n ++ (a ++ (b ++ (c ++ (d ++ [])))) ++ t ≡ x ++ n ++ a ++ b ++ c ++ d ++ t
detail-parts x n a b c d t = simp (append_assoc, append-nil)

module _ {a b c d : Bytes} {at r q n : ℕ} (l : at ≤ length a) where
  pub time-put : (date clock : ℕ) → Put a at (ascii ",") b r → Put b r (digits_of date_size date) c q → Put c q (digits_of clock_size clock) d n
      → Put a at (comma ∷ time_text date clock) d n
  unfolding time_text
  time-put date clock p₁ p₂ p₃ = put_both l (put_both l p₁ p₂) p₃

  pub value-put : (wh : ℕ) → wh < value_end → Put a at (decimal (wh / per_kwh)) b r → Put b r (ascii ".") c q
      → Put c q (digits_of part_digits (wh % per_kwh)) d n → Put a at (value_text wh) d n
  value-put wh h p₁ p₂ p₃ = rw (value-is wh h) (put_both l (put_both l p₁ p₂) p₃)

  pub interval-put : (v : Interval) → Put a at (ascii ",") b r → Put b r (value_text v.wh) c q → Put c q (ascii "," ++ status_text v.estimated ++ ascii ",") d n
      → Put a at (interval_text v) d n
  interval-put v p₁ p₂ p₃ = rw (interval_is v) (put_both l (put_both l p₁ p₂) p₃)

  pub four-put : (stamp : Stamp) → Put a at (ascii "00000004") b r → Put b r (comma ∷ time_text stamp.date stamp.clock) c q → Put c q (ascii ",M" ++ LF ∷ []) d n
      → Put a at (row (line_four stamp)) d n
  unfolding stamp_text
  four-put stamp p₁ p₂ p₃ = rw four_is (put_both l (put_both l p₁ p₂) p₃)

  pub one-put : {e f g : Bytes} {m o p : ℕ} (id : Bytes) (channel date : ℕ) → Put a at (ascii "00000001,") b r → Put b r id c q
      → Put c q (comma ∷ channel_text channel) d n → Put d n (comma ∷ time_text date 0) e m → Put e m (comma ∷ time_text date day_stop) f o
      → Put f o (ascii ",Y,N" ++ LF ∷ []) g p → Put a at (row (line_one id channel date)) g p
  one-put id channel date p₁ p₂ p₃ p₄ p₅ p₆ = rw one-is (put_both l (put_both l (put_both l (put_both l (put_both l p₁ p₂) p₃) p₄) p₅) p₆)

  pub detail-put : {e f g h : Bytes} {m o p s : ℕ} (k : ℕ) (u v w x : Interval) → Put a at (ascii "100000") b r → Put b r (digits_of 2 k) c q
      → Put c q (interval_text u) d n → Put d n (interval_text v) e m → Put e m (interval_text w) f o → Put f o (interval_text x) g p
      → Put g p (ascii "," ++ LF ∷ []) h s → Put a at (row (line_detail k (u ∷ v ∷ w ∷ x ∷ []))) h s
  detail-put k u v w x p₁ p₂ p₃ p₄ p₅ p₆ p₇ =
      rw (detail_is, detail-parts (ascii "100000") (digits_of 2 k) (interval_text u) (interval_text v) (interval_text w) (interval_text x) (ascii "," ++ LF ∷ []))
      (put_both l (put_both l (put_both l (put_both l (put_both l (put_both l p₁ p₂) p₃) p₄) p₅) p₆) p₇)

  pub three-put : (descriptor : Bytes) → Put a at (ascii "00000003,") b r → Put b r descriptor c q → Put c q (LF ∷ []) d n
      → Put a at (row (line_three descriptor)) d n
  three-put descriptor p₁ p₂ p₃ = rw three-is (put_both l (put_both l p₁ p₂) p₃)

  pub thirty-put : {e f : Bytes} {m o : ℕ} (owner : Bytes) → Put a at (ascii "00000030,ATTRIBUTE_VALUE_PAIRS,MRE=") b r → Put b r owner c q
      → Put c q (ascii ",Sender=") d n → Put d n owner e m → Put e m (ascii ",Receiver=183529049,REP=" ++ LF ∷ []) f o → Put a at (row (line_thirty owner)) f o
  thirty-put owner p₁ p₂ p₃ p₄ p₅ = rw thirty-is (put_both l (put_both l (put_both l (put_both l p₁ p₂) p₃) p₄) p₅)
