-- What the parts of the direct reader owe each other: the bytes of a word, a value, and value, status and empty field together. It says only
-- how the reader works; what a caller must believe is in Direct.
-- Assumes nothing.
use Rattle.std.specs.Prelude.{◌≡◌, ℕ, zero, suc, ◌+◌, ◌-◌, ◌*◌, ◌/◌, ◌%◌, ◌^◌, ◌<◌, ◌≤◌, Bool, true, false, ◌||◌, [], ◌∷◌, ◌++◌, length, take, drop, ◌==◌, nat_le, slice_index, slice_index_or}
use Prim.Native.Char.{code}
use Rattle.text.specs.Byte.{Bytes, is_digit, every}
use Rattle.text.specs.Field.{comma}
use Rattle.text.specs.Number.{number}
use Rattle.lines.specs.Line.{LF, CR, cr_size}
use Rattle.report.specs.Outcome.{passed}
use Rattle.details.specs.Value.{point, whole_digits, part_digits, value_of}
use Rattle.details.specs.Detail.{per_row}
use Rattle.details.specs.declared.detail.Interval.{Interval}

-- a detail line's code with its comma
abbrev pub code_size : ℕ
code_size = 9

-- the longest value, point included
abbrev pub value_size : ℕ
value_size = whole_digits + 1 + part_digits

-- the bytes of a word, and the digits before the point that are taken in one
abbrev pub word_size : ℕ
word_size = 8

abbrev pub whole_taken : ℕ
whole_taken = 5

abbrev pub status_byte : Bool → ℕ
status_byte true = code "E"
status_byte false = code "A"

-- what stands behind a value: comma, status, comma, the empty field, comma
abbrev pub tail : ℕ → Bytes
tail status = comma ∷ status ∷ comma ∷ comma ∷ []

abbrev pub tail_size : ℕ
tail_size = 4

-- the longest interval, with its commas
abbrev pub triple_size : ℕ
triple_size = value_size + tail_size

-- the bytes that are looked at: the longest line that is taken, with CR and LF
abbrev pub span_size : ℕ
span_size = code_size + per_row * triple_size + 2

-- a value in a word may have n bytes, d of them before its point (all of them, if it has none): a point has a digit behind it
pub record Layout (n d : ℕ) : Type 0 where
  pub some : 0 < n
  pub inside : d ≤ n
  pub fits : n ≤ word_size
  pub whole : d ≤ whole_taken
  pub part : n - d ≤ part_digits + 1
  pub digit : n - d ≡ 1 → ⊥

-- the k lowest bytes of a word, the lowest first; of the word 0, k zeros
unfoldable pub bytes_of : ℕ → ℕ → Bytes
bytes_of zero w = []
bytes_of (suc k) w = w % 256 ∷ bytes_of k (w / 256)

-- a digit's number, and the number that such bytes write, behind a number read so far (`number_from` is the same of the digits)
abbrev pub is_numeral : ℕ → Bool
is_numeral b = nat_le b 9

unfoldable pub tens_from : ℕ → Bytes → ℕ
tens_from n [] = n
tens_from n (b ∷ s) = tens_from (n * 10 + b) s

-- the bytes of r: of n bytes of x the d first, with zeros before them five in all; then those behind place d, with zeros behind them three
pub record Aligned (n d x r : ℕ) : Type 0 where
  pub parts : bytes_of 8 r ≡ (bytes_of (5 - d) 0 ++ take d (bytes_of 8 x)) ++ (take (n - d - 1) (drop (d + 1) (bytes_of 8 x)) ++ bytes_of (3 - (n - d - 1)) 0)

-- digits only, which write n once zeros behind them fill them up to w digits (behind a point, `part_digits`; before it 0, so no zeros)
pub record Writes (w : ℕ) (s : Bytes) (n : ℕ) : Type 0 where
  pub clean : every is_digit s ≡ true
  pub value : number s * 10 ^ (w - length s) ≡ n

-- the bytes that a value can have
abbrev pub in_value : ℕ → Bool
in_value b = is_digit b || b == point

-- the bytes begin with a value of n bytes
pub record BeginsValue (s : Bytes) (wh n : ℕ) : Type 0 where
  pub short : n ≤ value_size
  pub plain : every in_value (take n s) ≡ true
  pub value : value_of (take n s) ≡ passed wh

-- the same, with its digits in line in a word
pub record BeginsDigits (s : Bytes) (w n : ℕ) : Type 0 where
  pub numerals : every is_numeral (bytes_of 8 w) ≡ true
  pub value : BeginsValue s (tens_from 0 (bytes_of 8 w)) n

-- the bytes begin with an interval of so many: a value of n bytes, status and empty field, with their commas
pub record HasTriple (s : Bytes) (i : Interval) (size : ℕ) : Type 0 where
  pub n : ℕ
  pub value : BeginsValue s i.wh n
  pub behind : take tail_size (drop n s) ≡ tail (status_byte i.estimated)
  pub ends : size ≡ n + tail_size

-- a line whose intervals end at a place has its LF at n: there, or behind a CR
pub record EndsAt (s : Bytes) (at n : ℕ) : Type 0 where
  pub cr : Bool
  pub behind : n ≡ at + cr_size cr
  pub lf : slice_index_or s n 0 ≡ LF
  pub dropped : cr ≡ true → slice_index s at ≡ CR
