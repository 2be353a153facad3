-- Estimate marks. Document 01, "Registry and cells": interval i, from 0, is estimated if bit i mod 32 of word 3 + i div 32 is set, bit 0
-- being worth 1.
-- Assumes nothing.
use Rattle.std.specs.Prelude.{List, [], ◌∷◌, ◌++◌, Bool, true, false, ℕ, zero, suc, ◌+◌, ◌/◌, ◌%◌, ◌^◌, eqb, get_or, set}
use Rattle.std.specs.Int.Bits.{bit_or}
use Rattle.cell.specs.Layout.{Words, marks_at, word_bits}

-- bit k of a word
unfoldable pub bit : ℕ → ℕ → Bool
bit k word = eqb (word / 2 ^ k % 2) 1

abbrev pub mark_word : ℕ → ℕ
mark_word i = marks_at + i / word_bits

unfoldable pub is_estimated : Words → ℕ → Bool
is_estimated w i = bit (i % word_bits) (get_or w (mark_word i) 0)

-- the statuses of the first n intervals, true for estimated
unfoldable pub statuses : ℕ → Words → List Bool
statuses zero w = []
statuses (suc n) w = statuses n w ++ (is_estimated w n ∷ [])

abbrev pub one : Bool → ℕ
one true = 1
one false = 0

-- how many of the first n intervals are estimated
unfoldable pub estimated : ℕ → Words → ℕ
estimated zero w = 0
estimated (suc n) w = estimated n w + one (is_estimated w n)

-- the words with the mark of interval i
unfoldable pub with_mark : Words → ℕ → Words
with_mark w i = set w (mark_word i) (bit_or (get_or w (mark_word i) 0) (2 ^ (i % word_bits)))
