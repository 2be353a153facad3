-- Lines put one behind the other.
-- Assumes nothing.
use mathlib.Core.Path.{◌≡◌, refl, sym, ◌∙◌}
use mathlib.Core.List.{List, [], ◌∷◌, ◌++◌, append_assoc, append-nil}
use Prim.Native.Nat.{ℕ, zero, suc, ◌+◌, ◌-◌, ◌<◌, ◌≤◌}
use native.Mathlib.Numerals.{add-one}
use native.Mathlib.Omega.{arith}
use lib.ListN.{length, length-append}
use Rattle.text.specs.Byte.{Bytes}
use Rattle.lines.specs.Line.{LF}
use Rattle.digits.specs.Put.{Put, put_at}
use Rattle.digits.specs.Decimal.{decimal}
use Rattle.digits.proofs.Puts.{put_both}
use Rattle.digits.proofs.Decimal.{decimal-short}
use Rattle.report.specs.declared.Entry.{Entry}
use Rattle.report.specs.Words.{entry_at}
use Rattle.entrytext.specs.Listing.{number_then, widest, space, line_of, longest, lines_from}

pub ruleset numbers = (append_assoc, length-append, decimal-short)

-- no line, and one more
module _ (w : List ℕ) (from : ℕ) where
  pub no_lines : (t : Bytes) (k : ℕ) → k ≡ 0 → t ≡ t ++ lines_from w from k
  unfolding lines_from
  no_lines t k e = rw e (sym (append-nil t))

  pub next-line : (t u v : Bytes) (k n : ℕ) (e : Entry) → n ≡ from + k → e ≡ entry_at w n → u ≡ t ++ lines_from w from k → v ≡ u ++ line_of e
      → (m : ℕ) → m ≡ k + 1 → v ≡ t ++ lines_from w from m
  unfolding lines_from
  next-line t u v k n e at is p q m next = q ∙ rw (p, next, add-one, ← at, ← is) (append_assoc t (lines_from w from k) (line_of e))

  -- a text that grew has a line
  pub some-line : (t u : Bytes) (k : ℕ) → u ≡ t ++ lines_from w from k → length t < length u → 0 < k
  unfolding lines_from
  some-line t u zero p h = absurd (omega (arith, rw (p, append-nil) at h))
  some-line t u (suc k) p h = omega arith

-- LINES IN LENT BYTES

then_short : (n b : ℕ) → length (number_then n b) ≤ widest
then_short n b = omega (arith, length-append (decimal n) (b ∷ []), decimal-short n)

pub line-short : (e : Entry) → length (line_of e) ≤ longest
unfolding line_of
line-short e =
    omega (
      arith,
      then_short e.first space,
      then_short e.verdict space,
      then_short e.at space,
      then_short e.meter space,
      then_short e.day LF,
      length-append (number_then e.first space) (number_then e.verdict space),
      length-append (number_then e.first space ++ number_then e.verdict space) (number_then e.at space),
      length-append (number_then e.first space ++ number_then e.verdict space ++ number_then e.at space) (number_then e.meter space),
      length-append (number_then e.first space ++ number_then e.verdict space ++ number_then e.at space ++ number_then e.meter space)
          (number_then e.day LF),
    )

pub none_lent : (w : List ℕ) (from : ℕ) (a : Bytes) (k : ℕ) → k ≡ 0 → Put a 0 (lines_from w from k) a 0
unfolding lines_from put_at
none_lent w from a k e = rw e (record { behind = refl; bytes = refl })

module _ (w : List ℕ) (from : ℕ) (a b : Bytes) where
  pub next_lent : (c : Bytes) (k end r n : ℕ) (e : Entry) → n ≡ from + k → e ≡ entry_at w n → Put a 0 (lines_from w from k) b end → Put b end (line_of e) c r
      → (m : ℕ) → m ≡ k + 1 → Put a 0 (lines_from w from m) c r
  unfolding lines_from
  next_lent c k end r n e at is p q m next = rw (next, add-one, ← at, ← is) (put_both (omega arith) p q)

  -- at least one, where the bytes had room for one
  pub some_lent : (k end : ℕ) → Put a 0 (lines_from w from k) b end → longest ≤ length b → length b - end < longest → 0 < k
  unfolding lines_from
  some_lent zero end p room full = absurd (omega (arith, p.behind))
  some_lent (suc k) end p room full = omega arith
