-- Times: a text that is long enough and all digits.
-- Assumes nothing.
use mathlib.Core.Path.{◌≡◌, sym, ◌∙◌}
use mathlib.Core.Bool.{Bool, true, ◌&&◌}
use Prim.Native.Nat.{ℕ}
use native.Mathlib.Omega.{arith}
use borrow.Author.Tests.{eqb-true}
use lib.Dec.{eqb}
use lib.ListN.{length, take, drop, length-take, length-drop}
use Rattle.text.specs.Byte.{Bytes, is_digit, every}
use Rattle.text.specs.Number.{Digits, number}
use Rattle.text.proofs.Class.{every_take, every_drop}
use Rattle.calendar.specs.Date.{is_date}
use Rattle.calendar.specs.Clock.{is_clock}
use Rattle.report.specs.Outcome.{passed, require, ◌>>◌}
use Rattle.report.specs.Verdict.{misfit}
use Rattle.report.proofs.Passing.{test-passed}
use Rattle.headers.specs.Time.{date_size, time_size, is_time, time_of}

module _ (f : Bytes) (v w : ℕ) (size : passed tt ≡ require (eqb (length f) time_size) v) (r : Bool) (er : r ≡ every is_digit f) (digits : passed tt ≡ require r w) where
  long : eqb (length f) time_size ≡ true
  long = test-passed _ v size

  clean : every is_digit f ≡ true
  clean = sym er ∙ test-passed r w digits

  pub date_digits : (x : Bytes) → x ≡ take date_size f → Digits 9 x
  date_digits x e = record {
    short = rw e (simp length-take (omega (arith, eqb-true (length f) time_size long)));
    clean = rw e (every_take is_digit date_size f clean);
  }

  pub clock_digits : (x : Bytes) → x ≡ drop date_size f → Digits 9 x
  clock_digits x e = record {
    short = rw e (simp length-drop (omega (arith, eqb-true (length f) time_size long)));
    clean = rw e (every_drop is_digit date_size f clean);
  }

  pub time-is : (x y : Bytes) (date clock : ℕ) (p q : Bool) → x ≡ take date_size f → y ≡ drop date_size f → date ≡ number x → clock ≡ number y → p ≡ is_date date → q ≡ is_clock clock
      → time_of f ≡ (require (p && q) misfit >> passed (record { date = date; clock = clock }))
  unfolding time_of is_time
  time-is x y date clock p q ex ey ed ec ep eq = rw (long, clean, ← ex, ← ey, ← ed, ← ec, ← ep, ← eq)
