-- What the activity page says of each verdict: one table, docs/VERDICTS.md. Document 02, S-2.
-- Assumes nothing.
use Rattle.std.specs.Prelude.{List, [], ◌∷◌, Bool, ◌&&◌, cond, ℕ, eqb, leb}
use Rattle.text.specs.Byte.{Bytes, ascii}
use Rattle.report.specs.Verdict.{loaded, stray, long, short, wrong_code, wrong_count, misfit, not_below, not_one_day, wrong_status, negative, too_fine, no_value, surplus, unknown_meter, not_owner, read_by_ercot, no_interval_data, not_idr, outside_window}

pub record Text : Type 0 where
  pub verdict : ℕ
  pub text : Bytes

abbrev says : ℕ → Bytes → Text
says verdict text = record { verdict = verdict; text = text }

unfoldable pub texts : List Text
texts =
    says loaded (ascii "Loaded")
    ∷ says stray (ascii "Lines that belong to no record")
    ∷ says long (ascii "A line is longer than 200 bytes")
    ∷ says short (ascii "Record ends before its last row")
    ∷ says wrong_code (ascii "Row does not begin with the code due")
    ∷ says wrong_count (ascii "Row has the wrong number of fields")
    ∷ says misfit (ascii "A field is not as it must be")
    ∷ says not_below (ascii "Start is not before stop")
    ∷ says not_one_day (ascii "Start and stop are not one whole day")
    ∷ says wrong_status (ascii "A status is neither A nor E")
    ∷ says negative (ascii "A value is negative")
    ∷ says too_fine (ascii "A value has too many decimals")
    ∷ says no_value (ascii "A value is not a number of kWh")
    ∷ says surplus (ascii "Record has a row too many")
    ∷ says unknown_meter (ascii "ESI ID is not in the registry")
    ∷ says not_owner (ascii "Sender does not own the meter")
    ∷ says read_by_ercot (ascii "ERCOT reads the meter itself")
    ∷ says no_interval_data (ascii "Meter not set up for interval data")
    ∷ says not_idr (ascii "Meter's profile is not IDR")
    ∷ says outside_window (ascii "Day is outside the registry's window")
    ∷ []

-- the text of a verdict; an unknown one has none
unfoldable pub text_in : List Text → ℕ → Bytes
text_in [] verdict = []
text_in (t ∷ ts) verdict = cond (eqb t.verdict verdict) t.text (text_in ts verdict)

abbrev pub text_of : ℕ → Bytes
text_of verdict = text_in texts verdict

-- printable ASCII
unfoldable pub is_printable : ℕ → Bool
is_printable b = leb 32 b && leb b 126
