-- What a call puts out: it stands at the output's beginning, and what is behind it stays; a refusal changes nothing.
-- Assumes nothing.
use Rattle.std.specs.Prelude.{List, ◌++◌, length, drop}
use Rattle.report.specs.Outcome.{Outcome, passed, refused}

abbrev pub output_with : {A : Type 0} → List A → Outcome (List A) → List A
output_with output (passed text) = text ++ drop (length text) output
output_with output (refused number) = output
