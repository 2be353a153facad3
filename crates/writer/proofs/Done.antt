-- A call of Write that was not refused: the record was put out whole.
-- Assumes nothing.
use mathlib.Core.Path.{◌≡◌, ap, sym, ◌∙◌}
use mathlib.Core.Bool.{not}
use Prim.Native.Nat.{ℕ}
use lib.Dec.{ltb}
use lib.ListN.{length, take, drop}
use lib.Seq.{take_at}
use Rattle.text.specs.Byte.{Bytes}
use Rattle.report.specs.Outcome.{Outcome, passed, require}
use Rattle.report.specs.Refusal.{short_output}
use Rattle.report.proofs.Passing.{bind_passed, then_passed}
use Rattle.cell.specs.Layout.{Words}
use Rattle.cells.specs.Sound.{sound_cell}
use Rattle.report.specs.Output.{output_with}
use Rattle.writer.specs.Write.{written_record, fitting, writes, length_of}

module _ (reg : Bytes) (table : Words) (m c d : ℕ) (descriptor output : Bytes) where
  pub record Done (last : Bytes) (n : ℕ) : Type 0 where
    pub text : Bytes
    pub words : Words
    pub cell : sound_cell reg table m c d ≡ passed words
    pub written : written_record reg table m c d descriptor ≡ passed text
    pub put : take n last ≡ text

  pub write_done : (last : Bytes) (n : ℕ) → passed n ≡ length_of (writes reg table m c d descriptor output)
      → last ≡ output_with output (writes reg table m c d descriptor output) → Done last n
  unfolding writes written_record fitting
  write_done last n told is =
      let out = bind_passed (writes reg table m c d descriptor output) n _ (sym told) in
      let text : Bytes = out.0 in
      let counted : ◌≡◌ {A = Outcome ℕ} (passed (length text)) (passed n) = out.2 in
      let fits = bind_passed (written_record reg table m c d descriptor) text _ out.1 in
      let room = then_passed (require (not (ltb (length output) (length fits.0))) short_output) text _ fits.2 in
      let put : ◌≡◌ {A = Outcome Bytes} (passed fits.0) (passed text) = room.2 in
      let same : fits.0 ≡ text = cc in
      let size : length text ≡ n = cc in
      let found = bind_passed (sound_cell reg table m c d) fits.0 _ fits.1 in
      record {
        text = text;
        words = found.0;
        cell = found.1;
        written = fits.1 ∙ ap passed same;
        put = ap (take n) (is ∙ ap (output_with output) out.1) ∙ take_at text (drop (length text) output) n size;
      }
