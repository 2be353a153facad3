-- The end of a file: its last line, and the unit that is open.
-- Assumes nothing.
use mathlib.Core.Path.{◌≡◌, refl}
use mathlib.Core.List.{List, [], ◌∷◌, ◌++◌}
use mathlib.Core.Bool.{false}
use Prim.Native.Nat.{ℕ, suc, ◌+◌, ◌≤◌}
use native.Mathlib.Numerals.{add-one}
use native.Mathlib.Omega.{arith}
use lib.ListN.{length, take}
use lib.Seq.{length-take-le}
use Rattle.std.specs.Prelude.{Option}
use Rattle.text.specs.Byte.{Bytes}
use Rattle.lines.specs.Line.{last_line, kind_of, kept_limit}
use Rattle.lines.specs.Answer.{line_with}
use Rattle.cell.specs.Layout.{Words}
use Rattle.report.specs.declared.Entry.{Entry}
use Rattle.plain.specs.Rows.{Rules, rules_of}
use Rattle.plain.specs.Table.{load_all}
use Rattle.plain.specs.Loader.{OpenUnit, Event, close, step_kind, step_line, entries_of, loads_of, end_at, end_events}
use Rattle.plain.proofs.Pieces.{entries-append, loads-append, load_all-append}
use Rattle.records.specs.declared.Parts.{Parts}
use Rattle.units.specs.declared.LineRead.{LineRead}
use Rattle.units.specs.Answer.{unit_of, told, told_by, Tells, Does}
use Rattle.pieces.specs.declared.Scan.{Scan as KeptScan}
use Rattle.pieces.specs.Ran.{scan_of}
use Rattle.batches.specs.Batch.{lines_in}

-- what some events tell, and then others behind them, is what all of them tell
tells_both : (R : Rules) (d e : List Event) (es fs : List Entry) (t₀ t₁ t₂ : Words) → Tells R d es t₀ t₁ → Tells R e fs t₁ t₂ → Tells R (d ++ e) (es ++ fs) t₀ t₂
tells_both R d e es fs t₀ t₁ t₂ f g =
    record {
      entered = rw (entries-append R d e, ← f.entered, ← g.entered);
      loads = rw (loads-append R d e, load_all-append R t₀ (loads_of d) (loads_of e), ← f.loads) g.loads;
    }

-- bytes that are held are a line; where there are none, the line is empty and does nothing
end_line : (R : Rules) (k : Bytes) (n : ℕ) (u : OpenUnit)
    → end_at R k n u ≡ (step_line R (suc n) (line_with k false) u).events ++ close (suc (lines_in n (length k))) (step_line R (suc n) (line_with k false) u).unit
unfolding end_at last_line step_line step_kind kind_of
end_line R [] n u = refl
end_line R (b ∷ k) n u = refl

module _ (reg : Bytes) (s : KeptScan) (long : length s.kept ≡ kept_limit) (few : s.held ≤ kept_limit) where
  abbrev R : Rules
  R = rules_of reg

  abbrev u : OpenUnit
  u = unit_of s.unit s.parts

  pub file-ends : (t t₁ t₂ : Words) (r : LineRead) (parts : Parts) (n : ℕ) (last : Option Entry)
      → Does R (step_line R (s.lines + 1) (line_with (take s.held s.kept) false) u) (unit_of r.unit parts) (told_by r) t t₁
      → t₂ ≡ load_all R t₁ (loads_of (close (suc n) (unit_of r.unit parts))) → n ≡ lines_in s.lines s.held
      → told last ≡ entries_of (close (n + 1) (unit_of r.unit parts))
      → (batch : List Entry) → batch ≡ told_by r ++ told last → Tells R (end_events R (scan_of s)) batch t t₂
  unfolding end_events
  file-ends t t₁ t₂ r parts n last did loads lines closes batch e =
      let all : length (take s.held s.kept) ≡ s.held = length-take-le s.held s.kept (omega (arith, few, long)) in
      let step : Does R (step_line R (suc s.lines) (line_with (take s.held s.kept) false) u) (unit_of r.unit parts) (told_by r) t t₁ =
      rw (← add-one s.lines) did in
      let shut : Tells R (close (suc (lines_in s.lines s.held)) (unit_of r.unit parts)) (told last) t₁ t₂ =
      record { entered = rw (← lines, ← add-one n) closes; loads = rw (← lines) loads } in
      rw (e, end_line R (take s.held s.kept) s.lines u, all, ← step.leaves)
      (tells_both R _ _ (told_by r) (told last) t t₁ t₂ step.tells shut)
