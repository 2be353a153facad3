-- What a line does to the unit that is kept, at each unit and each kind of line.
-- Assumes nothing.
use mathlib.Core.Path.{◌≡◌, refl}
use mathlib.Core.Logic.{◌⊎◌, inl, inr}
use mathlib.Core.List.{List, ◌++◌, append-nil}
use Prim.Native.Nat.{ℕ}
use Rattle.std.specs.Prelude.{None as Nothing, Result, Ok, Err}
use Rattle.std.specs.Result.{MatchResult, IsOkAnd, IsErrAnd}
use Rattle.text.specs.Byte.{Bytes}
use Rattle.lines.specs.Line.{Line, kind_of}
use Rattle.lines.specs.declared.line.Kind.{Kind}
use Rattle.lines.specs.declared.line.Kind.TheVariants.{Empty, Opener, Detail, Other}
use Rattle.cell.specs.Layout.{Words}
use Rattle.report.specs.Outcome.{fault_of}
use Rattle.report.specs.declared.Entry.{Entry}
use Rattle.report.specs.declared.verdict.Fault.{Fault}
use Rattle.report.specs.declared.verdict.Verdict.{Verdict}
use Rattle.plain.specs.Rows.{Record, Rows, Rules, first_row, next_row, rules_of}
use Rattle.plain.specs.Table.{load_all}
use Rattle.plain.specs.Loader.{OpenUnit, no_unit, takes_rows, waits, skips, close, settle, entries_of, loads_of, step_kind, step_line}
use Rattle.plain.proofs.Pieces.{entries-append, loads-append}
use Rattle.records.specs.Answer.{header_says, checked_says, row_says}
use Rattle.records.specs.declared.After.{After}
use Rattle.records.specs.declared.After.TheVariants.{GoesOn, Complete}
use Rattle.records.specs.declared.Progress.{Progress}
use Rattle.records.specs.declared.Ready.{Ready}
use Rattle.records.specs.declared.Parts.{Parts}
use Rattle.units.specs.declared.Unit.{Unit as KeptUnit}
use Rattle.units.specs.declared.Unit.TheVariants.{None, Takes, Waits, Skips}
use Rattle.units.specs.Answer.{unit_of, told, ended, read_by, checked_at, quiet_step, Reads, Does, stray_from}

-- ---- A LINE IN TWO PARTS

-- the unit that a line ends, and then the line: that is all it does
step-parts : (R : Rules) (k : Kind) (n : ℕ) (l : Line) (u : OpenUnit)
    → step_kind R k n l u ≡ record { unit = (read_by R k n l u).unit; events = close n (ended k u) ++ (read_by R k n l u).events }
unfolding step_kind close
step-parts R Empty n l u = refl
step-parts R Opener n l u = refl
step-parts R Detail n l u = refl
step-parts R Other n l no_unit = refl
step-parts R Other n l (takes_rows first rows) = refl
step-parts R Other n l (waits first last r) = refl
step-parts R Other n l skips = refl

module _ (R : Rules) (n : ℕ) (l : Line) (u : OpenUnit) (kind : Kind) (is : kind ≡ kind_of l.body) where
  -- the verdicts and loads of both are the line's
  pub both-parts : (b : OpenUnit) → b ≡ ended kind u → (first : List Entry) (t t' : Words) → first ≡ entries_of (close n b)
      → t' ≡ load_all R t (loads_of (close n b)) → (v : OpenUnit) (second : List Entry) → Reads (read_by R kind n l u) v second
      → Does R (step_line R n l u) v (first ++ second) t t'
  unfolding step_line
  both-parts b e first t t' entered loads v second r =
      let read = (read_by R kind n l u).events in
      rw (← is, step-parts R kind n l u, ← e)
      (record {
        leaves = r.leaves;
        tells =
            record {
              entered = rw (entries-append R (close n b) read, entered, r.entered);
              loads = rw (loads-append R (close n b) read, r.none, append-nil (loads_of (close n b))) loads;
            };
      })

-- ---- THE LINE IS READ

-- nothing is said
pub quiet-reads : (u : OpenUnit) → Reads (quiet_step u) u (told Nothing)
unfolding entries_of loads_of
quiet-reads u = record { leaves = refl; entered = refl; none = refl }

-- row one, and the registry checks, as a row says it
pub says-begun : (one : Result Progress Verdict) (on : Result After Verdict) (row : Result After Fault)
    → MatchResult one (λ p. IsOkAnd on (λ a. a ≡ GoesOn p)) (λ v. on ≡ Err v) → MatchResult on (λ a. row ≡ Ok a) (λ v. IsErrAnd row (λ f. f ≡ fault_of v))
    → (day : ℕ) (r : Parts) → row_says row day r ≡ header_says one day r
says-begun (Ok p) (Ok a) row h g day r = rw (g, h)
says-begun (Ok p) (Err v) row h g day r = absurd h
says-begun (Err v) on (Ok a) h g day r = absurd (rw h at g)
says-begun (Err v) on (Err f) h g day r = rw (rw h at g)

pub says-complete : (all : Result Ready Fault) (row : Result After Fault)
    → MatchResult all (λ ready. IsOkAnd row (λ a. a ≡ Complete ready)) (λ f. row ≡ Err f) → (day : ℕ) (r : Parts) → row_says row day r ≡ checked_says all day r
says-complete (Ok ready) (Ok a) h day r = rw h
says-complete (Ok ready) (Err f) h day r = absurd h
says-complete (Err f) row h day r = rw h

-- what holds of a unit that takes no rows is left
pub kept-reads : (reg : Bytes) (n : ℕ) (parts : Parts) (unit : KeptUnit) → ((first : ℕ) (p : Progress) → unit ≡ Takes first p → ⊥)
    → Reads (checked_at reg n (unit_of unit parts)) (unit_of unit parts) (told Nothing)
kept-reads reg n parts None h = quiet-reads _
kept-reads reg n parts (Takes first p) h = absurd (h first p refl)
kept-reads reg n parts (Waits first last ready) h = quiet-reads _
kept-reads reg n parts Skips h = quiet-reads _

-- a line that is neither empty nor an opener: a detail line, or another
module _ (n : ℕ) (l : Line) (reg : Bytes) where
  pub stray-reads : (k : Kind) → (k ≡ Detail) ⊎ (k ≡ Other) → Reads (read_by (rules_of reg) k n l no_unit) skips (told (stray_from n).said)
  unfolding step_kind entries_of loads_of
  stray-reads k (inl e) = rw e (record { leaves = refl; entered = refl; none = refl })
  stray-reads k (inr e) = rw e (record { leaves = refl; entered = refl; none = refl })

  -- behind a record that waits, by any but a detail line
  pub behind-reads : (k : Kind) → (k ≡ Detail) ⊎ (k ≡ Other) → (k ≡ Detail → ⊥) → (first last : ℕ) (r : Record)
      → Reads (read_by (rules_of reg) k n l (waits first last r)) skips (told (stray_from n).said)
  unfolding step_kind entries_of loads_of
  behind-reads k (inl e) other first last r = absurd (other e)
  behind-reads k (inr e) other first last r = rw e (record { leaves = refl; entered = refl; none = refl })

  pub skips-reads : (k : Kind) → (k ≡ Detail) ⊎ (k ≡ Other) → Reads (read_by (rules_of reg) k n l skips) skips (told Nothing)
  unfolding step_kind
  skips-reads k (inl e) = rw e (quiet-reads skips)
  skips-reads k (inr e) = rw e (quiet-reads skips)

  pub row-reads : (k : Kind) → (k ≡ Detail) ⊎ (k ≡ Other) → (first : ℕ) (rows : Rows)
      → read_by (rules_of reg) k n l (takes_rows first rows) ≡ settle first n (next_row reg rows l)
  unfolding step_kind rules_of
  row-reads k (inl e) first rows = rw e
  row-reads k (inr e) first rows = rw e

pub opener-reads : (reg : Bytes) (n : ℕ) (l : Line) (u v : OpenUnit) (said : List Entry) → Reads (settle n n (first_row l)) v said
    → Reads (read_by (rules_of reg) Opener n l u) v said
unfolding step_kind close rules_of
opener-reads reg n l u v said r = record { leaves = r.leaves; entered = r.entered; none = r.none }
