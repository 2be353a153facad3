-- The lines of a whole record, read one by one: no verdict falls before finish, and there the record loads.
-- Assumes nothing.
use mathlib.Core.Path.{◌≡◌, refl, ◌∙◌}
use mathlib.Core.List.{List, [], ◌∷◌, ◌++◌, map}
use Prim.Native.Nat.{ℕ, suc, ◌+◌}
use native.Mathlib.Omega.{arith}
use lib.ListN.{length}
use Rattle.text.specs.Byte.{Bytes}
use Rattle.lines.specs.Line.{NoLf, Line, ended_line, kind_of}
use Rattle.lines.specs.declared.line.Kind.{Kind}
use Rattle.lines.specs.declared.line.Kind.TheVariants.{Empty, Opener, Detail, Other}
use Rattle.lines.specs.Text.{rows as text_of}
use Rattle.plain.specs.Rows.{Record, Rows, Row, refused_with, goes_on, complete, Rules, header_rows, rules_of}
use Rattle.plain.specs.Record.{rows_from}
use Rattle.plain.specs.Loader.{no_unit, takes_rows, waits, loading, close, settle, scan, step_kind, step_line, end_at, file_from, file_events}
use Rattle.plain.proofs.LineScan.{line-file}
use Rattle.plain.proofs.LastRow.{Counts, next_counts}
use Rattle.plain.proofs.Pieces.{file-nil}

-- ---- A LINE BEHIND ROW ONE has no LF in it, is not empty and is no opener.

abbrev pub IsBehind : Kind → Type 0
IsBehind Empty = ⊥
IsBehind Opener = ⊥
IsBehind Detail = Unit {0}
IsBehind Other = Unit {0}

pub record LineBehind (s : Bytes) : Type 0 where
  pub no_lf : NoLf s
  pub kind : IsBehind (kind_of (ended_line s).body)

abbrev pub AllBehind : List Bytes → Type 0
AllBehind [] = Unit {0}
AllBehind (s ∷ ss) = LineBehind s × AllBehind ss

-- ---- LINE BY LINE

module _ (R : Rules) where
  -- as long as a row is due
  step-takes : (n : ℕ) (l : Line) (first : ℕ) (so_far : Rows) → IsBehind (kind_of l.body)
      → step_line R n l (takes_rows first so_far) ≡ settle first n (R.row_next so_far l)
  unfolding step_line step_kind
  step-takes n l first so_far = go (kind_of l.body)
    where
      go : (k : Kind) → IsBehind k → step_kind R k n l (takes_rows first so_far) ≡ settle first n (R.row_next so_far l)
      go Empty h = absurd h
      go Opener h = absurd h
      go Detail h = refl
      go Other h = refl

  -- a refusal stays
  from-refused : (ls : List Line) (v m d : ℕ) → rows_from R ls (refused_with v m d) ≡ refused_with v m d
  unfolding rows_from
  from-refused [] v m d = refl
  from-refused (l ∷ ls) v m d = refl

  -- no line is left: the record loads at finish
  waits_end : (ss : List Bytes) (n first : ℕ) (q r : Record) → length ss ≡ 0 → rows_from R (map ended_line ss) (complete q) ≡ complete r
      → file_from R (scan [] n (waits first n q)) (text_of ss) ≡ loading first (n + length ss) r ∷ []
  unfolding text_of rows_from end_at close
  waits_end [] n first q r h e =
      let same : q ≡ r = cc in
      let here : n + 0 ≡ n = omega arith in
      rw (here, same) (file-nil R (scan [] n (waits first n r)))
  waits_end (s ∷ ss) n first q r h e = absurd (omega arith)

module _ (reg : Bytes) where
  -- the lines that are left are those that the day still has: none is surplus, for the record is complete only with the last
  rows-load : (ss : List Bytes) (n first : ℕ) (so_far : Rows) (r : Record) → AllBehind ss
      → rows_from (rules_of reg) (map ended_line ss) (goes_on so_far) ≡ complete r → so_far.behind_one + length ss ≡ header_rows + so_far.due
      → file_from (rules_of reg) (scan [] n (takes_rows first so_far)) (text_of ss) ≡ loading first (n + length ss) r ∷ []
  unfolding text_of rows_from settle
  rows-load [] n first so_far r h e all = absurd (let z : ◌≡◌ {A = ℕ} 0 1 = cc in omega arith)
  rows-load (s ∷ ss) n first so_far r h e all =
      line-file (rules_of reg) n (takes_rows first so_far) [] s h.0.no_lf (text_of ss)
      ∙ rw (step-takes (rules_of reg) (suc n) (ended_line s) first so_far h.0.kind)
      (go ((rules_of reg).row_next so_far (ended_line s)) (next_counts reg so_far (ended_line s)) e (λ next. rows-load ss (suc n) first next r h.1))
    where
      here : suc n + length ss ≡ n + suc (length ss)
      here = omega arith

      go : (x : Row) → Counts so_far x → rows_from (rules_of reg) (map ended_line ss) x ≡ complete r
          → ((next : Rows) → rows_from (rules_of reg) (map ended_line ss) (goes_on next) ≡ complete r → next.behind_one + length ss ≡ header_rows + next.due
          → file_from (rules_of reg) (scan [] (suc n) (takes_rows first next)) (text_of ss) ≡ loading first (suc n + length ss) r ∷ [])
          → (settle first (suc n) x).events ++ file_from (rules_of reg) (scan [] (suc n) (settle first (suc n) x).unit) (text_of ss)
          ≡ loading first (n + suc (length ss)) r ∷ []
      go (refused_with v m d) c q ih =
          absurd (let f = from-refused (rules_of reg) (map ended_line ss) v m d in let z : ◌≡◌ {A = ℕ} 0 1 = cc in omega arith)
      go (goes_on next) c q ih = rw here at (ih next q (omega arith))
      go (complete p) c q ih = rw here at (waits_end (rules_of reg) ss (suc n) first p r (omega arith) q)

  -- a record that is a whole file: it loads at finish, by line 1 and its last row's line
  pub record-loads : (one : Bytes) (ss : List Bytes) (begun : Rows) (r : Record) → NoLf one → kind_of (ended_line one).body ≡ Opener
      → (rules_of reg).row_one (ended_line one) ≡ goes_on begun → begun.behind_one + length ss ≡ header_rows + begun.due → AllBehind ss
      → rows_from (rules_of reg) (map ended_line ss) ((rules_of reg).row_one (ended_line one)) ≡ complete r
      → file_events (rules_of reg) (text_of (one ∷ ss)) ≡ loading 1 (suc (length ss)) r ∷ []
  unfolding file_events text_of step_line step_kind close settle
  record-loads one ss begun r clean opens begins all behind e =
      let here : 1 + length ss ≡ suc (length ss) = omega arith in
      line-file (rules_of reg) 0 no_unit [] one clean (text_of ss)
      ∙ rw (opens, begins) (rw here at (rows-load ss 1 1 begun r behind (rw begins at e) all))
