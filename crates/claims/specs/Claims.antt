-- EVERYTHING THAT IS CLAIMED of the calls, over the calls that programs make. proofs/Claims.antt proves each.
--
-- A call here has met its contract, as the toolchain makes it of the source (crate calls): so a changed `ensures` breaks the claim. A changed `requires` breaks
-- `nothing_asked`: whoever has the arguments can make each call. What a single call returns, refusals too, is its own `ensures`; what is claimed here follows
-- from them.
-- Assumes nothing.
use Rattle.std.specs.Prelude.{◌≡◌, List, map, true, take}
use Rattle.text.specs.Byte.{Bytes}
use Rattle.cell.specs.Layout.{Words}
use Rattle.report.specs.Outcome.{passed}
use Rattle.report.specs.Refusal.{done}
use Rattle.registry.specs.Index.{meter_at}
use Rattle.cells.specs.Sound.{sound_cell}
use Rattle.plain.specs.Rows.{rules_of}
use Rattle.plain.specs.Promise.{Made}
use Rattle.plain.specs.Claim.{Demand3, finish_done, OnlyFinish, taken_by}
use Rattle.roundtrip.specs.RoundTrip.{Cleared, loading_flags, ReadsBack}
use Rattle.page.specs.Laid.{Laid}
use Rattle.claims.specs.Library.{Library, Written, Linked}

-- the calls in the plain loader's terms
abbrev pub calls_told : (L : Library) → List L.Call → List Made
calls_told L cs = map (λ c. L.told c) cs

-- A REFUSED CALL CHANGES NOTHING: not the state that it was lent, no word of the table, no entry of the report.
pub record Unchanged (L : Library) (c : L.Call) : Type 0 where
  pub state : L.after c ≡ L.before c
  pub table : L.table_after c ≡ L.table c
  pub report : L.SameReport c

abbrev pub RefusedChangesNothing : Library → Type 2
RefusedChangesNothing L = (c : L.Call) → L.Met c → ¬ ((L.told c).number ≡ done) → Unchanged L c

-- and one of Write no byte of the output
abbrev pub RefusedWritesNothing : Library → Type 2
RefusedWritesNothing L = (k : L.Write) → L.WriteMet k → ¬ ((L.written k).number ≡ done) → (L.written k).after ≡ (L.written k).before

-- THERE IS ONE FRESH STATE: a call of fresh makes it, and a finish that is done leaves it, so that the next file may begin.
abbrev pub FreshIsFresh : Library → Type 2
FreshIsFresh L = (k : L.FreshCall) → L.FreshMet k → L.number k ≡ done → L.made k ≡ L.fresh

abbrev pub FinishStartsAnew : Library → Type 2
FinishStartsAnew L = (c : L.Call) → L.Met c → finish_done (L.told c).asked (L.told c).number ≡ true → L.after c ≡ L.fresh

-- DEMAND 3, by plain/specs/Claim: a bad record costs its own day and no other. It holds of every list of calls of feed and finish, refused ones included, over
-- one registry, from the fresh state, over any table.
abbrev pub EachDayByItself : Library → Type 2
EachDayByItself L = (reg : Bytes) (t : Words) (cs : List L.Call) → Linked L reg L.fresh t cs → Demand3 (rules_of reg) t (calls_told L cs)

-- THE ROUND TRIP, by roundtrip/specs/RoundTrip: what a call of Write put out, of a meter whose records load, reads back to the cell that it was written from,
-- whichever list of calls takes its bytes, over a cleared table.
pub record ReadBack (L : Library) (w : Written) (cleared : Words) (cs : List L.Call) : Type 0 where
  pub words : Words
  pub cell : sound_cell w.registry w.table w.meter w.channel w.day ≡ passed words
  pub reads_back : ReadsBack w.registry w.meter w.channel w.day words cleared (calls_told L cs)

abbrev pub WrittenReadsBack : Library → Type 2
WrittenReadsBack L =
    (k : L.Write) → L.WriteMet k → (L.written k).number ≡ done
    → (meter_at (L.written k).registry (L.written k).meter).flags ≡ loading_flags
    → (cleared : Words) → Cleared cleared → (cs : List L.Call) → Linked L (L.written k).registry L.fresh cleared cs
    → OnlyFinish (calls_told L cs) → taken_by (calls_told L cs) ≡ take (L.written k).count (L.written k).after
    → ReadBack L (L.written k) cleared cs

-- THE PAGES, by page/specs/Laid (document 02, S-2): a call of page that is done has put out each entry on exactly one page, in report order, and nothing else
-- but headings and spaces; a refused one changes no byte.
abbrev pub EachEntryOnAPage : Library → Type 2
EachEntryOnAPage L =
    (k : L.Page) → L.PageMet k → (L.paged k).number ≡ done → Laid (L.paged k).report (L.paged k).count (L.paged k).before (L.paged k).after

abbrev pub RefusedPagesNothing : Library → Type 2
RefusedPagesNothing L = (k : L.Page) → L.PageMet k → ¬ ((L.paged k).number ≡ done) → (L.paged k).after ≡ (L.paged k).before

pub record Claims (L : Library) : Type 2 where
  pub nothing_asked : L.NothingAsked
  pub refused : RefusedChangesNothing L
  pub refused_writes : RefusedWritesNothing L
  pub fresh : FreshIsFresh L
  pub finish : FinishStartsAnew L
  pub each_day_by_itself : EachDayByItself L
  pub written_reads_back : WrittenReadsBack L
  pub each_entry_on_a_page : EachEntryOnAPage L
  pub refused_pages : RefusedPagesNothing L
