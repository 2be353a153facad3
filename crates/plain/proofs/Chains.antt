-- Every list of calls, each with any report, has a chain: the claim is about something.
-- Assumes nothing.
use mathlib.Core.List.{List, [], ◌∷◌, ◌++◌}
use mathlib.Core.Path.{refl}
use lib.ListN.{length, drop}
use Rattle.cell.specs.Layout.{Words}
use Rattle.plain.specs.Call.{Asked}
use Rattle.plain.specs.Loader.{entries_of, loads_of}
use Rattle.plain.specs.Promise.{View, Coded, Made, code_call, Chain}
use Rattle.plain.specs.Rows.{Rules}
use Rattle.plain.specs.Table.{load_all}
use Rattle.report.specs.declared.Entry.{Entry}

module _ (R : Rules) where
  -- a call made as its promise says
  unfoldable pub made : View → Words → Asked → List Entry → Made
  made s t a report =
      let d : Coded = code_call R (length t) s (record { asked = a; room = length report }) in
      record {
        asked = a;
        report = report;
        number = d.number;
        count = length d.events;
        after = d.next;
        table = load_all R t (loads_of d.events);
        written = entries_of d.events ++ drop (length d.events) report;
      }

  unfoldable pub made_all : List (Asked × List Entry) → View → Words → List Made
  made_all [] s t = []
  made_all (c ∷ cs) s t = made s t c.0 c.1 ∷ made_all cs (made s t c.0 c.1).after (made s t c.0 c.1).table

  pub chain_made : (cs : List (Asked × List Entry)) (s : View) (t : Words) → Chain R s t (made_all cs s t)
  unfolding Chain made_all made
  chain_made [] s t = tt
  chain_made (c ∷ cs) s t = (
    record { number = refl; count = refl; after = refl; table = refl; written = refl },
    chain_made cs (made s t c.0 c.1).after (made s t c.0 c.1).table,
  )
