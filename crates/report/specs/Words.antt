-- Entries, and entries as words, five each.
-- Assumes nothing.
use Rattle.std.specs.Prelude.{List, [], ◌∷◌, ◌++◌, ℕ, zero, suc, ◌+◌, ◌*◌, ◌/◌, length, get_or}
use Rattle.report.specs.declared.Entry.{Entry}

-- document 01's entry: first line, verdict, deciding line, meter, day
abbrev pub entry_of : ℕ → ℕ → ℕ → ℕ → ℕ → Entry
entry_of first verdict at meter day = record { first = first; verdict = verdict; at = at; meter = meter; day = day }

abbrev pub per_entry : ℕ
per_entry = 5

abbrev pub words_of : Entry → List ℕ
words_of e = e.first ∷ e.verdict ∷ e.at ∷ e.meter ∷ e.day ∷ []

abbrev pub entry_at : List ℕ → ℕ → Entry
entry_at w n =
    entry_of (get_or w (n * per_entry) 0) (get_or w (n * per_entry + 1) 0) (get_or w (n * per_entry + 2) 0) (get_or w (n * per_entry + 3) 0)
    (get_or w (n * per_entry + 4) 0)

-- the first n entries that words are
unfoldable pub first_entries : ℕ → List ℕ → List Entry
first_entries zero w = []
first_entries (suc n) w = first_entries n w ++ (entry_at w n ∷ [])

-- A report of entries is itself the entries; one of words has as many as there is room for.
abbrev pub itself : List Entry → List Entry
itself report = report

abbrev pub places_in : List ℕ → ℕ
places_in w = length w / per_entry

abbrev pub report_in : List ℕ → List Entry
report_in w = first_entries (places_in w) w
