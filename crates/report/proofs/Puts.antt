-- An entry put as five words behind those that are there.
-- Assumes nothing.
use mathlib.Core.Path.{◌≡◌}
use mathlib.Core.List.{List, [], ◌∷◌, ◌++◌}
use Prim.Native.Nat.{ℕ, ◌+◌, ◌*◌, ◌<◌}
use native.Mathlib.Omega.{arith}
use native.Mathlib.Numerals.{add-one}
use lib.ListN.{length, get_or}
use borrow.Author.Rules.{rules}
use borrow.Rule.Slice.PartMut.{put_mid}
use Rattle.std.proofs.lemmas.List.{places}
use Rattle.report.specs.declared.Entry.{Entry}
use Rattle.report.specs.Words.{per_entry, first_entries, words_of}
use Rattle.report.proofs.Entries.{entries-agree}

module _ (w ws : List ℕ) (n k : ℕ) (e : Entry) (fits : n * per_entry + 4 < length w) (whole : k ≡ per_entry) (put : ws ≡ words_of e) where
  abbrev with_entry : List ℕ
  with_entry = put_mid (n * per_entry) k w ws

  word-put : (i j : ℕ) → i ≡ n * per_entry + j → j < per_entry → get_or with_entry i 0 ≡ get_or (words_of e) j 0
  word-put i j at h = rw (at, put, whole) (search (rules, places))

  pub put-entry : first_entries (n + 1) with_entry ≡ first_entries n w ++ (e ∷ [])
  unfolding first_entries
  put-entry =
      rw (
        add-one,
        entries-agree n with_entry w (λ i p. rw (put, whole) (search (rules, places))),
        word-put (n * per_entry) 0 (omega arith) (omega arith),
        word-put (n * per_entry + 1) 1 (omega arith) (omega arith),
        word-put (n * per_entry + 2) 2 (omega arith) (omega arith),
        word-put (n * per_entry + 3) 3 (omega arith) (omega arith),
        word-put (n * per_entry + 4) 4 (omega arith) (omega arith),
      )
