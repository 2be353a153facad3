-- Entries put into a report of entries, and into one of words.
--     none-pasted, one-pasted            putting entries one by one
--     pasted-left                        behind those that were put a report is as it was
--     copied-entries, copied-behind      a batch's words put into a report of words: the entries that it then is, and what is behind them
-- Assumes nothing.
use mathlib.Core.Path.{◌≡◌, refl, sym, ap, ◌∙◌}
use mathlib.Core.List.{List, [], ◌∷◌, ◌++◌, append_assoc, append-nil}
use Prim.Native.Nat.{ℕ, zero, suc, ◌+◌, ◌-◌, ◌*◌, ◌/◌, ◌<◌, ◌≤◌}
use native.Mathlib.Nat.{add-zero, add-suc}
use native.Mathlib.Numerals.{add-one}
use native.Mathlib.Omega.{arith}
use lib.ListN.{length, get_or, set, take, drop, length-append, length-drop, take-append-drop}
use lib.Seq.{set_at, drop-cons, append_snoc, length-take-le, take_at, drop_at, get_or-drop, drop-drop, drop-append-add, take_all}
use borrow.Rule.Slice.PartMut.{put_mid}
use Rattle.report.specs.Words.{per_entry, entry_at, first_entries}
use Rattle.report.specs.declared.Entry.{Entry}
use Rattle.cell.specs.Layout.{Words}
use Rattle.report.proofs.Entries.{entries-count, entries-take}
use Rattle.report.specs.Words.{places_in, report_in}
use Rattle.loader.specs.Report.{words_left, pasted}

-- ---- OF ENTRIES

pub none-pasted : (xs : List Entry) (at : ℕ) (ws : Words) → xs ≡ pasted xs at (first_entries 0 ws)
unfolding first_entries pasted
none-pasted xs at ws =
    sym (ap (λ l. l ++ drop (at + 0) xs) (append-nil (take at xs)) ∙ ap (λ k. take at xs ++ drop k xs) (add-zero at) ∙ take-append-drop at xs)

pasted-more : (xs : List Entry) (at n : ℕ) (es : List Entry) (e : Entry) → length es ≡ n → at + n < length xs
    → set (pasted xs at es) (at + n) e ≡ pasted xs at (es ++ (e ∷ []))
unfolding pasted
pasted-more xs at n es e l within =
    let front : length (take at xs ++ es) ≡ at + n = length-append (take at xs) es ∙ ap (λ k. k + length es) (length-take-le at xs (omega (arith, within))) ∙ ap (λ k. at + k) l in
    let rest : drop (at + length es) xs ≡ get_or xs (at + n) e ∷ drop (suc (at + n)) xs = ap (λ k. drop (at + k) xs) l ∙ drop-cons xs (at + n) e within in
    let past : suc (at + n) ≡ at + length (es ++ (e ∷ [])) = omega (arith, length-append es (e ∷ []), l) in
    ap (λ t. set (take at xs ++ es ++ t) (at + n) e) rest
    ∙ set_at (take at xs ++ es) (get_or xs (at + n) e) (drop (suc (at + n)) xs) e (at + n) front
    ∙ sym (append_snoc (take at xs ++ es) e (drop (suc (at + n)) xs))
    ∙ ap (λ t. t ++ drop (suc (at + n)) xs) (append_assoc (take at xs) es (e ∷ []))
    ∙ ap (λ k. take at xs ++ (es ++ (e ∷ [])) ++ drop k xs) past

pub one-pasted : (xs : List Entry) (at i : ℕ) (ws : Words) → at + i < length xs
    → set (pasted xs at (first_entries i ws)) (at + i) (entry_at ws i) ≡ pasted xs at (first_entries (i + 1) ws)
unfolding first_entries
one-pasted xs at i ws within =
    pasted-more xs at i (first_entries i ws) (entry_at ws i) (entries-count i ws) within ∙ ap (λ k. pasted xs at (first_entries k ws)) (sym (add-one i))

-- behind entries that were put a report is as it was
pub pasted-left : (xs : List Entry) (at : ℕ) (es : List Entry) (n : ℕ) → at ≤ length xs → at + length es ≤ n → drop n (pasted xs at es) ≡ drop n xs
unfolding pasted
pasted-left xs at es n within behind =
    let front : length (take at xs ++ es) ≡ at + length es = length-append (take at xs) es ∙ ap (λ k. k + length es) (length-take-le at xs within) in
    let k : ℕ = n - (at + length es) in
    let a : n ≡ length (take at xs ++ es) + k = omega (arith, front) in
    let b : at + length es + k ≡ n = omega arith in
    ap (λ m. drop m ((take at xs ++ es) ++ drop (at + length es) xs)) a
    ∙ drop-append-add (take at xs ++ es) (drop (at + length es) xs) k
    ∙ drop-drop k (at + length es) xs
    ∙ ap (λ m. drop m xs) b

-- entries put behind those that are there, and from the front on
pub paste-behind : (es fs r₀ : List Entry) → pasted (es ++ drop (length es) r₀) (length es) fs ≡ (es ++ fs) ++ drop (length (es ++ fs)) r₀
unfolding pasted
paste-behind es fs r₀ =
    let n : ℕ = length es in
    let m : ℕ = length fs in
    let back : drop (n + m) (es ++ drop n r₀) ≡ drop (n + m) r₀
    = drop-append-add es (drop n r₀) m ∙ drop-drop m n r₀ in
    rw (take_at es (drop n r₀) n refl, back, length-append es fs)

pub paste-front : (es r₀ : List Entry) → pasted r₀ 0 es ≡ es ++ drop (length es) r₀
unfolding pasted
paste-front es r₀ =
    let n : 0 + length es ≡ length es = omega arith in
    rw n

-- ---- OF WORDS

word-drop : (a k i : ℕ) (w : Words) → i ≡ a + k → get_or (drop a w) k 0 ≡ get_or w i 0
word-drop a k i w e = get_or-drop a w k 0 ∙ ap (λ j. get_or w j 0) (sym e)

entry-drop : (a b : ℕ) (w : Words) → entry_at (drop (a * per_entry) w) b ≡ entry_at w (a + b)
entry-drop a b w =
    rw (
      word-drop (a * per_entry) (b * per_entry) ((a + b) * per_entry) w (omega arith),
      word-drop (a * per_entry) (b * per_entry + 1) ((a + b) * per_entry + 1) w (omega arith),
      word-drop (a * per_entry) (b * per_entry + 2) ((a + b) * per_entry + 2) w (omega arith),
      word-drop (a * per_entry) (b * per_entry + 3) ((a + b) * per_entry + 3) w (omega arith),
      word-drop (a * per_entry) (b * per_entry + 4) ((a + b) * per_entry + 4) w (omega arith),
    )

entries-split : (a b : ℕ) (w : Words) → first_entries (a + b) w ≡ first_entries a w ++ first_entries b (drop (a * per_entry) w)
unfolding first_entries
entries-split a zero w = ap (λ k. first_entries k w) (add-zero a) ∙ sym (append-nil (first_entries a w))
entries-split a (suc b) w =
    ap (λ k. first_entries k w) (add-suc a b)
    ∙ ap (λ l. l ++ (entry_at w (a + b) ∷ [])) (entries-split a b w)
    ∙ append_assoc (first_entries a w) (first_entries b (drop (a * per_entry) w)) (entry_at w (a + b) ∷ [])
    ∙ ap (λ e. first_entries a w ++ (first_entries b (drop (a * per_entry) w) ++ (e ∷ []))) (sym (entry-drop a b w))

-- the words of so many entries put behind those of the first so many
module _ (w words : Words) (from count : ℕ) (fits : from + count ≤ places_in w) (worded : count * per_entry ≤ length words) where
  abbrev at : ℕ
  at = from * per_entry

  abbrev n : ℕ
  n = count * per_entry

  abbrev mid : Words
  mid = take n words

  abbrev new : Words
  new = take at w ++ (mid ++ drop (at + n) w)

  -- which is what a copy into a part of the report leaves
  pub words-put : put_mid at n w mid ≡ new
  words-put = ap (λ l. take at w ++ (mid ++ l)) (drop-drop n at w)

  within : at + n ≤ length w
  within = omega (arith, fits)

  mid_long : length mid ≡ n
  mid_long = length-take-le n words worded

  front_long : length (take at w) ≡ at
  front_long = length-take-le at w (omega (arith, within))

  abbrev back : Words
  back = mid ++ drop (at + n) w

  new-long : length new ≡ length w
  new-long = omega (arith, length-append (take at w) back, length-append mid (drop (at + n) w), front_long, mid_long, length-drop (at + n) w, within)

  -- behind them the words are as they were
  left-from : (k : ℕ) → at + n ≤ k → drop k new ≡ drop k w
  left-from k behind =
      let j : ℕ = k - (at + n) in
      let a : k ≡ length (take at w) + (n + j) = omega (arith, front_long) in
      let b : n + j ≡ length mid + j = omega (arith, mid_long) in
      let c : at + n + j ≡ k = omega arith in
      ap (λ m. drop m new) a
      ∙ drop-append-add (take at w) back (n + j)
      ∙ ap (λ m. drop m back) b
      ∙ drop-append-add mid (drop (at + n) w) j
      ∙ drop-drop j (at + n) w
      ∙ ap (λ m. drop m w) c

  words-behind : (k : ℕ) → from + count ≤ k → words_left k new ≡ words_left k w
  words-behind k behind = left-from (k * per_entry) (omega arith)

  first-same : first_entries from new ≡ first_entries from w
  first-same = sym (entries-take from new) ∙ ap (first_entries from) (take_at (take at w) back at front_long) ∙ entries-take from w

  mid-same : first_entries count (drop at new) ≡ first_entries count words
  mid-same =
      ap (first_entries count) (drop_at (take at w) back at front_long)
      ∙ sym (entries-take count back)
      ∙ ap (first_entries count) (take_at mid (drop (at + n) w) n mid_long)
      ∙ entries-take count words

  abbrev rest : ℕ
  rest = places_in w - (from + count)

  all : from + count + rest ≡ places_in w
  all = omega (arith, fits)

  abbrev last : List Entry
  last = first_entries rest (drop ((from + count) * per_entry) w)

  new_is : report_in new ≡ first_entries from w ++ first_entries count words ++ last
  new_is =
      ap (λ k. first_entries (k / per_entry) new) new-long
      ∙ ap (λ k. first_entries k new) (sym all)
      ∙ entries-split (from + count) rest new
      ∙ ap (λ l. l ++ first_entries rest (drop ((from + count) * per_entry) new)) (entries-split from count new)
      ∙ ap (λ l. l ++ first_entries count (drop at new) ++ first_entries rest (drop ((from + count) * per_entry) new)) first-same
      ∙ ap (λ l. first_entries from w ++ l ++ first_entries rest (drop ((from + count) * per_entry) new)) mid-same
      ∙ ap (λ v. first_entries from w ++ first_entries count words ++ first_entries rest v) (left-from ((from + count) * per_entry) (omega arith))

  old_is : report_in w ≡ first_entries (from + count) w ++ last
  old_is = ap (λ k. first_entries k w) (sym all) ∙ entries-split (from + count) rest w

  old_first : take from (report_in w) ≡ first_entries from w
  old_first =
      let x : List Entry = first_entries count (drop at w) in
      ap (take from) (old_is ∙ ap (λ l. l ++ last) (entries-split from count w) ∙ append_assoc (first_entries from w) x last)
      ∙ take_at (first_entries from w) (x ++ last) from (entries-count from w)

  old_last : drop (from + length (first_entries count words)) (report_in w) ≡ last
  old_last =
      ap (λ k. drop (from + k) (report_in w)) (entries-count count words)
      ∙ ap (drop (from + count)) old_is
      ∙ drop_at (first_entries (from + count) w) last (from + count) (entries-count (from + count) w)

  words-pasted : report_in new ≡ pasted (report_in w) from (first_entries count words)
  unfolding pasted
  words-pasted =
      new_is
      ∙ ap (λ l. l ++ first_entries count words ++ last) (sym old_first)
      ∙ ap (λ l. take from (report_in w) ++ first_entries count words ++ l) (sym old_last)

-- and so a copy of all words of a batch into that part of a report leaves it
module _ (w words : Words) (batch : List Entry) (from k : ℕ) (fits : from + length batch ≤ length (report_in w))
    (are : first_entries (length batch) words ≡ batch) (as-many : length words ≡ length batch * per_entry) (all-of : k ≡ length words) where
  room : from + length batch ≤ places_in w
  room = omega (arith, fits, entries-count (places_in w) w)

  worded : length batch * per_entry ≤ length words
  worded = omega (arith, as-many)

  copied : put_mid (from * per_entry) k w words ≡ new w words from (length batch) room worded
  copied =
      rw (all-of, as-many)
      (ap (put_mid (from * per_entry) (length batch * per_entry) w) (sym (take_all (length batch * per_entry) words (omega (arith, as-many))))
      ∙ words-put w words from (length batch) room worded)

  pub copied-entries : report_in (put_mid (from * per_entry) k w words) ≡ pasted (report_in w) from batch
  copied-entries = ap report_in copied ∙ words-pasted w words from (length batch) room worded ∙ ap (pasted (report_in w) from) are

  pub copied-behind : (j : ℕ) → from + length batch ≤ j → words_left j (put_mid (from * per_entry) k w words) ≡ words_left j w
  copied-behind j behind = ap (words_left j) copied ∙ words-behind w words from (length batch) room worded j behind
