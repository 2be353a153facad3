-- A whole detail line, interval after interval, and that the row's rule gives the same for it.
-- Assumes nothing.
use Rattle.std.proofs.Common.{◌≡◌, ℕ, suc, ◌+◌, ◌*◌, ◌/◌, ◌%◌, ◌<◌, ◌≤◌, Bool, true, false, List, [], ◌∷◌, ◌++◌, length, get_or, take, drop, sym, refl, ap, ◌∙◌, append_assoc, append-nil, add-one, arith, length-take, length-take-le, get_or-take, take-suc, take-take, take-add, le-ltb, eq-eqb, Option, Some, None, set, length-set, take_all, slice_range, ◌-◌, length-drop}
use Rattle.std.proofs.lemmas.List.{take_more_set}
use Rattle.text.specs.Byte.{Bytes, every, equals, starts_with}
use Rattle.text.specs.Field.{comma, cut, in_front}
use Rattle.text.specs.Number.{digits_of}
use Rattle.text.proofs.Truth.{and_left, and_right}
use Rattle.text.proofs.Class.{digit_of}
use Rattle.text.proofs.Equal.{equals_refl}
use Rattle.lines.specs.Line.{CR, not_lf, ended_line, cr_size, is_long, line_limit, kind_of}
use Rattle.lines.proofs.Ended.{ended-plain, ended-cr}
use Rattle.report.specs.Outcome.{passed}
use Rattle.lines.specs.Row.{fields_of}
use Rattle.text.specs.Byte.{is_empty}
use Rattle.details.specs.Value.{value_of}
use Rattle.details.specs.Detail.{per_row, detail_code, status_of, with_empty, interval_of, four_of, detail_of, row_detail}
use Rattle.details.specs.declared.detail.Interval.{Interval}
use Rattle.direct.specs.Direct.{DetailLine, direct_says}
use Rattle.direct.specs.declared.Line.{Line}
use Rattle.direct.specs.Guess.{code_size, span_size, tail_size, triple_size, tail, status_byte, in_value, HasTriple, EndsAt}
use Rattle.text.proofs.Class.{every_append}
use Rattle.direct.proofs.Every.{in_line, plain-comma, plain-line, line-lf, line-cr}

-- ONE INTERVAL: s is its text, and then the rest
pub record Next (s : Bytes) (i : Interval) (rest : Bytes) : Type 0 where
  pub value : Bytes
  pub plain : every in_value value ≡ true
  pub worth : value_of value ≡ passed i.wh
  pub text : s ≡ value ++ (tail (status_byte i.estimated) ++ rest)

-- a field without a comma in it, and its comma
cut-plain : (v r : Bytes) → every in_value v ≡ true → cut (v ++ comma ∷ r) ≡ v ∷ cut r
unfolding cut every
cut-plain [] r h = refl
cut-plain (b ∷ v) r h = rw (plain-comma b (and_left (in_value b) (every in_value v) h)) (ap (in_front b) (cut-plain v r (and_right (in_value b) (every in_value v) h)))

-- both statuses, computed
status-cut : (e : Bool) (r : Bytes) → cut (status_byte e ∷ comma ∷ comma ∷ r) ≡ (status_byte e ∷ []) ∷ [] ∷ cut r
unfolding cut
status-cut true r = refl
status-cut false r = refl

status_clean : (e : Bool) (r : Bytes) → every in_line r ≡ true → every in_line (tail (status_byte e) ++ r) ≡ true
unfolding every
status_clean true r h = h
status_clean false r h = h

status_interval : (n : ℕ) (e : Bool) (v : Bytes) → value_of v ≡ passed n → interval_of v (status_byte e ∷ []) [] ≡ passed (record { wh = n; estimated = e })
unfolding interval_of with_empty status_of equals is_empty
status_interval n true v h = rw h
status_interval n false v h = rw h

module _ (s : Bytes) (i : Interval) (rest : Bytes) (next : Next s i rest) where
  next-cut : cut s ≡ next.value ∷ (status_byte i.estimated ∷ []) ∷ [] ∷ cut rest
  next-cut = rw (next.text, cut-plain next.value (status_byte i.estimated ∷ comma ∷ comma ∷ rest) next.plain, status-cut i.estimated rest)

  next_interval : interval_of next.value (status_byte i.estimated ∷ []) [] ≡ passed i
  next_interval = status_interval i.wh i.estimated next.value next.worth

  next-clean : every in_line rest ≡ true → every in_line s ≡ true
  next-clean h =
      rw next.text
      (every_append in_line next.value (tail (status_byte i.estimated) ++ rest) (plain-line next.value next.plain) (status_clean i.estimated rest h))

  next_more : (x : Bytes) → Next (s ++ x) i (rest ++ x)
  next_more x = record {
    value = next.value;
    plain = next.plain;
    worth = next.worth;
    text = rw (next.text, append_assoc next.value (tail (status_byte i.estimated) ++ rest) x);
  }

-- SEVERAL INTERVALS, and nothing behind them
pub Gives : Bytes → List Interval → Type 0
Gives s [] = s ≡ []
Gives s (i ∷ is) = (rest : Bytes) × (Next s i rest) × (Gives rest is)

-- one more, x
gives_more : (s : Bytes) (is : List Interval) (x : Bytes) (i : Interval) → Gives s is → Next x i [] → Gives (s ++ x) (is ++ i ∷ [])
unfolding Gives
gives_more s [] x i g n = ([], rw g n, refl)
gives_more s (j ∷ is) x i g n = (g.0 ++ x, next_more s j g.0 g.1 x, gives_more g.0 is x i g.2 n)

gives-clean : (s : Bytes) (is : List Interval) → Gives s is → every in_line s ≡ true
unfolding Gives every
gives-clean s [] g = rw g
gives-clean s (i ∷ is) g = next-clean s i g.0 g.1 (gives-clean g.0 is g.2)

gives-count : (s : Bytes) (is : List Interval) → Gives s is → length (cut s) ≡ 3 * length is + 1
unfolding Gives cut
gives-count s [] g = rw g
gives-count s (i ∷ is) g = rw (next-cut s i g.0 g.1) (omega (arith, gives-count g.0 is g.2))

gives_detail : (code s : Bytes) (row : List Interval) → length row ≡ per_row → Gives s row → detail_of (code ∷ cut s) ≡ passed row
unfolding Gives detail_of four_of is_empty cut
gives_detail code s (a ∷ b ∷ c ∷ d ∷ []) long g =
    let g₂ = g.2 in
    let g₃ = g₂.2 in
    let g₄ = g₃.2 in
    let last : cut g₄.0 ≡ [] ∷ [] = rw g₄.2 in
    rw (
      next-cut s a g.0 g.1,
      next-cut g.0 b g₂.0 g₂.1,
      next-cut g₂.0 c g₃.0 g₃.1,
      next-cut g₃.0 d g₄.0 g₄.1,
      last,
      next_interval s a g.0 g.1,
      next_interval g.0 b g₂.0 g₂.1,
      next_interval g₂.0 c g₃.0 g₃.1,
      next_interval g₃.0 d g₄.0 g₄.1,
    )
gives_detail code s [] long g = absurd (omega (arith, long))
gives_detail code s (a ∷ []) long g = absurd (omega (arith, long))
gives_detail code s (a ∷ b ∷ []) long g = absurd (omega (arith, long))
gives_detail code s (a ∷ b ∷ c ∷ []) long g = absurd (omega (arith, long))
gives_detail code s (a ∷ b ∷ c ∷ d ∷ e ∷ is) long g = absurd (omega (arith, long))

-- THE LINE AS FAR AS READ: the code due, its comma, and the text of these intervals
pub record LineSoFar (k : ℕ) (t : Bytes) (at : ℕ) (is : List Interval) : Type 0 where
  pub rest : Bytes
  pub text : take at t ≡ detail_code k ++ comma ∷ rest
  pub gives : Gives rest is

line-first : (k : ℕ) (t : Bytes) (r : Bool) → (r ≡ true → take code_size t ≡ detail_code k ++ comma ∷ []) → r ≡ true → LineSoFar k t code_size []
unfolding Gives
line-first k t r h hr = record { rest = []; text = h hr; gives = refl }

-- `chunk` is the front of what is left
line_on : (k : ℕ) (t chunk : Bytes) (at size : ℕ) (is : List Interval) (i : Interval) → LineSoFar k t at is → chunk ≡ take triple_size (drop at t)
    → HasTriple chunk i size → LineSoFar k t (at + size) (is ++ i ∷ [])
line_on k t chunk at size is i so_far front h =
    let n : ℕ = h.n in
    let x : Bytes = take (n + tail_size) (drop at t) in
    let e : size ≡ n + tail_size = h.ends in
    let whole : take (n + tail_size) chunk ≡ x = rw front (take-take (n + tail_size) triple_size (drop at t) (omega (arith, h.value.short))) in
    let cut : x ≡ take n chunk ++ tail (status_byte i.estimated) = sym whole ∙ rw (take-add n tail_size chunk, h.behind) in
    let next : Next x i [] = record { value = take n chunk; plain = h.value.plain; worth = h.value.value; text = cut } in
    record {
      rest = so_far.rest ++ x;
      text = rw (e, take-add at (n + tail_size) t, so_far.text, append_assoc (detail_code k) (comma ∷ so_far.rest) x);
      gives = gives_more so_far.rest is x i so_far.gives next;
    }

-- THE LINE READ: it is not long
code_plain : (k : ℕ) → every in_value (detail_code k) ≡ true
unfolding digits_of every
code_plain k = rw (digit_of _ (k / 10 % 10) refl (omega arith), digit_of _ (k % 10) refl (omega arith))

size-cr : (cr : Bool) → cr_size cr ≤ 1
size-cr true = omega arith
size-cr false = omega arith

module _ (k : ℕ) (t : Bytes) (at : ℕ) (row : List Interval) (long : length row ≡ per_row) (so_far : LineSoFar k t at row) where
  line : Bytes
  line = detail_code k ++ comma ∷ so_far.rest

  line_clean : every in_line line ≡ true
  unfolding line every
  line_clean =
      every_append in_line (detail_code k) (comma ∷ so_far.rest) (plain-line (detail_code k) (code_plain k)) (gives-clean so_far.rest _ so_far.gives)

  line-cut : cut line ≡ detail_code k ∷ cut so_far.rest
  unfolding line
  line-cut = cut-plain (detail_code k) so_far.rest (code_plain k)

  line_row : (cr : Bool) → length line + cr_size cr ≤ line_limit → row_detail k (record { body = line; cr = cr }) ≡ passed row
  unfolding row_detail fields_of is_long
  line_row cr l =
      rw (
        le-ltb line_limit (length line + cr_size cr) l,
        line-cut,
        equals_refl (detail_code k),
        eq-eqb (suc (length (cut so_far.rest))) 14 (omega (arith, gives-count so_far.rest row so_far.gives, long)),
      )
      (gives_detail (detail_code k) so_far.rest row long so_far.gives)

  -- with the bytes of its CR, if it has one
  cr_bytes : Bool → Bytes
  cr_bytes true = CR ∷ []
  cr_bytes false = []

  line-ended : (cr : Bool) → ended_line (line ++ cr_bytes cr) ≡ record { body = line; cr = cr }
  unfolding cr_bytes
  line-ended true = ended-cr line
  line-ended false = rw append-nil (ended-plain line (line-cr line line_clean))

  line_no_lf : (cr : Bool) → every not_lf (line ++ cr_bytes cr) ≡ true
  unfolding cr_bytes every
  line_no_lf true = every_append not_lf line (CR ∷ []) (line-lf line line_clean) refl
  line_no_lf false = rw append-nil (line-lf line line_clean)

  line-text : (n : ℕ) (cr : Bool) → at < length t → n ≡ at + cr_size cr → (cr ≡ true → get_or t at 0 ≡ CR) → take n t ≡ line ++ cr_bytes cr
  unfolding line cr_bytes
  line-text n true within e g = rw (e, add-one at, take-suc t at 0 within, so_far.text, g refl)
  line-text n false within e g =
      let z : at + 0 ≡ at = omega arith in
      rw (e, z, append-nil) so_far.text

  line_read : (n : ℕ) → EndsAt t at n → at + 1 < length t → length t ≤ line_limit → DetailLine k t row n
  unfolding line kind_of starts_with
  line_read n ends within short =
      let cr : Bool = ends.cr in
      let text : take n t ≡ line ++ cr_bytes cr = line-text n cr (omega arith) ends.behind ends.dropped in
      let size : length line ≡ at = ap length (sym so_far.text) ∙ length-take-le at t (omega arith) in
      record {
        within = omega (arith, ends.behind, size-cr cr);
        ends = ends.lf;
        clean = rw text (line_no_lf cr);
        kind = rw text;
        row = rw (text, line-ended cr) (line_row cr (omega (arith, size, size-cr cr)));
      }

-- THE LOOP of the reader: i intervals are read, and there is room for those that are left
pub record RowSoFar (k : ℕ) (t : Bytes) (at i : ℕ) (row : List Interval) : Type 0 where
  pub long : length row ≡ per_row
  pub read : LineSoFar k t at (take i row)
  pub near : at ≤ code_size + i * triple_size

pub row-first : (k : ℕ) (t : Bytes) (r : Bool) → (r ≡ true → take code_size t ≡ detail_code k ++ comma ∷ []) → r ≡ true
    → (row : List Interval) → length row ≡ per_row → RowSoFar k t code_size 0 row
row-first k t r h hr row long = record { long = long; read = line-first k t r h hr; near = omega arith }

module _ (k : ℕ) (t : Bytes) (at i : ℕ) (row : List Interval) (so_far : RowSoFar k t at i row) where
  pub row-on : i < per_row → (chunk : Bytes) → chunk ≡ take (at + triple_size - at) (drop at t) → (v : Interval) (size : ℕ) → HasTriple chunk v size
      → RowSoFar k t (at + size) (i + 1) (set row i v)
  row-on more chunk is v size h =
      let z : at + triple_size - at ≡ triple_size = omega arith in
      record {
        long = rw (length-set row i v) so_far.long;
        read = rw (take_more_set row i v (omega (arith, so_far.long))) (line_on k t chunk at size (take i row) v so_far.read (rw z at is) h);
        near = omega (arith, so_far.near, h.ends, h.value.short);
      }

  pub row-done : length t ≡ span_size → i ≡ per_row → (n : ℕ) → EndsAt t at n → DetailLine k t row n
  row-done full all n ends =
      let whole : take i row ≡ row = take_all i row (omega (arith, so_far.long)) in
      line_read k t at row so_far.long (rw whole at so_far.read) n ends (omega (arith, so_far.near)) (omega arith)

-- A LINE OF THE SPAN is a line of the piece
wider : (k m n : ℕ) (s : Bytes) (is : List Interval) → DetailLine k (take m s) is n → DetailLine k s is n
wider k m n s is l =
    let w : n < m = omega (arith, l.within, length-take m s) in
    let e : take n (take m s) ≡ take n s = take-take n m s (omega arith) in
    record {
      within = omega (arith, l.within, length-take m s);
      ends = sym (get_or-take m s n 0 w) ∙ l.ends;
      clean = rw e at l.clean;
      kind = rw e at l.kind;
      row = rw e at l.row;
    }

-- `rest` is the piece from a place on, and `span` the front of it
pub span-said : (piece rest span : Bytes) (at m : ℕ) (r : Option Line) (k : ℕ) → rest ≡ slice_range piece at (length piece) → span ≡ take m rest
    → direct_says r k span → direct_says r k (drop at piece)
span-said piece rest span at m r k er es says =
    go r (rw (es, er, take_all (length piece - at) (drop at piece) (simp length-drop (omega arith))) at says)
  where
    go : (r : Option Line) → direct_says r k (take m (drop at piece)) → direct_says r k (drop at piece)
    go (Some line) h = wider k m line.size (drop at piece) line.row h
    go None h = tt
