-- The usual rows two, three, four and thirty: a line whose parts stand at known places is put together from them, cut into its fields, and passes.
-- Assumes nothing.
use mathlib.Core.Path.{◌≡◌, refl, ap, sym, ◌∙◌}
use mathlib.Core.List.{List, [], ◌∷◌, ◌++◌}
use mathlib.Core.Bool.{Bool, true, false, ◌&&◌, ◌||◌}
use Prim.Native.Nat.{ℕ, ◌+◌, ◌-◌, ◌≤◌, ◌<◌}
use native.Mathlib.Omega.{arith}
use lib.Dec.{eqb, leb}
use lib.ListN.{length, take, drop, get_or, length-append, length-drop, take-append-drop}
use lib.Pointwise.{pointwise}
use denote.Ref.{Bor}
use lib.Seq.{drop-drop, length-take-le}
use borrow.Author.Tests.{eq-eqb, eqb-true, leb-true, le-ltb}
use Rattle.calendar.specs.Date.{is_date}
use Rattle.calendar.specs.Clock.{is_clock}
use Rattle.text.specs.Byte.{Bytes, ascii, is_digit, is_alnum, is_empty, every, equals, starts_with}
use Rattle.text.specs.Field.{cut}
use Rattle.text.specs.Number.{number_from, leading, behind}
use Rattle.text.specs.Identifier.{is_name, is_descriptor, is_duns, descriptor_size, duns_size}
use Rattle.text.proofs.Truth.{apart, and_left, and_right, and_each}
use Rattle.text.proofs.Left.{left-cons, left-whole}
use Rattle.text.proofs.Equal.{equals_path, equals_refl, starts_whole}
use Rattle.text.proofs.Comma.{digits-no-comma, alnum_no_comma, cut_field, cut-alone}
use Rattle.lines.specs.Line.{line_limit, cr_size, is_long}
use Rattle.std.specs.Prelude.{Option, None, Some}
use Rattle.std.specs.Bool.{then_some}
use Rattle.std.specs.Option.{MatchOption}
use Rattle.std.proofs.lemmas.Slice.Eq.{strip_prefix_is}
use Rattle.std.proofs.lemmas.Bool.Decides.{Decides-eqb}
use Rattle.report.specs.Outcome.{passed, require}
use Rattle.lines.specs.Row.{fields_of}
use Rattle.report.specs.Verdict.{misfit}
use Rattle.lines.specs.Answer.{line_with}
use Rattle.report.proofs.Passing.{then_passed, require-passed}
use Rattle.headers.specs.Time.{time_size, date_text, clock_text, is_time, time_of, stamp_of}
use Rattle.headers.specs.Two.{decimal_parts, is_decimal, up_to_digits, fits_form, fit_all, two_of, row_two}
use Rattle.headers.specs.Three.{row_three}
use Rattle.headers.specs.Four.{four_of, row_four}
use Rattle.headers.specs.Thirty.{sender_name, rep_name, has_duns, ends_thirty, is_thirty, thirty_of, row_thirty}
use Rattle.headers.specs.declared.time.Time.{Time}
use Rattle.usual.specs.Answer.{UsualThirtySays}

-- A LINE PUT TOGETHER from the left, when `rest` is what stands behind the part: its first bytes, a part that is not known, one that is, a byte.
module _ (s : Bytes) {rest : Bytes} where
  pub first : (p : Bytes) → starts_with p s ≡ true → drop (length p) s ≡ rest → s ≡ p ++ rest
  first p h e = starts_whole p s h ∙ ap (λ r. p ++ r) e

  pub part : (n m : ℕ) → drop (n + m) s ≡ rest → drop n s ≡ take m (drop n s) ++ rest
  part n m e = sym (take-append-drop m (drop n s)) ∙ ap (λ r. take m (drop n s) ++ r) (drop-drop m n s ∙ e)

  pub known : (n m : ℕ) (t : Bytes) → equals (take m (drop n s)) t ≡ true → drop (n + m) s ≡ rest → drop n s ≡ t ++ rest
  known n m t h e = part n m e ∙ ap (λ r. r ++ rest) (equals_path (take m (drop n s)) t h)

  pub byte : (n b : ℕ) → n < length s → eqb (get_or s n 0) b ≡ true → drop (n + 1) s ≡ rest → drop n s ≡ b ∷ rest
  byte n b l h e = left-cons s n l ∙ rw (eqb-true (get_or s n 0) b h, e)

cr-small : (cr : Bool) → cr_size cr ≤ 1
cr-small true = omega arith
cr-small false = omega arith

-- the tests 11, 13 and 14 let a line pass that has its code and its fields
pub usual_fields : (line code : Bytes) (fs : List Bytes) (cr : Bool) → length line < line_limit → cut line ≡ code ∷ fs
    → fields_of code (length (code ∷ fs)) (line_with line cr) ≡ passed (code ∷ fs)
unfolding fields_of is_long
usual_fields line code fs cr short e =
    rw (le-ltb line_limit (length line + cr_size cr) (omega (arith, cr-small cr)), e, equals_refl code, eq-eqb (length (code ∷ fs)) (length (code ∷ fs)) refl)

-- ---- ROW TWO

unfoldable pub usual : Bytes
usual = ascii "00000002,0,0,0,,0,,900,01,1,-1,0.0,0.0,CST"

usual_passes : (cr : Bool) → passed tt ≡ row_two (line_with usual cr)
unfolding usual every equals is_empty cut number_from leading behind is_long fields_of decimal_parts is_decimal fits_form fit_all up_to_digits two_of row_two
usual_passes true = refl
usual_passes false = refl

pub two_usual : (line : Bytes) (cr r : Bool) → r ≡ equals line usual → r ≡ true → passed tt ≡ row_two (line_with line cr)
two_usual line cr r e h = rw (equals_path line usual (sym e ∙ h)) (usual_passes cr)

-- ---- ROW THREE

three_made : (line d : Bytes) → line ≡ ascii "00000003," ++ d → is_descriptor d ≡ true → (cr : Bool) → passed tt ≡ row_three (line_with line cr)
unfolding row_three is_name every
three_made line d made named cr =
    let t = and_each (leb 1 (length d)) (leb (length d) descriptor_size ∷ every is_alnum d ∷ []) named in
    let fields : cut (ascii "00000003," ++ d) ≡ ascii "00000003" ∷ d ∷ [] = cut_field (ascii "00000003") _ _ refl (cut-alone d (alnum_no_comma d (t 2))) in
    let short : length line < line_limit = rw made (omega (arith, leb-true (length d) descriptor_size (t 1))) in
    sym (rw (usual_fields line (ascii "00000003") (d ∷ []) cr short (ap cut made ∙ fields), named))

pub three_usual : (line : Bytes) (o : Option (Bor Bytes))
    → MatchOption o (pointwise eqb (take 9 line) (ascii "00000003,") ≡ false) (λ d. (pointwise eqb (take 9 line) (ascii "00000003,") ≡ true) × (d.now ≡ drop 9 line) × (length d.now + 9 ≡ length line))
    → (q : Bool) → MatchOption o (q ≡ false) (λ d. q ≡ is_descriptor d.now) → q ≡ true → (cr : Bool) → passed tt ≡ row_three (line_with line cr)
three_usual line None m q e h cr = absurd (apart (sym e ∙ h))
three_usual line (Some d) m q e h cr = three_made line d.now (strip_prefix_is Decides-eqb line (ascii "00000003,") (Some d) m) (sym e ∙ h) cr

-- ---- ROW FOUR

time_right : (f : Bytes) (t : Time) → passed t ≡ time_of f → (length f ≡ time_size) × (every is_digit f ≡ true)
unfolding time_of is_time
time_right f t e =
    let p = then_passed (require (is_time f) misfit) t (passed (record { date = date_text f; clock = clock_text f })) (sym e) in
    let all = and_each (eqb (length f) time_size) (every is_digit f ∷ is_date (date_text f) ∷ is_clock (clock_text f) ∷ []) (require-passed (is_time f) misfit p.0 p.1) in
    (eqb-true (length f) time_size (all 0), all 1)

module _ (line f : Bytes) (made : line ≡ ascii "00000004," ++ (f ++ ascii ",M")) (t : Time) (stamp : passed t ≡ time_of f) where
  four-cut : cut (ascii "00000004," ++ (f ++ ascii ",M")) ≡ ascii "00000004" ∷ f ∷ ascii "M" ∷ []
  unfolding every
  four-cut =
      cut_field (ascii "00000004") _ _ refl
      (cut_field f _ _ (digits-no-comma f (time_right f t stamp).1)
      (cut-alone (ascii "M") refl))

  pub four_usual : (cr : Bool) → passed (record { date = t.date; clock = t.clock }) ≡ row_four (line_with line cr)
  unfolding row_four four_of stamp_of equals
  four_usual cr =
      let size : length f ≡ time_size = (time_right f t stamp).0 in
      let short : length line < line_limit = rw made (simp length-append (omega arith)) in
      sym (rw (usual_fields line (ascii "00000004") _ cr short (ap cut made ∙ four-cut), ← stamp))

-- ---- ROW THIRTY

nine-duns : (a : Bytes) → length a ≡ 9 → every is_digit a ≡ true → is_duns a ≡ true
unfolding is_duns
nine-duns a l h = rw (eq-eqb (length a) 9 l, h)

duns-digits : (a : Bytes) → is_duns a ≡ true → every is_digit a ≡ true
unfolding is_duns
duns-digits a h = and_right (eqb (length a) 9 || eqb (length a) duns_size) (every is_digit a) h

duns-short : (a : Bytes) → is_duns a ≡ true → length a ≤ duns_size
unfolding is_duns
duns-short a h = go (eqb (length a) 9) refl (and_left (eqb (length a) 9 || eqb (length a) duns_size) (every is_digit a) h)
  where
    go : (t : Bool) → eqb (length a) 9 ≡ t → (t || eqb (length a) duns_size) ≡ true → length a ≤ duns_size
    go true e g = omega (arith, eqb-true (length a) 9 e)
    go false e g = omega (arith, eqb-true (length a) duns_size g)

-- REP's number, or none
pub record Rep (c : Bytes) : Type 0 where
  pub right : (is_duns c || equals c []) ≡ true
  pub digits : every is_digit c ≡ true
  pub short : length c ≤ duns_size

rep_right : (c : Bytes) → (is_empty c || is_duns c) ≡ true → Rep c
unfolding is_empty is_duns equals every
rep_right [] h = record { right = refl; digits = refl; short = omega arith }
rep_right (x ∷ c) h = record { right = rw h; digits = duns-digits (x ∷ c) h; short = duns-short (x ∷ c) h }

module _ (line a b c : Bytes) (made : line ≡ ascii "00000030,ATTRIBUTE_VALUE_PAIRS,MRE=" ++ (a ++ (ascii ",Sender=" ++ (b ++ (ascii ",Receiver=183529049,REP=" ++ c)))))
    (da : every is_digit a ≡ true) (db : every is_digit b ≡ true) (rep : Rep c) where
  thirty-cut : cut line ≡ ascii "00000030" ∷ ascii "ATTRIBUTE_VALUE_PAIRS" ∷ (ascii "MRE=" ++ a) ∷ (sender_name ++ b) ∷ ascii "Receiver=183529049" ∷ (rep_name ++ c) ∷ []
  unfolding every
  thirty-cut =
      rw made
      (cut_field (ascii "00000030") _ _ refl
      (cut_field (ascii "ATTRIBUTE_VALUE_PAIRS") _ _ refl
      (cut_field (ascii "MRE=" ++ a) _ _ (digits-no-comma a da)
      (cut_field (sender_name ++ b) _ _ (digits-no-comma b db)
      (cut_field (ascii "Receiver=183529049") _ _ refl
      (cut-alone (rep_name ++ c) (digits-no-comma c rep.digits)))))))

  thirty-made : (cr : Bool) → length a ≡ 9 → length b ≡ 9 → length line < line_limit → passed b ≡ row_thirty (line_with line cr)
  unfolding row_thirty thirty_of is_thirty has_duns ends_thirty equals starts_with
  thirty-made cr la lb short =
      sym (rw (usual_fields line (ascii "00000030") _ cr short thirty-cut, nine-duns a la da, nine-duns b lb db, rep.right))

-- the tests, as the reader joins them
module _ (line : Bytes) (room : 85 ≤ length line) (p q u v w x y : Bool)
    (ep : p ≡ starts_with (ascii "00000030,ATTRIBUTE_VALUE_PAIRS,MRE=") line)
    (eq : q ≡ every is_digit (take 9 (drop 35 line)))
    (eu : u ≡ equals (take 8 (drop 44 line)) (ascii ",Sender="))
    (ev : v ≡ every is_digit (take 9 (drop 52 line)))
    (ew : w ≡ equals (take 24 (drop 61 line)) (ascii ",Receiver=183529049,REP="))
    (ex : x ≡ is_empty (take (length line - 85) (drop 85 line))) (ey : y ≡ is_duns (take (length line - 85) (drop 85 line))) where
  shaped-passes : (p && q && u && v && w && (x || y)) ≡ true → (cr : Bool) → passed (take 9 (drop 52 line)) ≡ row_thirty (line_with line cr)
  shaped-passes h cr =
      let t = and_each p (q ∷ u ∷ v ∷ w ∷ (x || y) ∷ []) h in
      let end : Rep (drop 85 line) = rep_right (drop 85 line) (rw (← left-whole line 85, ← ex, ← ey) (t 5)) in
      thirty-made line (take 9 (drop 35 line)) (take 9 (drop 52 line)) (drop 85 line)
      (first line _ (sym ep ∙ t 0)
      (part line 35 9
      (known line 44 8 _ (sym eu ∙ t 2)
      (part line 52 9
      (known line 61 24 _ (sym ew ∙ t 4) refl)))))
      (sym eq ∙ t 1) (sym ev ∙ t 3) end cr
      (length-take-le 9 (drop 35 line) (simp length-drop (omega arith)))
      (length-take-le 9 (drop 52 line) (simp length-drop (omega arith)))
      (omega (arith, end.short, length-drop 85 line))

  pub thirty_usual : (sender : Bor Bytes) → sender.now ≡ take 9 (drop 52 line) → (cr : Bool)
      → UsualThirtySays (then_some (p && q && u && v && w && (x || y)) sender) (line_with line cr)
  thirty_usual sender es cr = go (p && q && u && v && w && (x || y)) refl
    where
      go : (t : Bool) → (p && q && u && v && w && (x || y)) ≡ t → UsualThirtySays (then_some t sender) (line_with line cr)
      go true h = rw es (shaped-passes h cr)
      go false h = tt
