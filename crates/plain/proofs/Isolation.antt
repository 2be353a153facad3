-- Isolation over one file: A's events, X's, B's further down.
-- Assumes nothing.
use mathlib.Core.List.{List, [], ◌++◌, append_assoc, append-nil}
use mathlib.Core.Path.{◌≡◌, refl, ap, sym, ◌∙◌}
use Prim.Native.Nat.{ℕ, suc, ◌+◌}
use native.Mathlib.Nat.{add-zero, zero-add}
use native.Mathlib.Omega.{arith}
use Rattle.text.specs.Byte.{Bytes}
use Rattle.lines.specs.declared.line.Kind.TheVariants.{Detail}
use Rattle.plain.specs.Claim.{lines_from, line_count, events_in}
use Rattle.plain.specs.Loader.{OpenUnit, no_unit, takes_rows, waits, skips, Event, close, Scan, scan, start, scan_to, scan_events, end_at, end_events, file_from, file_events}
use Rattle.plain.specs.Rows.{Rules}
use Rattle.plain.proofs.Lines.{whole-scan}
use Rattle.plain.proofs.Pieces.{file-append}
use Rattle.plain.proofs.Raise.{raise_events, file-raise}
use Rattle.plain.proofs.Range.{Within, UnitWithin, within-append, close-within, scan-within, file-within, in_append, in_all, in_below, in_above}
use Rattle.plain.proofs.Seam.{first_all, first_seam, opens, wait_file}
use Rattle.plain.proofs.Bounds.{TakesRows, Seams}

module _ (R : Rules) where
  -- the unit as it is once it has been closed, if it waited
  abbrev settled : OpenUnit → OpenUnit
  settled no_unit = no_unit
  settled (takes_rows f rows) = no_unit
  settled (waits f l r) = no_unit
  settled skips = skips

  settled-within : (a z : ℕ) (w : OpenUnit) → UnitWithin a z (settled w)
  settled-within a z no_unit = tt
  settled-within a z (takes_rows f rows) = tt
  settled-within a z (waits f l r) = tt
  settled-within a z skips = tt

  settled-close : (n : ℕ) (w : OpenUnit) → close n (settled w) ≡ []
  unfolding close
  settled-close n no_unit = refl
  settled-close n (takes_rows f rows) = refl
  settled-close n (waits f l r) = refl
  settled-close n skips = refl

  leave : (n : ℕ) (w : OpenUnit) (s : Bytes) → ¬ TakesRows w → ¬ (first_all [] s ≡ Detail)
      → file_from R (scan [] n w) s ≡ close (suc n) w ++ file_from R (scan [] n (settled w)) s
  unfolding close
  leave n no_unit s h g = refl
  leave n (takes_rows f rows) s h g = absurd (h tt)
  leave n (waits f l r) s h g = wait_file R f l r [] s n g
  leave n skips s h g = refl

  start-raise : (m : ℕ) (b : Bytes) → file_from R (scan [] m no_unit) b ≡ raise_events m (file_events R b)
  unfolding file_events
  start-raise m b = ap (λ n. file_from R (scan [] n no_unit) b) (sym (add-zero m)) ∙ file-raise m R start b

  events-from : (f : Bytes) → file_events R f ≡ file_from R start f
  unfolding file_events
  events-from f = refl

  module _ (a x b : Bytes) (h : Seams R a x b) where
    na : ℕ
    na = line_count a

    nx : ℕ
    nx = line_count x

    wa : OpenUnit
    wa = (scan_to R start a).unit

    wx : OpenUnit
    wx = (scan_to R (scan [] na (settled wa)) x).unit

    a_unit : ¬ TakesRows wa
    unfolding wa
    a_unit = h.a_unit

    after_a : scan_to R start a ≡ scan [] na wa
    unfolding na wa
    after_a = rw (← zero-add (line_count a)) (whole-scan R 0 no_unit a h.a_whole)

    after_x : scan_to R (scan [] na (settled wa)) x ≡ scan [] (na + nx) wx
    unfolding nx wx
    after_x = whole-scan R na (settled wa) x h.x_whole

    -- the events of units begun in X
    x_events : List Event
    x_events = scan_events R (scan [] na (settled wa)) x ++ close (suc (na + nx)) wx

    alone_a : file_events R a ≡ scan_events R start a ++ close (suc na) wa
    unfolding file_events file_from end_events end_at
    alone_a = rw after_a

    three : file_events R (a ++ (x ++ b)) ≡ file_events R a ++ (x_events ++ raise_events (na + nx) (file_events R b))
    unfolding x_events
    three =
        events-from (a ++ (x ++ b)) ∙ rw (
          file-append R start a (x ++ b),
          after_a,
          leave na wa (x ++ b) a_unit (first_seam x b h.x_whole h.x_first h.b_opens),
          file-append R (scan [] na (settled wa)) x b,
          after_x,
          opens R (na + nx) wx b h.b_opens,
          start-raise (na + nx) b,
          alone_a,
        )
        (simp append_assoc)

    within_x : Within na (na + nx) x_events
    unfolding x_events wx
    within_x =
        let s : Scan = scan [] na (settled wa) in
        let e : (scan_to R s x).lines ≡ na + nx = ap (λ t. t.lines) after_x in
        let p : Within na (na + nx) (scan_events R s x) × UnitWithin na (na + nx) (scan_to R s x).unit
        = scan-within R na (na + nx) s x (omega arith) (omega arith) (settled-within na (na + nx) wa) in
        within-append na (na + nx) (scan_events R s x) (close (suc (na + nx)) wx) p.0 (close-within na (na + nx) (suc (na + nx)) wx p.1)

    within_a : Within 0 na (file_events R a)
    unfolding wa
    within_a =
        let e : (scan_to R start a).lines ≡ na = ap (λ t. t.lines) after_a in
        let p : Within 0 na (scan_events R start a) × UnitWithin 0 na (scan_to R start a).unit
        = scan-within R 0 na start a (omega arith) (omega arith) tt in
        rw alone_a (within-append 0 na (scan_events R start a) (close (suc na) wa) p.0 (close-within 0 na (suc na) wa p.1))

    within_b : Within 0 (suc (scan_to R start b).lines) (file_events R b)
    within_b = rw (events-from b) (file-within R 0 start b (omega arith) tt)

    x_told : events_in na nx (file_events R (a ++ (x ++ b))) ≡ x_events
    x_told =
        rw (
          three,
          in_append na nx (file_events R a) (x_events ++ raise_events (na + nx) (file_events R b)),
          in_append na nx x_events (raise_events (na + nx) (file_events R b)),
          in_below na nx 0 (file_events R a) within_a,
          in_all na nx x_events within_x,
          in_above na nx (suc (scan_to R start b).lines) (file_events R b) within_b,
        )
        (append-nil x_events)

    pub isolated : file_events R (a ++ (x ++ b))
        ≡ file_events R a
        ++ (events_in (line_count a) (line_count x) (file_events R (a ++ (x ++ b))) ++ raise_events (line_count a + line_count x) (file_events R b))
    unfolding na nx
    isolated = rw x_told three

  -- with nothing between them
  pub joined_files : (a b : Bytes) → Seams R a [] b → file_events R (a ++ b) ≡ file_events R a ++ raise_events (line_count a) (file_events R b)
  unfolding lines_from na nx x_events wx scan_to scan_events
  joined_files a b h =
      three a [] b h ∙ ap (λ e. file_events R a ++ (e ++ raise_events (line_count a + 0) (file_events R b))) (nothing a b h)
      ∙ ap (λ n. file_events R a ++ raise_events n (file_events R b)) (add-zero (line_count a))
    where
      nothing : (c d : Bytes) (g : Seams R c [] d) → x_events c [] d g ≡ []
      nothing c d g = settled-close (suc (na c [] d g + nx c [] d g)) (wa c [] d g)
