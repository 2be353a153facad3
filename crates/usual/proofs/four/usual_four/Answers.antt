-- `usual::four::usual_four` meets its contract.
-- Assumes nothing.
use mathlib.Core.Path.{◌≡◌, ap, ◌∙◌}
use mathlib.Core.List.{◌++◌}
use Rattle.std.specs.Prelude.{Some}
use Rattle.std.proofs.lemmas.Slice.Eq.{strip_prefix_is, strip_suffix_is}
use Rattle.std.proofs.lemmas.Bool.Decides.{Decides-eqb}
use Rattle.text.specs.Byte.{ascii}
use Rattle.report.proofs.Passing.{value-taken}
use Rattle.usual.proofs.Usual.{four_usual}
use Rattle.usual.proofs.four.usual_four.Goals as goal

pub returns : goal.returns
returns c cr =
    let behind = c.in_ok-strip_prefix.field-0 in
    let stamp = c.in_ok-stamp.stamp in
    let head : c.args.line.now ≡ ascii "00000004," ++ behind.now = strip_prefix_is Decides-eqb _ (ascii "00000004,") (Some behind) c.in_ok-strip_prefix.ensures.cases in
    let tail : behind.now ≡ stamp.now ++ ascii ",M" = strip_suffix_is Decides-eqb _ (ascii ",M") (Some stamp) c.in_ok-stamp.ensures.cases in
    rw c.from.ensures
    (four_usual _ stamp.now (head ∙ ap (λ r. ascii "00000004," ++ r) tail) _ (value-taken _ _ c.in_ok-time.ensures.value ∙ c.read_time.ensures) cr)
