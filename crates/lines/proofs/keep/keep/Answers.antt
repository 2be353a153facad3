-- `lines::keep::keep` meets its contract.
-- Assumes nothing.
use Rattle.std.proofs.Common.{rules, arith, ap, ◌∙◌, ◌++◌, ◌≡◌, ◌+◌, ◌-◌, length, take}
use borrow.Rule.Slice.PartMut.{same_len_mid}
use Rattle.std.proofs.lemmas.Slice.{take-put_mid}
use Rattle.lines.specs.Line.{kept_limit}
use Rattle.lines.proofs.Keeping.{kept_part}
use Rattle.lines.proofs.keep.keep.Goals as goal

pub returns : goal.returns
returns c =
    let kept = c.args.kept.now in
    let long : length kept ≡ kept_limit = search rules in
    let n : c.args.held + c.min.result - c.args.held ≡ c.min.result = omega arith in (
      take-put_mid c.args.held _ kept _ _ (omega arith) (omega arith)
          ∙ ap (λ r. take c.args.held kept ++ r) (c.copy.ensures ∙ ap (λ i. take i c.args.part.now) (n ∙ c.min.ensures))
          ∙ kept_part kept c.args.part.now c.args.held long c.requires,
      search rules,
      same_len_mid c.args.held _ kept _ (search rules) ∙ long,
    )
