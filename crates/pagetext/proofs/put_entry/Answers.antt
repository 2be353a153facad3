-- `pagetext::put_entry` meets its contract.
-- Assumes nothing.
use mathlib.Core.Path.{◌∙◌}
use native.Mathlib.Omega.{arith}
use Rattle.pagetext.proofs.Entry.{in_column, entry_put}
use Rattle.pagetext.proofs.put_entry.Goals as goal

pub returns : goal.returns
returns c =
    entry_put c.args.e _ _ _ _ _ _ c.split_at_mut-text.result.1.now
    (in_column _ _ _ _ c.put_right.ensures c.split_at_mut-first.ensures.front_len)
    (in_column _ _ _ _ c.put_right-2.ensures c.split_at_mut-verdict.ensures.front_len)
    (in_column _ _ _ _ c.put_right-3.ensures c.split_at_mut-at.ensures.front_len)
    (in_column _ _ _ _ c.put_right-4.ensures c.split_at_mut-meter.ensures.front_len)
    (in_column _ _ _ _ c.put_right-5.ensures c.split_at_mut-day.ensures.front_len)
    (c.copy_from_slice.ensures.after ∙ c.text_of.ensures)
    (omega (
      arith,
      c.requires,
      c.split_at_mut-first.ensures.back_len,
      c.split_at_mut-verdict.ensures.back_len,
      c.split_at_mut-at.ensures.back_len,
      c.split_at_mut-meter.ensures.back_len,
      c.split_at_mut-day.ensures.back_len,
      c.split_at_mut-text.ensures.back_len,
    ))
