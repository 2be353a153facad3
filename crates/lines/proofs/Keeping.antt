-- Bytes put behind those that are held, as far as there is room.
-- Assumes nothing.
use Rattle.std.proofs.Common.{◌≡◌, ℕ, ◌+◌, ◌-◌, ◌≤◌, ◌++◌, length, take, min, arith, ap, sym, ◌∙◌}
use Rattle.std.proofs.Math.Seq.{take-append-add, length-take-le}
use Rattle.std.proofs.lemmas.List.{take_min}
use Rattle.text.specs.Byte.{Bytes}
use Rattle.lines.specs.Line.{kept_limit}

pub kept_part : (kept part : Bytes) (held : ℕ) → length kept ≡ kept_limit → held ≤ kept_limit
    → take held kept ++ take (min (kept_limit - held) (length part)) part ≡ take kept_limit (take held kept ++ part)
kept_part kept part held long few =
    let l : length (take held kept) ≡ held = length-take-le held kept (omega arith) in
    let all : held + (kept_limit - held) ≡ kept_limit = omega arith in
    ap (λ r. take held kept ++ r) (take_min (kept_limit - held) part) ∙ sym (rw (l, all) at (take-append-add (take held kept) part (kept_limit - held)))
