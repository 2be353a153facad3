-- What the one function behind feed and finish is asked.
-- Assumes nothing.
use Rattle.std.specs.Prelude.{Option, Some, None}
use denote.Ref.{Bor}
use Rattle.text.specs.Byte.{Bytes}
use Rattle.plain.specs.Call.{Asked, feed, finish}

-- to feed a piece, or to finish
abbrev pub asked_of : Option (Bor Bytes) → Asked
asked_of (Some piece) = feed piece.now
asked_of None = finish
