-- The theorems of this crate. What they say is in specs/Claim.antt; each cites the file with the work.
-- Assumes nothing.
use mathlib.Core.List.{List}
use mathlib.Core.Path.{refl}
use Prim.Native.Nat.{◌≤◌}
use lib.ListN.{length}
use Rattle.text.specs.Byte.{Bytes}
use Rattle.cell.specs.Layout.{Words}
use Rattle.plain.specs.Call.{room_for, Asked, fresh}
use Rattle.plain.specs.Claim.{TheClaim}
use Rattle.plain.specs.Loader.{Scan, scan_events, end_events}
use Rattle.plain.specs.Promise.{view_from, Made, Chain}
use Rattle.plain.specs.Rows.{Rules, rules_of}
use Rattle.report.specs.declared.Entry.{Entry}
use Rattle.plain.proofs.AnyRules.{any_demand3}
use Rattle.plain.proofs.Calls.{NeverBad, fresh_kept, follow, follow_not_bad}
use Rattle.plain.proofs.Chains.{made_all, chain_made}
use Rattle.plain.proofs.Lawful.{Lawful}
use Rattle.plain.proofs.Room.{feed-room, finish-room}
use Rattle.plain.proofs.Rules.{lawful}

-- Demand 3, for every registry, every starting table and every list of calls.
pub demand3 : TheClaim
demand3 reg t ms chain = any_demand3 (rules_of reg) (lawful reg) t ms chain

-- Refusal 1 never comes up from a fresh state.
pub never_bad_state : (reg : Bytes) (t : Words) (ms : List Made) → Chain (rules_of reg) (view_from fresh) t ms → NeverBad ms
never_bad_state reg t ms chain =
    let R : Rules = rules_of reg in
    let L : Lawful R = lawful reg in
    follow_not_bad R L fresh t ms (follow R L fresh (view_from fresh) t ms refl (fresh_kept R L) chain)

-- The room that refusal 4 asks for is enough, from any state.
pub room_for_feed : (reg : Bytes) (s : Scan) (piece : Bytes) → length (scan_events (rules_of reg) s piece) ≤ room_for (length piece)
room_for_feed reg s piece = feed-room (rules_of reg) s piece

pub room_for_finish : (reg : Bytes) (s : Scan) → length (end_events (rules_of reg) s) ≤ room_for 0
room_for_finish reg s = finish-room (rules_of reg) s

-- Every list of calls has a chain, so the claim is about something.
pub has_chain : (reg : Bytes) (t : Words) (cs : List (Asked × List Entry)) → Chain (rules_of reg) (view_from fresh) t (made_all (rules_of reg) cs (view_from fresh) t)
has_chain reg t cs = chain_made (rules_of reg) cs (view_from fresh) t
