-- The view of a state: what it is in the plain loader's terms, by plain/specs/Promise.
-- Assumes nothing.
use Rattle.plain.specs.Promise.{View}
use Rattle.pieces.specs.Ran.{scan_of}
use Rattle.state.specs.declared.State.{State}

unfoldable pub view_of : State → View
view_of s = record { plain = record { scanned = scan_of s.scan; taken = s.taken }; held = s.scan.held }
