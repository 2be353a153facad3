-- The state that fresh gives, and that a finish that is done leaves. Document 01, "Calls".
-- Assumes nothing.
use Rattle.std.specs.Prelude.{replicate}
use Rattle.lines.specs.Line.{kept_limit}
use Rattle.text.specs.Identifier.{esi_id_size, duns_size}
use Rattle.padded.specs.Padding.{space}
use Rattle.cell.specs.Read.{cleared}
use Rattle.units.specs.declared.Unit.TheVariants.{None}
use Rattle.state.specs.declared.State.{State}

-- nothing kept or held, no line counted, no unit open, ESI ID and Sender all spaces, the words of a cleared cell, nothing taken
unfoldable pub fresh_state : State
fresh_state =
    record {
      scan = record {
        kept = replicate kept_limit 0;
        held = 0;
        lines = 0;
        unit = None;
        parts = record { id = replicate esi_id_size space; sender = replicate duns_size space; words = cleared };
      };
      taken = 0;
    }
