-- A fresh state is what the plain loader starts with.
-- Assumes nothing.
use mathlib.Core.Path.{◌≡◌, refl}
use Rattle.plain.specs.Call.{fresh}
use Rattle.plain.specs.Promise.{cut_to, view_from}
use Rattle.state.specs.Fresh.{fresh_state}
use Rattle.state.specs.View.{view_of}

pub fresh-view : view_of fresh_state ≡ view_from fresh
unfolding fresh_state view_of view_from cut_to
fresh-view = refl
