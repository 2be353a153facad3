-- The words of the fresh state are as many as a state has, and are that state.
-- Assumes nothing.
use mathlib.Core.Path.{◌≡◌, refl}
use lib.ListN.{length}
use Rattle.cell.specs.Read.{cleared}
use Rattle.state.specs.Fresh.{fresh_state}
use Rattle.statewords.specs.Layout.{state_words, bytes_in, wide_in, unit_from, state_in, words_of}

pub fresh-long : length (words_of fresh_state) ≡ state_words
unfolding words_of fresh_state cleared
fresh-long = refl

pub fresh-back : state_in (words_of fresh_state) ≡ fresh_state
unfolding words_of fresh_state cleared state_in bytes_in wide_in unit_from
fresh-back = refl
