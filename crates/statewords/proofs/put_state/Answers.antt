-- `statewords::put_state` meets its contract.
-- Assumes nothing.
use mathlib.Core.Path.{◌∙◌}
use Rattle.std.proofs.Common.{rules}
use Rattle.statewords.specs.Layout.{words_of}
use Rattle.statewords.proofs.Parts.{Sized, after_is, put_all, held_back, taken_back}
use Rattle.statewords.proofs.put_state.Goals as goal

sized : (c : goal.After-copy-3) → Sized c.put_bytes.new.to c.copy.new.to c.copy-2.new.to c.put_bytes-2.new.to c.put_bytes-3.new.to c.copy-3.new.to
sized c =
    record {
      kept_sized = rw c.put_bytes.ensures.put (search rules);
      numbers_sized = rw c.copy.ensures (search rules);
      unit_sized = rw c.copy-2.ensures (search rules);
      id_sized = rw c.put_bytes-2.ensures.put (search rules);
      sender_sized = rw c.put_bytes-3.ensures.put (search rules);
      words_sized = rw c.copy-3.ensures (search rules);
    }

pub returns-clause-words : goal.returns-clause-words
unfolding words_of
returns-clause-words c =
    after_is c.args.state.now c.put_bytes.new.to c.copy.new.to c.copy-2.new.to c.put_bytes-2.new.to c.put_bytes-3.new.to
    c.copy-3.new.to (search rules) (sized c)
    ∙ rw (
      c.put_bytes.ensures.put,
      c.copy.ensures,
      c.number_words-numbers.ensures,
      c.copy-2.ensures,
      c.unit_words-unit.ensures.words,
      c.put_bytes-2.ensures.put,
      c.put_bytes-3.ensures.put,
      c.copy-3.ensures,
    )

pub returns-clause-back : goal.returns-clause-back
returns-clause-back c =
    put_all c.args.state.now c.put_bytes.new.to c.copy.new.to c.copy-2.new.to c.put_bytes-2.new.to c.put_bytes-3.new.to
    c.copy-3.new.to (search rules) (sized c)
    ∙ rw (
      c.put_bytes.ensures.put,
      c.put_bytes.ensures.bytes,
      c.copy.ensures,
      c.number_words-numbers.ensures,
      held_back c.args.given.now.scan.held c.args.given.now.taken c.args.given.now.scan.lines,
      taken_back c.args.given.now.scan.held c.args.given.now.taken c.args.given.now.scan.lines,
      c.copy-2.ensures,
      c.unit_words-unit.ensures.back,
      c.put_bytes-2.ensures.put,
      c.put_bytes-2.ensures.bytes,
      c.put_bytes-3.ensures.put,
      c.put_bytes-3.ensures.bytes,
      c.copy-3.ensures,
    )
