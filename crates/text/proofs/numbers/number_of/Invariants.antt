-- What the loop of `text::numbers::number_of` keeps.
use Rattle.std.proofs.Common.{◌≡◌, ◌<◌, ◌^◌, drop}
use Rattle.text.specs.Number.{number_from}
use Rattle.text.proofs.numbers.number_of.Given as goal

abbrev pub invariant-loop-b : goal.invariant-loop-b
invariant-loop-b l = record {
  below : l.n < 10 ^ l.b-index;
  read : number_from 0 l.s ≡ number_from l.n (drop l.b-index l.s);
}
