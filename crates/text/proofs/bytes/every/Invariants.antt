-- What the loop of `text::bytes::every` keeps: for every test that the class computes, what was found and what is left are the whole.
use Rattle.std.proofs.Common.{◌≡◌, Bool, ◌&&◌, drop}
use Rattle.text.specs.Byte.{every}
use Rattle.text.proofs.bytes.every.Given as goal

abbrev pub invariant-loop-item : goal.invariant-loop-item
invariant-loop-item g l = record {
  callable : goal.F-IsAlwaysCallable g l.class;
  found : (test : _) → ((x : _) (r : Bool) → goal.F-post g l.class x r → r ≡ test x) → every test l.fn.items ≡ (l.all && every test (drop l.item-index l.fn.items));
}
